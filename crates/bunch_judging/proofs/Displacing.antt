-- The bits of what a fate displaces, as a number, for any fate.
use mathlib.Core.Path.{◌≡◌, refl, ◌∙◌}
use mathlib.Core.Bool.{Bool, true, false, not, ◌||◌, cond}
use mathlib.Core.List.{List, [], ◌∷◌, ◌++◌}
use Prim.Native.Nat.{ℕ, ◌+◌, ◌≤◌}
use native.Mathlib.Omega.{arith}
use lib.Dec.{eqb}
use Rattle.std.specs.Prelude.{Option, Some, None}
use borrow.Author.Tests.{eqb-true}
use Rattle.types.specs.declared.RawBunchHeader.{RawBunchHeader}
use Rattle.tables.specs.Tables.{Found, none, found}
use Rattle.bunch_judging.specs.declared.PartialDiscardCause.{PartialDiscardCause}
use Rattle.bunch_judging.specs.declared.Fate.{Fate}
use Rattle.bunch_judging.specs.declared.Standing.{Standing}
use Rattle.bunch_judging.specs.Held.{Held, Fragment, Displaced}
use Rattle.bunch_judging.specs.Headers.{after_test}
use Rattle.bunch_judging.specs.Messages.{replaced_by, joined_by, base, displaced_by, displaced, bits_of_all, bits_held}
use Rattle.bunch_judging.specs.Standings.{held_of, standing_bits, displaced_bits}

pub held_bits : (s : Option Standing) (words bytes : List ℕ) → bits_held (held_of s words bytes) ≡ standing_bits s
held_bits None words bytes = refl
held_bits (Some s) words bytes = refl

pub at_most : (x : Fate) (initial : Bool) (held bits : ℕ) → displaced_bits x initial held bits ≤ held + bits
unfolding displaced_bits
at_most Fate.TurnedAway initial held bits = omega arith
at_most (Fate.Breaks k) initial held bits = omega arith
at_most (Fate.Fails c) initial held bits = omega arith
at_most Fate.Joins true held bits = omega arith
at_most Fate.Joins false held bits = omega arith
at_most Fate.Finishes true held bits = omega arith
at_most Fate.Finishes false held bits = omega arith
at_most Fate.Falls initial held bits = go (initial || not (eqb bits 0))
  where
    go : (b : Bool) → cond b (held + bits) 0 ≤ held + bits
    go true = omega arith
    go false = omega arith

appended : (xs ys : List Displaced) → bits_of_all (xs ++ ys) ≡ bits_of_all xs + bits_of_all ys
unfolding bits_of_all
appended [] ys = omega arith
appended (x ∷ xs) ys = omega (arith, appended xs ys)

by : (c : PartialDiscardCause) (m : Found Held) → bits_of_all (displaced_by c m) ≡ bits_held m
unfolding bits_of_all
by c none = refl
by c (found m) = omega arith

parts : (b : Bool) (m : Found Held) → bits_held (replaced_by b m) + bits_held (joined_by b m) ≡ bits_held m
parts true m = omega arith
parts false m = omega arith

both : (c d : PartialDiscardCause) (b : Bool) (m : Found Held) → bits_of_all (displaced_by c (replaced_by b m) ++ displaced_by d (joined_by b m)) ≡ bits_held m
both c d b m = rw (appended, by c (replaced_by b m), by d (joined_by b m)) (parts b m)

either : (c : PartialDiscardCause) (b : Bool) (m : Found Held) → bits_of_all (displaced_by c (replaced_by b m)) ≡ cond b (bits_held m) 0
either c true m = by c m
either c false m = by c none

pub join_bits : (m : Found Held) (h : RawBunchHeader) → (base m h).message.bits ≡ bits_held m
join_bits none h = refl
join_bits (found m) h = refl

-- of a message that falls at its final
ends : (c : PartialDiscardCause) (m : Found Held) (f : Fragment) (b zero : Bool) (x : Displaced) → eqb f.bits 0 ≡ zero → x.message.bits ≡ bits_held (joined_by b m) + f.bits
    → bits_of_all (displaced_by c (replaced_by b m) ++ cond zero [] (x ∷ [])) ≡ cond (b || not zero) (bits_held m + f.bits) 0
unfolding bits_of_all
ends c m f true true x e n = appended (displaced_by c m) [] ∙ omega (arith, by c m, eqb-true f.bits 0 e)
ends c m f true false x e n = appended (displaced_by c m) (x ∷ []) ∙ omega (arith, by c m)
ends c m f false true x e n = refl
ends c m f false false x e n = omega arith

pub displaced_bits_are : (x : Fate) (m : Found Held) (f : Fragment) → bits_of_all (displaced x m f) ≡ displaced_bits x f.header.b_partial_initial (bits_held m) f.bits
unfolding displaced bits_of_all displaced_bits
displaced_bits_are Fate.TurnedAway m f = refl
displaced_bits_are (Fate.Breaks k) m f = by _ m
displaced_bits_are (Fate.Fails c) m f = both _ c f.header.b_partial_initial m
displaced_bits_are Fate.Joins m f = either _ f.header.b_partial_initial m
displaced_bits_are Fate.Finishes m f = either _ f.header.b_partial_initial m
displaced_bits_are Fate.Falls m f =
    ends _ m f f.header.b_partial_initial (eqb f.bits 0) _ refl (omega (arith, join_bits (joined_by f.header.b_partial_initial m) (after_test m f.header)))
