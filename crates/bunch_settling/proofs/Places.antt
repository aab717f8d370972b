-- The words that the code writes are those of the message that it means.
use Prim.Native.Nat.{ℕ, zero, suc, ◌+◌, ◌<◌}
use mathlib.Core.Path.{◌≡◌, refl, sym, ap, ◌∙◌}
use mathlib.Core.Bool.{Bool}
use mathlib.Core.List.{List, [], ◌∷◌}
use native.Mathlib.Nat.{not-suc-le-zero, le_of_suc-le-suc}
use native.Mathlib.Omega.{arith}
use lib.ListN.{length, get_or, set, take, drop, get_or-map}
use lib.Seq.{get_or-take}
use Rattle.types.specs.declared.RawBunchHeader.{RawBunchHeader}
use Rattle.std.specs.Prelude.{Ok}
use Rattle.tables.specs.Tables.{found, values, slot_of}
use Rattle.bunch_judging.specs.Held.{Fragment}
use Rattle.bunch_judging.specs.Fates.{sequence_word}
use Rattle.bunch_judging.specs.Messages.{fresh, base, grown}
use Rattle.bunch_held.specs.declared.Accumulator.{Accumulator}
use Rattle.bunch_held.specs.Memory.{HeldMemory, place_words, held_at}
use Rattle.bunch_held.specs.State.{Stands}
use Rattle.bunch_held.specs.Calls.{held_by}
use Rattle.bunch_held.proofs.Holding.{message_at, places_are, message_at_is, kept}
use Rattle.bunch_held.proofs.Keeping.{good_held}
use Rattle.bunch_held.proofs.Edits.{place_live, get_there}
use Rattle.bunch_settling.specs.Fragments.{started_words, joined_words}

pub three_set : (p : List ℕ) (x y z : ℕ) → length p ≡ 24 → set (set (set p 0 x) 1 y) 3 z ≡ x ∷ y ∷ get_or p 2 0 ∷ z ∷ drop 4 p
three_set [] x y z h = absurd (omega arith)
three_set (a ∷ []) x y z h = absurd (omega arith)
three_set (a ∷ b ∷ []) x y z h = absurd (omega arith)
three_set (a ∷ b ∷ c ∷ []) x y z h = absurd (omega arith)
three_set (a ∷ b ∷ c ∷ d ∷ p) x y z h = refl

-- three stores to a place, one after the other
pub three_stored : (ps : List (List ℕ)) (i x y z : ℕ) → i < length ps → length (get_or ps i []) ≡ 24
    → let a = set ps i (set (get_or ps i []) 0 x) in let b = set a i (set (get_or a i []) 1 y) in set b i (set (get_or b i []) 3 z) ≡ set ps i (x ∷ y ∷ get_or (get_or ps i []) 2 0 ∷ z ∷ drop 4 (get_or ps i []))
three_stored [] i x y z h g = absurd (not-suc-le-zero h)
three_stored (p ∷ ps) zero x y z h g = ap (λ (q : List ℕ). q ∷ ps) (three_set p x y z g)
three_stored (p ∷ ps) (suc i) x y z h g = ap (λ (qs : List (List ℕ)). p ∷ qs) (three_stored ps i x y z (le_of_suc-le-suc h) g)

pub started_is : (h : RawBunchHeader) (finished : Bool) (f : Fragment) → place_words (grown finished (fresh h) f) ≡ started_words h (sequence_word h) f.bits finished
unfolding place_words
started_is h finished f = let e : 0 + f.bits ≡ f.bits = omega arith in rw e refl

pub joined_is : (p bytes : List ℕ) (h : RawBunchHeader) (finished : Bool) (f : Fragment) → place_words (held_at p bytes) ≡ p
    → place_words (grown finished (base (found (held_at p bytes)) h) f) ≡ joined_words p (sequence_word h) f.bits finished
unfolding place_words held_at
joined_is p bytes h finished f e = rw (ap (λ (t : List ℕ). get_or t 2 0) e) refl

any_default : {A : Type 0} (l : List A) (i : ℕ) (d e : A) → i < length l → get_or l i d ≡ get_or l i e
any_default [] i d e h = absurd (not-suc-le-zero h)
any_default (x ∷ l) zero d e h = refl
any_default (x ∷ l) (suc i) d e h = any_default l i d e (le_of_suc-le-suc h)

-- a live place says its message
pub place_is : (a : Accumulator) (m : HeldMemory) → Stands a m → (i : ℕ) → i < a.active → place_words (message_at m i) ≡ get_or m.places i []
place_is a m s i h =
    let d = held_at [] [] in
    sym (get_or-map place_words (values (held_by a m)) i d ∙ ap place_words (message_at_is a m s d i h))
    ∙ rw (places_are a m s) (get_or-take a.active m.places i (place_words d) h)
    ∙ any_default m.places i (place_words d) [] (omega (arith, s))

pub place_long : (a : Accumulator) (m : HeldMemory) → Stands a m → (c i : ℕ) → slot_of c (take a.active m.channels) ≡ Ok i → length (get_or m.places i []) ≡ 24
unfolding place_words
place_long a m s c i slot =
    let good = good_held c (held_by a m) (get_there a m s c i slot) (kept a m s).good in
    sym (ap length (place_is a m s i (place_live a m s c i slot))) ∙ omega (arith, good.header_words)
