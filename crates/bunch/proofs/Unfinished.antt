-- The unfinished messages of a state: those of a part and the rest, and how many and how long they are by their places.
use Prim.Native.Nat.{ℕ, ◌+◌, ◌≤◌}
use mathlib.Core.Path.{◌≡◌, refl, sym, ap, ◌∙◌}
use mathlib.Core.Bool.{Bool, true, false, cond}
use mathlib.Core.List.{[], ◌∷◌, ◌++◌, map, append_assoc}
use native.Mathlib.Omega.{arith}
use lib.Dec.{eqb}
use lib.ListN.{length, take, drop, take-append-drop, length-append}
use mir.Val.{bool_byte}
use Rattle.tables.specs.Tables.{values}
use Rattle.bunch_places.specs.Packed.{joined}
use Rattle.bunch_held.specs.Memory.{State, place_words, size_of, sum_of, bytes_all}
use Rattle.bunch_held.specs.State.{AllGood}
use Rattle.bunch.specs.Draining.{unfinished}
use Rattle.bunch.specs.Shown.{shown_count, shown_size}

pub unfinished_append : (s t : State) → unfinished (s ++ t) ≡ unfinished s ++ unfinished t
unfolding unfinished
unfinished_append [] t = refl
unfinished_append (e ∷ s) t = go e.1.finished (unfinished_append s t)
  where
    go : (b : Bool) → unfinished (s ++ t) ≡ unfinished s ++ unfinished t → cond b (unfinished (s ++ t)) (e ∷ unfinished (s ++ t)) ≡ cond b (unfinished s) (e ∷ unfinished s) ++ unfinished t
    go true ih = ih
    go false ih = ap (λ (u : State). e ∷ u) ih

pub bytes_append : (s t : State) → bytes_all (s ++ t) ≡ bytes_all s ++ bytes_all t
unfolding joined
bytes_append [] t = refl
bytes_append (e ∷ s) t = rw (bytes_append s t, append_assoc)

-- ## A part of the state

module _ (s : State) (i : ℕ) where
  parts : unfinished s ≡ unfinished (take i s) ++ unfinished (drop i s)
  parts = ap unfinished (sym (take-append-drop i s)) ∙ unfinished_append (take i s) (drop i s)

  pub fewer : length (unfinished (take i s)) ≤ length (unfinished s)
  fewer = omega (arith, ap length parts, length-append (unfinished (take i s)) (unfinished (drop i s)))

  pub shorter : length (bytes_all (unfinished (take i s))) ≤ length (bytes_all (unfinished s))
  shorter =
      let e = ap bytes_all parts ∙ bytes_append (unfinished (take i s)) (unfinished (drop i s)) in
      omega (arith, ap length e, length-append (bytes_all (unfinished (take i s))) (bytes_all (unfinished (drop i s))))

-- ## By their places

pub counts_shown : (s : State) → sum_of shown_count (map place_words (values s)) ≡ length (unfinished s)
unfolding sum_of unfinished shown_count place_words
counts_shown [] = refl
counts_shown (e ∷ s) = go e.1.finished (counts_shown s)
  where
    go : (b : Bool) → sum_of shown_count (map place_words (values s)) ≡ length (unfinished s)
        → cond (eqb (bool_byte b) 1) 0 1 + sum_of shown_count (map place_words (values s)) ≡ length (cond b (unfinished s) (e ∷ unfinished s))
    go true ih = omega arith
    go false ih = omega arith

pub sizes_shown : (s : State) → AllGood (values s) → sum_of shown_size (map place_words (values s)) ≡ length (bytes_all (unfinished s))
unfolding AllGood sum_of unfinished joined shown_size place_words
sizes_shown [] g = refl
sizes_shown (e ∷ s) g = go e.1.finished (sizes_shown s g.1)
  where
    go : (b : Bool) → sum_of shown_size (map place_words (values s)) ≡ length (bytes_all (unfinished s))
        → cond (eqb (bool_byte b) 1) 0 (size_of (place_words e.1)) + sum_of shown_size (map place_words (values s)) ≡ length (bytes_all (cond b (unfinished s) (e ∷ unfinished s)))
    go true ih = omega arith
    go false ih = omega (arith, g.0.sized, length-append e.1.message.bytes (bytes_all (unfinished s)))
