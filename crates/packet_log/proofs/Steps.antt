-- The log from a place on is what stands there, and the log from the next place on: so `record_at` steps through it.
use mathlib.Core.Path.{◌≡◌, refl}
use mathlib.Core.Bool.{Bool, true, false, cond}
use mathlib.Core.List.{List}
use Prim.Native.Nat.{ℕ, zero, suc, ◌+◌, ◌-◌, ◌≤◌, ◌<◌}
use native.Mathlib.Omega.{arith}
use borrow.Author.Tests.{leb-true}
use lib.Dec.{eqb, leb}
use lib.ListN.{length}
use Rattle.std.proofs.Common.{Some, None, Ok, Err}
use Rattle.packet_log.specs.declared.Record.{Record}
use Rattle.packet_log.specs.Log.{Log, length_at, Entry, whole_record, entry_at, log_on, log_from, log_at}

module _ (d : List ℕ) where
  -- a record lies within the log
  pub record Within (i : ℕ) (r : Record) : Type 0 where
    pub starts : r.start ≡ i + 6
    pub long : r.length ≡ length_at d i
    pub follows : r.next ≡ r.start + r.length
    pub inside : r.next ≤ length d

  pub within : (i : ℕ) {r : Record} → entry_at d i ≡ Ok (Some r) → Within i r
  unfolding entry_at
  within i {r} = go (eqb i (length d)) (leb (i + 6 + length_at d i) (length d)) refl
    where
      go : (b t : Bool) → leb (i + 6 + length_at d i) (length d) ≡ t
          → cond {A = Entry} b (Ok None) (cond t (Ok (Some (whole_record d i))) (Err (record { at = i }))) ≡ Ok (Some r) → Within i r
      go true t h e = cc
      go false false h e = cc
      go false true h e =
          let whole : whole_record d i ≡ r = cc in
          rw (← whole) (record { starts = refl; long = refl; follows = refl; inside = leb-true (i + 6 + length_at d i) (length d) h })

  same_onward : (x : Entry) (f g : ℕ → Log) → ((r : Record) → x ≡ Ok (Some r) → f r.next ≡ g r.next) → log_on d x f ≡ log_on d x g
  same_onward (Ok None) f g h = refl
  same_onward (Err c) f g h = refl
  same_onward (Ok (Some r)) f g h = let e : f r.next ≡ g r.next = h r refl in rw e

  -- any bound above the bytes that are left gives the same
  bound : (m n i : ℕ) → length d - i < m → length d - i < n → log_from m d i ≡ log_from n d i
  unfolding log_from
  bound zero n i f g = absurd (omega arith)
  bound (suc m) zero i f g = absurd (omega arith)
  bound (suc m) (suc n) i f g =
      same_onward (entry_at d i) (log_from m d) (log_from n d)
      (λ r e. let w = within i e in bound m n r.next (omega (arith, w.starts, w.follows, w.inside)) (omega (arith, w.starts, w.follows, w.inside)))

  pub steps : (i : ℕ) → log_at d i ≡ log_on d (entry_at d i) (log_at d)
  unfolding log_from
  steps i =
      same_onward (entry_at d i) (log_from (length d - i) d) (log_at d)
      (λ r e. let w = within i e in bound (length d - i) (suc (length d - r.next)) r.next (omega (arith, w.starts, w.follows, w.inside)) (omega arith))
