-- The record at a place, by the tests that the code makes.
use mathlib.Core.Path.{◌≡◌}
use mathlib.Core.List.{List}
use Prim.Native.Nat.{ℕ, ◌+◌, ◌≤◌, ◌<◌}
use borrow.Author.Tests.{le-leb, lt-leb, eq-eqb, ne_eqb}
use lib.ListN.{length}
use Rattle.std.proofs.Common.{Some, None, Ok, Err}
use Rattle.packet_log.specs.Log.{length_at, whole_record, entry_at}

module _ (d : List ℕ) (i : ℕ) where
  pub at_end : i ≡ length d → Ok None ≡ entry_at d i
  unfolding entry_at
  at_end h = rw (eq-eqb i (length d) h)

  module _ (n : i ≡ length d → ⊥) where
    pub cut_at : length d < i + 6 + length_at d i → Err (record { at = i }) ≡ entry_at d i
    unfolding entry_at
    cut_at h = rw (ne_eqb i (length d) n, lt-leb (i + 6 + length_at d i) (length d) h)

    pub whole_at : i + 6 + length_at d i ≤ length d → Ok (Some (whole_record d i)) ≡ entry_at d i
    unfolding entry_at
    whole_at h = rw (ne_eqb i (length d) n, le-leb (i + 6 + length_at d i) (length d) h)
