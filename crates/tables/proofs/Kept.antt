-- A table within a limit and by ascending channel stays so where a channel is taken out, or put in with room.
use Prim.Native.Nat.{ℕ, ◌≤◌, ◌<◌}
use mathlib.Core.Path.{◌≡◌, refl}
use mathlib.Core.Bool.{true}
use native.Mathlib.Omega.{arith}
use lib.ListN.{length}
use Rattle.tables.specs.Columns.{ascending}
use Rattle.tables.specs.Tables.{Table, Found, none, found, get, put, without, channels}
use Rattle.tables.proofs.Puts.{without_none, without_ascends, put_ascends, length_put_new, length_put_there, length_without_there}

pub record Kept {A : Type 0} (limit : ℕ) (t : Table A) : Type 0 where
  pub within : length t ≤ limit
  pub ordered : ascending (channels t) ≡ true

module _ {A : Type 0} {limit : ℕ} (t : Table A) (kept : Kept limit t) where
  pub without_kept : (c : ℕ) → Kept limit (without c t)
  without_kept c = record { within = go (get c t) refl; ordered = without_ascends c t kept.ordered }
    where
      go : (x : Found A) → get c t ≡ x → length (without c t) ≤ limit
      go none e = rw (without_none c t e) kept.within
      go (found u) e = omega (arith, length_without_there c t e kept.ordered, kept.within)

  -- a new channel needs room
  pub put_kept : (c : ℕ) (v : A) → (get c t ≡ none → length t < limit) → Kept limit (put c v t)
  put_kept c v room = record { within = go (get c t) refl; ordered = put_ascends c v t kept.ordered }
    where
      go : (x : Found A) → get c t ≡ x → length (put c v t) ≤ limit
      go none e = omega (arith, length_put_new c v t e, room e)
      go (found u) e = omega (arith, length_put_there c v t e kept.ordered, kept.within)
