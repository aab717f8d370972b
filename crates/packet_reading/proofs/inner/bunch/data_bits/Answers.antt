-- Without an end mark 0, else the bits before it.
use Prim.Native.Nat.{ℕ}
use mathlib.Core.Path.{◌≡◌, refl}
use mathlib.Core.List.{List, [], ◌∷◌}
use native.Mathlib.Omega.{arith}
use lib.ListN.{length}
use borrow.Author.Tests.{eq-eqb, ne_eqb}
use Rattle.packet_reading.specs.Packet.{last_byte, data_bits}
use Rattle.packet_reading.proofs.inner.bunch.data_bits.Goals as goal

of_none : (d : List ℕ) → length d ≡ 0 → last_byte d ≡ 0
of_none [] h = refl
of_none (x ∷ d) h = absurd (omega (arith, h))

pub returns-then-size-eq0 : goal.returns-then-size-eq0
unfolding data_bits
returns-then-size-eq0 c = let d = c.args.packet.now in (rw (eq-eqb (last_byte d) 0 (of_none d c.if-size-eq0.true)), omega arith)

pub returns-then-last-eq0 : goal.returns-then-last-eq0
unfolding data_bits
returns-then-last-eq0 c = let d = c.args.packet.now in (rw (eq-eqb (last_byte d) 0 c.if-last-eq0.true), omega arith)

pub returns : goal.returns
unfolding data_bits
returns c = let d = c.args.packet.now in (rw (ne_eqb (last_byte d) 0 c.if-last-eq0.false, c.padding.ensures.0), omega arith)
