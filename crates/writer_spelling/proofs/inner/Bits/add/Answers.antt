-- The shift loses nothing: all bits together are 56 at most.
use Prim.Native.Nat.{◌+◌, ◌^◌, ◌≤◌}
use native.Mathlib.Omega.{arith}
use lib.Pow.{pow_mono, shl_exact}
use Rattle.writer_spelling.proofs.Spelling.{adds}
use Rattle.writer_spelling.proofs.inner.Bits.add.Goals as goal

pub overflow_add-result : goal.overflow_add-result
overflow_add-result c =
    let a = c.args in
    let p = c.requires in
    let m : 2 ^ (a.self.count + a.width) ≤ 2 ^ 56 = pow_mono p.2 in
    record { fits = rw (shl_exact a.width a.self.count 64 p.1 (omega (arith, p.2))) (omega (arith, (adds a.self a.value a.width p.0 p.1).whole.within)) }

pub returns : goal.returns
returns c =
    let a = c.args in
    let p = c.requires in
    rw (shl_exact a.width a.self.count 64 p.1 (omega (arith, p.2))) (adds a.self a.value a.width p.0 p.1)
