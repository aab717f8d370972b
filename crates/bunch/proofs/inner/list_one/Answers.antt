-- A finished message leaves all as it is; any other's bytes are copied, and its place is set.
use Prim.Native.Nat.{ℕ, suc, ◌<◌}
use mathlib.Core.Path.{◌≡◌, refl, sym, ap, ◌∙◌}
use mathlib.Core.Bool.{false}
use mathlib.Core.List.{List, []}
use native.Mathlib.Omega.{arith}
use lib.ListN.{length, set}
use Rattle.bunch_places.proofs.Pastes.{pasted_none, pasted_first}
use Rattle.bunch_held.specs.Memory.{size_of}
use Rattle.bunch.specs.Shown.{is_finished, shown_count, shown_size, shown_bytes, shown_place}
use Rattle.bunch.proofs.inner.list_one.Goals as goal

whole_size : (p : List ℕ) → is_finished p ≡ false → shown_size p ≡ size_of p
unfolding shown_size
whole_size p e = rw e refl

one_count : (p : List ℕ) → is_finished p ≡ false → shown_count p ≡ 1
unfolding shown_count
one_count p e = rw e refl

pub returns-then-is_finished : goal.returns-then-is_finished
unfolding shown_bytes shown_place
returns-then-is_finished c =
    let a = c.args in
    rw (sym c.is_finished.ensures ∙ c.if-is_finished.true) (record { output = pasted_none a.at a.output.now; list = pasted_none a.n a.list.now })

pub copy_bytes-requires : goal.copy_bytes-requires
copy_bytes-requires c =
    let a = c.args in
    let e = whole_size a.p (sym c.is_finished.ensures ∙ c.if-is_finished.false) in
    (omega arith, omega arith)

pub bounds-list-n : goal.bounds-list-n
bounds-list-n c =
    omega (arith, one_count c.args.p (sym c.is_finished.ensures ∙ c.if-is_finished.false), c.requires)

pub returns : goal.returns
unfolding shown_bytes shown_place
returns c =
    let a = c.args in
    let e = sym c.is_finished.ensures ∙ c.if-is_finished.false in
    let within : a.n < length a.list.now = omega (arith, one_count a.p e, c.requires) in
    rw e
    (record {
      output = rw c.bytes_of-size.ensures at c.copy_bytes.ensures;
      list = ap (λ (t : List (List ℕ)). set t a.n c.listed.result) (pasted_none (suc a.n) a.list.now) ∙ pasted_first a.n c.listed.result [] a.list.now within ∙ rw c.listed.ensures refl;
    })
