-- A place has 24 words by its type; the last twenty are what is left of it.
use mathlib.Core.Path.{◌≡◌, ap}
use mathlib.Core.List.{List, ◌∷◌}
use Prim.Native.Nat.{ℕ}
use native.Mathlib.Omega.{arith}
use lib.ListN.{length}
use borrow.Author.Rules.{rules}
use Rattle.bunch_held.specs.Memory.{bits_in_place}
use Rattle.bunch_held.proofs.Words.{words_from, words_rest}
use Rattle.bunch.proofs.inner.listed.Goals as goal

pub returns : goal.returns
unfolding words_from
returns c =
    let p = c.args.p in
    let n : length p ≡ 24 = search rules in
    ap (λ (t : List ℕ). c.args.channel ∷ bits_in_place p ∷ t) (words_rest 20 4 p (omega (arith, n)))
