-- What the fragment would join has no more bits than the place says.
use Prim.Native.Nat.{ℕ}
use mathlib.Core.Path.{◌≡◌, refl, ◌∙◌}
use mathlib.Core.Bool.{Bool, true, false, not, cond}
use Rattle.bunch_held.specs.Memory.{bits_in_place}
use Rattle.bunch_joining.proofs.There.{joins_few}
use Rattle.bunch_joining.proofs.inner.adding.meet_held.Goals as goal

otherwise : (b : Bool) (n : ℕ) → cond (not b) n 0 ≡ cond b 0 n
otherwise true n = refl
otherwise false n = refl

pub passed-requires : goal.passed-requires
passed-requires c =
    let a = c.args in
    let q = c.requires in
    (joins_few a.initial (bits_in_place a.p) (c.bits_if-joins.ensures ∙ otherwise a.initial (bits_in_place a.p)), q.1, q.2, q.3)

pub returns : goal.returns
returns c =
    record {
      standing_is = c.standing_of.ensures.0;
      bits_are = c.standing_of.ensures.1;
      held_is = refl;
      full_is = refl;
      over_is = rw (c.passed.ensures, c.bits_if-joins.ensures, otherwise c.args.initial (bits_in_place c.args.p)) refl;
    }
