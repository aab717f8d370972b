-- What a fragment meets at the slot that was found: the sums fit, and so do the bits.
use Prim.Native.Nat.{ℕ, ◌^◌, ◌≤◌, ◌<◌}
use mathlib.Core.Path.{◌≡◌}
use mathlib.Core.Bool.{Bool, cond}
use mathlib.Core.List.{List}
use native.Mathlib.Omega.{arith}
use lib.Dec.{eqb}
use lib.ListN.{take}
use Rattle.types.specs.declared.RawBunchHeader.{RawBunchHeader}
use Rattle.tables.specs.Tables.{Slot}
use Rattle.std.specs.Prelude.{Ok, Err}
use Rattle.tables.specs.Tables.{slot_of}
use Rattle.bunch_places.specs.Bytes.{bytes_of}
use Rattle.bunch_judging.specs.declared.PartialBunchResult.{PartialBunchResult}
use Rattle.bunch_judging.specs.Fates.{fate}
use Rattle.bunch_judging.specs.Results.{result_of}
use Rattle.bunch_judging.specs.Effects.{effect_of}
use Rattle.bunch_judging.specs.Standings.{held_of}
use Rattle.bunch_judging.specs.Standings as S
use Rattle.bunch_held.specs.declared.Accumulator.{Accumulator}
use Rattle.bunch_held.specs.Memory.{HeldMemory}
use Rattle.bunch_settling.specs.Settling.{Using}
use Rattle.bunch_settling.specs.declared.inner.fragments.Weighed.{Weighed}
use Rattle.bunch_joining.specs.declared.inner.adding.Meeting.{Meeting}
use Rattle.bunch_joining.specs.Meetings.{Meetable, Meets, Weighs}
use Rattle.bunch_joining.proofs.There as There

pub meetable : (a : Accumulator) (m : HeldMemory) (used : ℕ) → Using a m used → (c : ℕ) (s : Slot) → slot_of c (take a.active m.channels) ≡ s → (bits : ℕ) → bits ≤ 16383 → Meetable a m.places s bits
meetable a m used u c (Ok i) e bits small = There.meetable a m used u c i e bits small
meetable a m used u c (Err i) e bits small = (omega (arith, u.stands), small)

pub meets_few : (a : Accumulator) (ps : List (List ℕ)) (s : Slot) (initial : Bool) (bits : ℕ) (r : Meeting) → Meetable a ps s bits → Meets a ps s initial bits r → (r.held < 2 ^ 32) × (S.standing_bits r.standing ≤ 536870912)
meets_few a ps (Ok i) initial bits r q m = (omega (arith, m.held_is, q.1.1, q.1.2), omega (arith, m.bits_are, q.1.1, q.1.2))
meets_few a ps (Err i) initial bits r q m = (omega (arith, m.held_is), rw m.standing_is (omega arith))

-- the same at a slot that is known
pub met_at : (a : Accumulator) (ps : List (List ℕ)) (initial : Bool) (bits : ℕ) (r : Meeting) {s t : Slot} → s ≡ t → Meets a ps s initial bits r → Meets a ps t initial bits r
met_at a ps initial bits r e m = rw e at m

-- what `weigh` and `result` promise, together
pub weighs : {met : Meeting} {h : RawBunchHeader} {bits : ℕ} {w : Weighed} {r : PartialBunchResult}
    → ((words bytes : List ℕ) → w.fate ≡ fate met.full met.over (held_of met.standing words bytes) h bits) × (w.effect ≡ effect_of w.fate h.b_partial_initial (eqb bits 0)) × (w.held ≡ cond w.effect.shows_held (bytes_of met.held) 0) × (w.payload ≡ cond w.effect.shows_payload bits 0)
    → ((words bytes payload : List ℕ) → r ≡ result_of w.fate (held_of met.standing words bytes) (record { header = h; bits = bits; payload = payload })) → Weighs met h bits w r
weighs p q = record { fate_is = p.0; effect_is = p.1; held_is = p.2; payload_is = p.3; result-is = q }
