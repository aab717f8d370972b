-- A fragment for a channel that holds nothing: what the code's values come to.
use Prim.Native.Nat.{ℕ, ◌+◌, ◌^◌, ◌≤◌, ◌<◌}
use mathlib.Core.Path.{◌≡◌, refl, sym, ap, ◌∙◌}
use mathlib.Core.Bool.{Bool, true, false, cond}
use mathlib.Core.List.{List, [], ◌++◌}
use native.Mathlib.Omega.{arith}
use lib.Dec.{leb, ltb}
use lib.ListN.{length, take}
use Rattle.std.specs.Prelude.{Err}
use Rattle.tables.specs.Tables.{none, slot_of}
use Rattle.bunch_places.specs.Bytes.{pasted, bytes_of, payload_bytes}
use Rattle.bunch_places.proofs.Payloads.{length_payload}
use Rattle.bunch_judging.specs.declared.PartialBunchResult.{PartialBunchResult}
use Rattle.bunch_judging.specs.Held.{Fragment}
use Rattle.bunch_judging.specs.Fates.{sequence_word, overlaps, fate}
use Rattle.bunch_judging.specs.Headers.{after_test}
use Rattle.bunch_judging.specs.Messages.{displaced}
use Rattle.bunch_judging.specs.Results.{result_of}
use Rattle.bunch_judging.proofs.Memory.{effect_on, shown}
use Rattle.bunch_held.specs.declared.Accumulator.{Accumulator}
use Rattle.bunch_held.specs.declared.BunchError.{BunchError}
use Rattle.bunch_held.specs.Memory.{HeldMemory, size_all}
use Rattle.bunch_held.specs.Steps.{BunchAnswer, judged, told_all, adding, holding, local}
use Rattle.bunch_held.specs.Calls.{held_by, limits_of}
use Rattle.bunch_held.proofs.Edits.{get_none}
use Rattle.bunch_settling.specs.declared.inner.messages.Settled.{Settled}
use Rattle.bunch_settling.specs.Settling.{Using, Lays}
use Rattle.bunch_settling.specs.Giving.{Gives}
use Rattle.bunch_settling.proofs.Giving.{free_same}
use Rattle.bunch_settling.specs.declared.inner.fragments.Weighed.{Weighed}
use Rattle.bunch_settling.specs.Fragments.{left_by, Lacks}
use Rattle.bunch_settling.proofs.Judging.{full_free, over_free, new_kept}
use Rattle.bunch_joining.specs.declared.inner.adding.Meeting.{Meeting}
use Rattle.bunch_joining.specs.Added.{of_judged}
use Rattle.bunch_joining.specs.Meetings.{MeetsNothing, Weighs}
use Rattle.bunch_joining.proofs.There.{at_most}
use Rattle.bunch_joining.proofs.Joining as J

parts : (b d : Bool) (bits : ℕ) (payload : List ℕ) → payload_bytes (cond d bits 0) payload ≡ cond b [] [] ++ cond d (payload_bytes bits payload) []
unfolding payload_bytes
parts true true bits payload = refl
parts true false bits payload = refl
parts false true bits payload = refl
parts false false bits payload = refl

module _ (a : Accumulator) (m : HeldMemory) (used : ℕ) (u : Using a m used) (c i : ℕ) (slot : slot_of c (take a.active m.channels) ≡ Err i)
    (f : Fragment) (small : f.bits ≤ 16383) (enough : bytes_of f.bits ≤ length f.payload) (met : Meeting) (meets : MeetsNothing a f.bits met)
    (w : Weighed) (answered : PartialBunchResult) (weighs : Weighs met f.header f.bits w answered) where
  abbrev room : Bool
  room = leb a.max_active a.active

  abbrev much : Bool
  much = ltb a.max_buffered_bits (a.total_buffered_bits + f.bits)

  x_is : w.fate ≡ fate room much none f.header f.bits
  x_is = weighs.fate_is [] [] ∙ rw (meets.full_is, meets.over_is, meets.standing_is) refl

  pub result_none : answered ≡ result_of w.fate none f
  result_none = weighs.result-is [] [] f.payload ∙ rw meets.standing_is refl

  pub few_shown : w.payload ≤ f.bits
  few_shown = rw weighs.payload_is (at_most w.effect.shows_payload f.bits)

  abbrev bytes : List ℕ
  bytes = payload_bytes w.payload f.payload

  bytes_are : bytes ≡ shown w.effect none f
  bytes_are = rw weighs.payload_is (parts w.effect.shows_held w.effect.shows_payload f.bits f.payload)

  bytes_long : length bytes ≡ bytes_of w.payload
  bytes_long = length_payload w.payload f.payload (omega (arith, few_shown, enough))

  pub gives_short : (output : List ℕ) (n : ℕ) → n ≡ bytes_of w.payload → length output < n
      → Gives a m c (local (limits_of a) (held_by a m) c (adding f) output) (of_judged (Err (BunchError.OutputShort n))) (record { accumulator = a; used = used }) m output
  gives_short output n e h =
      J.gives_short a m used u c f output small enough none (get_none a m u.stands c i slot) room much (λ t. refl) (full_free a m used u c i f slot) (over_free a m used u c i f slot) w.fate x_is w.effect weighs.effect_is n (e ∙ sym bytes_long ∙ ap length bytes_are) h (free_same a m used u c i slot)

  module _ (sequence : ℕ) (sequence_is : (sequence ≡ sequence_word f.header) × (sequence < 2 ^ 32)) (start : ℕ) (start_is : start ≡ size_all (take i m.places)) where
    met_is : w.effect ≡ effect_on (fate room much none f.header f.bits) f
    met_is = weighs.effect_is ∙ rw x_is refl

    pub lacks : Lacks a m used c i start w.effect f.header sequence f.bits f.payload
    lacks =
        record {
          vacant = record { sound = u; slot = slot; start_is = start_is };
          sequence_is = sequence_is.0;
          enough = enough;
          short = small;
          kept = rw met_is (new_kept a m used u c i f slot f.header (rw sequence_is.0 at sequence_is.1) enough room much (full_free a m used u c i f slot) (over_free a m used u c i f slot));
        }

    pub gives_judged : (output : List ℕ) {out : List ℕ} {r : Settled} {after : HeldMemory} {told : BunchAnswer} → bytes_of w.payload ≤ length output → out ≡ pasted 0 bytes output
        → told ≡ judged (result_of w.fate none f) (told_all (displaced w.fate none f)) → Lays a m (holding c (left_by w.effect none f.header f.bits f.payload) (held_by a m)) r after
        → Gives a m c (local (limits_of a) (held_by a m) c (adding f) output) told r after out
    unfolding after_test overlaps
    gives_judged output fits shows told_is lays =
        J.gives_judged a m used u c f output small enough none (get_none a m u.stands c i slot) room much (λ t. refl) (full_free a m used u c i f slot) (over_free a m used u c i f slot) w.fate x_is w.effect weighs.effect_is bytes bytes_are (omega (arith, bytes_long, fits)) shows told_is lacks.kept lays
