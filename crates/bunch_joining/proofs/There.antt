-- A fragment for a channel that holds a message: what the code's values come to.
use Prim.Native.Nat.{ℕ, ◌+◌, ◌-◌, ◌^◌, ◌≤◌, ◌<◌}
use mathlib.Core.Path.{◌≡◌, refl, sym, ap, ◌∙◌}
use mathlib.Core.Bool.{Bool, true, false, cond}
use mathlib.Core.List.{List, [], ◌++◌}
use native.Mathlib.Omega.{arith}
use lib.Dec.{ltb}
use lib.ListN.{length, get_or, take, drop, length-append}
use Rattle.types.specs.declared.RawBunchHeader.{RawBunchHeader}
use Rattle.std.specs.Prelude.{Option, Ok, Err}
use Rattle.tables.specs.Tables.{found, slot_of}
use Rattle.bunch_places.specs.Bytes.{pasted, part, bytes_of, payload_bytes}
use Rattle.bunch_places.proofs.Pastes.{length_part}
use Rattle.bunch_places.proofs.Payloads.{length_payload}
use Rattle.bunch_judging.specs.declared.PartialBunchResult.{PartialBunchResult}
use Rattle.bunch_judging.specs.declared.Standing.{Standing}
use Rattle.bunch_judging.specs.Held.{Held, Fragment}
use Rattle.bunch_judging.specs.Fates.{sequence_word, fate}
use Rattle.bunch_judging.specs.Headers.{after_test}
use Rattle.bunch_judging.specs.Messages.{displaced}
use Rattle.bunch_judging.specs.Results.{result_of}
use Rattle.bunch_judging.proofs.Memory.{effect_on, shown}
use Rattle.bunch_judging.specs.Standings.{held_of}
use Rattle.bunch_held.specs.declared.Accumulator.{Accumulator}
use Rattle.bunch_held.specs.declared.BunchError.{BunchError}
use Rattle.bunch_held.specs.Memory.{HeldMemory, bits_in_place, size_of, size_all, held_at}
use Rattle.bunch_held.specs.Steps.{BunchAnswer, judged, told_all, adding, over, holding, local}
use Rattle.bunch_held.specs.Steps as Steps
use Rattle.bunch_held.specs.Calls.{held_by, limits_of}
use Rattle.bunch_held.proofs.Holding.{message_at, kept}
use Rattle.bunch_held.proofs.Keeping.{good_held}
use Rattle.bunch_held.proofs.Edits.{get_there}
use Rattle.bunch_settling.specs.declared.inner.messages.Settled.{Settled}
use Rattle.bunch_settling.specs.Settling.{Using, Lays}
use Rattle.bunch_settling.specs.Giving.{Gives}
use Rattle.bunch_settling.proofs.Numbers.{spot}
use Rattle.bunch_settling.proofs.Giving.{at_same}
use Rattle.bunch_settling.specs.declared.inner.fragments.Weighed.{Weighed}
use Rattle.bunch_settling.specs.Fragments.{held_in_place, left_by, Holds}
use Rattle.bunch_settling.proofs.Judging.{not_full, over_there, stays_kept}
use Rattle.bunch_joining.specs.declared.inner.adding.Meeting.{Meeting}
use Rattle.bunch_joining.specs.Added.{of_judged}
use Rattle.bunch_joining.specs.Meetings.{Meetable, MeetsHeld, Weighs}
use Rattle.bunch_joining.proofs.Joining as J

pub at_most : (b : Bool) (n : ℕ) → cond b n 0 ≤ n
at_most true n = omega arith
at_most false n = omega arith

or_most : (b : Bool) (n : ℕ) → cond b 0 n ≤ n
or_most true n = omega arith
or_most false n = omega arith

pub joins_few : (b : Bool) (n : ℕ) {j : ℕ} → j ≡ cond b 0 n → j ≤ n
joins_few b n e = rw e (or_most b n)

joins_as : (b : Bool) (n : Held) → cond b 0 n.message.bits ≡ Steps.kept b (found n)
joins_as true n = refl
joins_as false n = refl

module _ (a : Accumulator) (m : HeldMemory) (used : ℕ) (u : Using a m used) (c i : ℕ) (slot : slot_of c (take a.active m.channels) ≡ Ok i) where
  abbrev p : List ℕ
  p = get_or m.places i []

  abbrev old : Held
  old = message_at m i

  abbrev from : ℕ
  from = size_all (take i m.places)

  pub word_fits : get_or p 3 0 < 2 ^ 32
  unfolding held_at
  word_fits = (good_held c (held_by a m) (get_there a m u.stands c i slot) (kept a m u.stands).good).sequence_fits

  pub meetable : (bits : ℕ) → bits ≤ 16383 → Meetable a m.places (Ok i) bits
  meetable bits small = let g = spot a m used u c i slot in (omega (arith, g), (word_fits, omega (arith, g), omega (arith, g), small))

  module _ (f : Fragment) (small : f.bits ≤ 16383) (enough : bytes_of f.bits ≤ length f.payload) (met : Meeting) (meets : MeetsHeld a p f.header.b_partial_initial f.bits met)
      (w : Weighed) (answered : PartialBunchResult) (weighs : Weighs met f.header f.bits w answered) where
    abbrev joins : ℕ
    joins = cond f.header.b_partial_initial 0 (bits_in_place p)

    abbrev standing : Option Standing
    standing = met.standing

    abbrev much : Bool
    much = ltb a.max_buffered_bits (a.total_buffered_bits - bits_in_place p + (joins + f.bits))

    much_is : much ≡ over (limits_of a) (held_by a m) c (adding f)
    unfolding held_at
    much_is = rw (joins_as f.header.b_partial_initial old) (over_there a m used u c i f slot)

    x_is : w.fate ≡ fate false much (found old) f.header f.bits
    x_is = weighs.fate_is (drop 4 p) (part from (size_of p) m.arena) ∙ rw (meets.full_is, meets.over_is, meets.standing_is (part from (size_of p) m.arena)) refl

    held_is : w.held ≡ cond w.effect.shows_held (size_of p) 0
    held_is = weighs.held_is ∙ rw meets.held_is refl

    pub few_shown : (w.payload ≤ f.bits) × (w.held ≤ size_of p)
    few_shown = (rw weighs.payload_is (at_most w.effect.shows_payload f.bits), rw held_is (at_most w.effect.shows_held (size_of p)))

    abbrev bytes : List ℕ
    bytes = part from w.held m.arena ++ payload_bytes w.payload f.payload

    bytes_are : bytes ≡ shown w.effect (found old) f
    unfolding held_at
    bytes_are = rw (held_is, weighs.payload_is) (J.shown_parts w.effect.shows_held w.effect.shows_payload from (size_of p) m.arena f.bits f.payload)

    bytes_long : length bytes ≡ w.held + bytes_of w.payload
    bytes_long =
        let g = spot a m used u c i slot in
        length-append (part from w.held m.arena) (payload_bytes w.payload f.payload)
        ∙ omega (arith, length_part from w.held m.arena (omega (arith, g, few_shown.1)), length_payload w.payload f.payload (omega (arith, few_shown.0, enough)))

    pub gives_short : (output : List ℕ) (n : ℕ) → n ≡ w.held + bytes_of w.payload → length output < n
        → Gives a m c (local (limits_of a) (held_by a m) c (adding f) output) (of_judged (Err (BunchError.OutputShort n))) (record { accumulator = a; used = used }) m output
    gives_short output n e h =
        J.gives_short a m used u c f output small enough (found old) (get_there a m u.stands c i slot) false much (λ t. cc) (not_full a m used u c i f slot) much_is w.fate x_is w.effect weighs.effect_is n (e ∙ sym bytes_long ∙ ap length bytes_are) h (at_same a m used u c i slot)

    module _ (h : RawBunchHeader) (h-is : (words bytes : List ℕ) → h ≡ after_test (held_of standing words bytes) f.header) (sequence : ℕ) (sequence_is : (sequence ≡ sequence_word h) × (sequence < 2 ^ 32))
        (start : ℕ) (start_is : start ≡ from) where
      h_old : h ≡ after_test (found old) f.header
      h_old = h-is (drop 4 p) (part from (size_of p) m.arena) ∙ rw (meets.standing_is (part from (size_of p) m.arena)) refl

      met_is : w.effect ≡ effect_on (fate false much (found old) f.header f.bits) f
      met_is = weighs.effect_is ∙ rw x_is refl

      pub holds : Holds a m used c i start w.effect h sequence f.bits f.payload
      holds =
          record {
            occupied = record { sound = u; slot = slot; start_is = start_is };
            sequence_is = sequence_is.0;
            enough = enough;
            short = small;
            kept = rw (start_is, met_is) (stays_kept a m used u c i f slot h (rw sequence_is.0 at sequence_is.1) enough much much_is);
          }

      pub gives_judged : (output : List ℕ) {out : List ℕ} {r : Settled} {after : HeldMemory} {told : BunchAnswer} → w.held + bytes_of w.payload ≤ length output
          → out ≡ pasted 0 (part start w.held m.arena ++ payload_bytes w.payload f.payload) output
          → ((bytes payload : List ℕ) → told ≡ judged (result_of w.fate (held_of standing (drop 4 p) bytes) (record { header = f.header; bits = f.bits; payload = payload })) (told_all (displaced w.fate (held_of standing (drop 4 p) bytes) (record { header = f.header; bits = f.bits; payload = payload }))))
          → Lays a m (holding c (left_by w.effect (found (held_in_place i start m)) h f.bits f.payload) (held_by a m)) r after
          → Gives a m c (local (limits_of a) (held_by a m) c (adding f) output) told r after out
      gives_judged output fits shows told_is lays =
          J.gives_judged a m used u c f output small enough (found old) (get_there a m u.stands c i slot) false much (λ t. cc) (not_full a m used u c i f slot) much_is w.fate x_is w.effect weighs.effect_is bytes bytes_are (omega (arith, bytes_long, fits)) (rw start_is at shows)
          (told_is (part from (size_of p) m.arena) f.payload ∙ rw (meets.standing_is (part from (size_of p) m.arena)) refl)
          (rw (start_is, h_old) at holds.kept) (rw (start_is, h_old) at lays)
