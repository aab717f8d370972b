-- A call over sound memory leaves what the definition's call does, and a turn is one call or two.
use Rattle.std.proofs.Common.{◌≡◌, ℕ, true, false, List, sym, refl, ap, ◌∙◌}
use Rattle.types.specs.declared.RawBunchHeader.{RawBunchHeader}
use Rattle.words.specs.Words.{header_from}
use Rattle.bunch_held.specs.declared.Accumulator.{Accumulator}
use Rattle.bunch_held.specs.Memory.{HeldMemory}
use Rattle.bunch_held.specs.Steps.{Act, adding, taking, BunchAnswer, local}
use Rattle.bunch_held.specs.Calls.{BunchReply, held_by, limits_of}
use Rattle.bunch_settling.specs.declared.inner.messages.Settled.{Settled}
use Rattle.bunch_settling.specs.Settling.{Using}
use Rattle.bunch_settling.specs.Giving.{Gives}
use Rattle.bunch_settling.proofs.Giving.{goes}
use Rattle.bench_bunch.specs.Chains.{summed, answer_words, Run, run, going_on, timed_call, turn}

pub calls : (a : Accumulator) (m : HeldMemory) {used : ℕ} → Using a m used → (c : ℕ) (act : Act) (output : List ℕ) (sum : ℕ) {answer : BunchAnswer} {r : Settled} {after : HeldMemory} {out : List ℕ} {s : ℕ}
    → Gives a m c (local (limits_of a) (held_by a m) c act output) answer r after out → s ≡ summed sum (answer_words answer)
    → run r.accumulator after out s ≡ timed_call c act (run a m output sum)
unfolding timed_call
calls a m u c act output sum {answer} {r} {after} {out} g e = ap (run r.accumulator after out) e ∙ ap (λ (z : BunchReply). going_on z sum) (goes a m c act output u g)

module _ (payload words : List ℕ) (x : Run) (h : RawBunchHeader) (e : h ≡ header_from words) {y : Run} (f : y ≡ timed_call h.ch_index (adding (record { header = h; bits = h.payload_bit_count; payload = payload })) x) where
  pub goes_on : h.b_partial_final ≡ false → y ≡ turn payload words x
  unfolding turn
  goes_on g = f ∙ rw (sym e, g) refl

  pub ends : h.b_partial_final ≡ true → {z : Run} → z ≡ timed_call h.ch_index taking y → z ≡ turn payload words x
  unfolding turn
  ends g k = k ∙ ap (timed_call h.ch_index taking) f ∙ rw (sym e, g) refl
