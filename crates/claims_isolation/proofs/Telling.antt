-- What a call's answer tells of the memory: a refusal, that nothing changed; a judgement, the ledger; and no call concerns another channel.
use Prim.Native.Nat.{ℕ, ◌+◌}
use mathlib.Core.Path.{◌≡◌, refl, ap, ◌∙◌}
use mathlib.Core.Bool.{Bool, true, false}
use mathlib.Core.List.{List}
use Rattle.bitio_window.specs.Refusals.{Refusal, unsound}
use Rattle.tables.specs.Columns.{ascending}
use Rattle.tables.specs.Tables.{Found, none, get, channels}
use Rattle.words.specs.Range.{InRange}
use Rattle.bunch_judging.specs.declared.PartialBunchResult.{PartialBunchResult}
use Rattle.bunch_judging.specs.declared.PartialDiscardCause.{PartialDiscardCause}
use Rattle.bunch_judging.specs.declared.Fate.{Fate}
use Rattle.bunch_judging.specs.Held.{Held, Fragment}
use Rattle.bunch_judging.specs.Messages.{held_after, bits_held}
use Rattle.bunch_judging.specs.Results.{result_of}
use Rattle.bunch_judging.proofs.Ledger.{ledger, unreported}
use Rattle.bunch_held.specs.declared.Accumulator.{Accumulator}
use Rattle.bunch_held.specs.Memory.{HeldMemory, State}
use Rattle.bunch_held.specs.Sound.{memory_sound}
use Rattle.bunch_held.specs.Steps.{Act, adding, refused, judged, MessageOut, Local, Limits, full, over, local, state_after}
use Rattle.bunch_held.specs.Calls.{limits_of, held_by, BunchReply, called}
use Rattle.bunch_held.proofs.Soundness.{stands}
use Rattle.bunch_held.proofs.Holding.{kept, same_memory, same_counts}
use Rattle.claims_isolation.specs.Ledger.{Exception}
use Rattle.claims_isolation.proofs.Excepting.{excepted, exception_falls}
use Rattle.claims_isolation.proofs.Weighing.{met}
use Rattle.claims_isolation.proofs.Cases.{local_case}
use Rattle.claims_isolation.proofs.Single.{holding_same, get_holding, get_other}
use Rattle.claims_isolation.specs.Runs.{ActInRange}
use Rattle.claims_isolation.proofs.Lasting.{holds_next}

-- ## A step

module _ (l : Limits) (s : State) (c : ℕ) (output : List ℕ) where
  pub others_stay : (act : Act) (d : ℕ) → (d ≡ c → ⊥) → get d (state_after l s c act output) ≡ get d s
  unfolding state_after
  others_stay act d n = get_other c d (local l s c act output).held s n

  refused_step : (act : Act) {e : Refusal} → ascending (channels s) ≡ true → (local l s c act output).answer ≡ refused e
      → (state_after l s c act output ≡ s) × ((local l s c act output).output ≡ output)
  unfolding state_after
  refused_step act {e} a q =
      let same = local_case (λ (x : Local). x.answer ≡ refused e → (x.held ≡ get c s) × (x.output ≡ output)) output l s c act (λ r z. (refl, refl)) (λ z. ((cc), (cc))) (λ h g z. ((cc), (cc))) (λ f g h z. ((cc), (cc))) q in
      (rw same.0 (holding_same c s a), same.1)

  judged_step : (f : Fragment) {r : PartialBunchResult} {ds : List (MessageOut × PartialDiscardCause)} → (local l s c (adding f) output).answer ≡ judged r ds
      → ((local l s c (adding f) output).held ≡ held_after (met l s c f) (get c s) f) × (result_of (met l s c f) (get c s) f ≡ r)
  judged_step f {r} {ds} =
      local_case (λ (x : Local). x.answer ≡ judged r ds → (x.held ≡ held_after (met l s c f) (get c s) f) × (result_of (met l s c f) (get c s) f ≡ r)) output l s c (adding f)
      (λ e z. ((cc), (cc))) (λ z. ((cc), (cc))) (λ h g z. ((cc), (cc))) (λ g e h z. let same : f ≡ g = cc in rw same (refl, (cc)))

-- ## A call

module _ (a : Accumulator) (m : HeldMemory) (c : ℕ) (act : Act) (output : List ℕ) where
  abbrev x : BunchReply
  x = called a m c act output

  -- "These change no lent byte or state."
  pub refused_same : {e : Refusal} → x.answer ≡ refused e → (x.accumulator ≡ a) × (x.memory ≡ m) × (x.output ≡ output)
  unfolding called
  refused_same {e} q = go (memory_sound a m) refl
    where
      go : (b : Bool) → memory_sound a m ≡ b → (x.accumulator ≡ a) × (x.memory ≡ m) × (x.output ≡ output)
      go false s = rw s (refl, refl, refl)
      go true s =
          let st = stands a m s in
          let step = refused_step (limits_of a) (held_by a m) c output act (kept a m st).ordered (rw s at q) in
          rw (s, step.0, step.1) (same_counts a m st, same_memory a m st, refl)

  -- no call concerns another channel
  pub others_held : memory_sound a m ≡ true → ActInRange act → (d : ℕ) → (d ≡ c → ⊥) → get d (held_by x.accumulator x.memory) ≡ get d (held_by a m)
  others_held s e d n = ap (get d) (holds_next a m c act output s e) ∙ others_stay (limits_of a) (held_by a m) c output act d n

-- ## An add that is not refused

module _ (a : Accumulator) (m : HeldMemory) (c : ℕ) (f : Fragment) (output : List ℕ) (in_range : InRange f.header)
    {r : PartialBunchResult} {ds : List (MessageOut × PartialDiscardCause)} (answers : (called a m c (adding f) output).answer ≡ judged r ds) where
  abbrev before : Found Held
  before = get c (held_by a m)

  abbrev afterwards : Found Held
  afterwards = let x = called a m c (adding f) output in get c (held_by x.accumulator x.memory)

  abbrev fated : Fate
  fated = met (limits_of a) (held_by a m) c f

  -- what the channel holds, and the answer, are those of the fragment's fate
  pub judged_held : (afterwards ≡ held_after fated before f) × (result_of fated before f ≡ r)
  unfolding called state_after
  judged_held = go (memory_sound a m) refl
    where
      go : (b : Bool) → memory_sound a m ≡ b → (afterwards ≡ held_after fated before f) × (result_of fated before f ≡ r)
      go true s =
          let step = judged_step (limits_of a) (held_by a m) c output f (rw s at answers) in
          (ap (get c) (holds_next a m c (adding f) output s in_range) ∙ get_holding c (local (limits_of a) (held_by a m) c (adding f) output).held (held_by a m) ∙ step.0, step.1)
      go false s =
          let z : refused unsound ≡ judged r ds = rw s at answers in
          ((cc), (cc))

  -- "bits held before + payload = held after + discarded, with one exception"
  pub ledger_held : (Exception before f → ⊥) → bits_held before + f.bits ≡ bits_held afterwards + r.discarded_bits
  ledger_held reported =
      let j = judged_held in
      rw (j.0, ← j.1) (ledger before f fated (λ u. reported (excepted (full (limits_of a) (held_by a m) c) (over (limits_of a) (held_by a m) c (adding f)) before f u)))

  -- the exception "retires the message and reports none of its bits"
  pub exception_held : Exception before f → (afterwards ≡ none) × (r.discarded_bits ≡ 0)
  unfolding held_after
  exception_held x =
      let j = judged_held in
      let u = exception_falls (full (limits_of a) (held_by a m) c) (over (limits_of a) (held_by a m) c (adding f)) before f x in
      (j.0 ∙ rw u.falls refl, rw (← j.1) (unreported before f fated u).1)
