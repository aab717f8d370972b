-- What a call on a channel can come to: refused, nothing to hand out, a message handed out, or a fragment judged.
use Prim.Native.Nat.{ℕ, ◌*◌, ◌≤◌}
use mathlib.Core.Path.{◌≡◌, refl}
use mathlib.Core.Bool.{Bool, true, false, cond}
use mathlib.Core.List.{List}
use native.Mathlib.Omega.{arith}
use lib.Dec.{ltb}
use lib.ListN.{length}
use borrow.Author.Tests.{ltb-false}
use Rattle.bitio_window.specs.Refusals.{Refusal, payload_too_long, payload_short, output_short}
use Rattle.tables.specs.Tables.{Found, none, found, get}
use Rattle.bunch_places.specs.Bytes.{pasted, bytes_of}
use Rattle.bunch_judging.specs.Held.{Held, Fragment}
use Rattle.bunch_judging.specs.Messages.{held_after, displaced, bytes_of_all}
use Rattle.bunch_judging.specs.Results.{result_of}
use Rattle.bunch_held.specs.Memory.{State}
use Rattle.bunch_held.specs.Steps.{Act, adding, taking, retiring, BunchAnswer, judged, handed, Local, Limits, message_out, told_all, call_refuses, showing, nothing_held, added, handing, taken, retired, locally, local}
use Rattle.claims_isolation.proofs.Weighing.{met}

-- bytes shown in the output, which has room
abbrev pub shown : List ℕ → BunchAnswer → Found Held → List ℕ → Local
shown bytes answer x output = record { answer = answer; output = pasted 0 bytes output; held = x }

abbrev pub hands_out : Held → List ℕ → Local
hands_out h output = shown h.message.bytes (handed (message_out h.message)) none output

abbrev pub judges : Limits → State → ℕ → Fragment → List ℕ → Local
judges l s c f output =
    let ds = displaced (met l s c f) (get c s) f in
    shown (bytes_of_all ds) (judged (result_of (met l s c f) (get c s) f) (told_all ds)) (held_after (met l s c f) (get c s) f) output

-- the same, where the output may be too short
abbrev weighed : Limits → State → ℕ → Fragment → List ℕ → Local
weighed l s c f output =
    let x = judges l s c f output in
    showing (bytes_of_all (displaced (met l s c f) (get c s) f)) x.answer x.held (get c s) output

module _ (P : Local → Type 0) (output : List ℕ) where
  showing_case : (bytes : List ℕ) (answer : BunchAnswer) (x m : Found Held) → ((e : Refusal) → P (call_refuses e m output)) → P (shown bytes answer x output)
      → P (showing bytes answer x m output)
  showing_case bytes answer x m refusing shows = go (ltb (length output) (length bytes))
    where
      go : (b : Bool) → P (cond b (call_refuses (output_short (length bytes)) m output) (shown bytes answer x output))
      go true = refusing _
      go false = shows

  module _ (m : Found Held) (refusing : (e : Refusal) → P (call_refuses e m output)) (nothing : P (nothing_held m output)) (hands : (h : Held) → m ≡ found h → P (hands_out h output)) where
    handing_case : (h : Held) → m ≡ found h → P (handing h output)
    handing_case h e = rw e at (showing_case h.message.bytes (handed (message_out h.message)) none m refusing (hands h e))

    taken_case : (t : Found Held) → m ≡ t → P (taken t output)
    unfolding taken
    taken_case none e = rw e at nothing
    taken_case (found h) e = go h.finished
      where
        go : (b : Bool) → P (cond b (handing h output) (nothing_held (found h) output))
        go true = handing_case h e
        go false = rw e at nothing

    retired_case : (t : Found Held) → m ≡ t → P (retired t output)
    unfolding retired
    retired_case none e = rw e at nothing
    retired_case (found h) e = handing_case h e

  module _ (l : Limits) (s : State) (c : ℕ) where
    pub local_case : (act : Act) → ((e : Refusal) → P (call_refuses e (get c s) output)) → P (nothing_held (get c s) output) → ((h : Held) → get c s ≡ found h → P (hands_out h output))
        → ((f : Fragment) → act ≡ adding f → bytes_of f.bits ≤ length f.payload → P (judges l s c f output)) → P (local l s c act output)
    unfolding local locally added
    local_case (adding f) refusing nothing hands answers = go (ltb 16383 f.bits) (ltb (8 * length f.payload) f.bits) refl
      where
        go : (long short : Bool) → ltb (8 * length f.payload) f.bits ≡ short
            → P (cond long (call_refuses (payload_too_long f.bits) (get c s) output) (cond short (call_refuses (payload_short f.bits) (get c s) output) (weighed l s c f output)))
        go true short e = refusing _
        go false true e = refusing _
        go false false e =
            showing_case (bytes_of_all (displaced (met l s c f) (get c s) f)) (judges l s c f output).answer (judges l s c f output).held (get c s) refusing
            (answers f refl (omega (arith, ltb-false (8 * length f.payload) f.bits e)))
    local_case taking refusing nothing hands answers = taken_case (get c s) refusing nothing hands (get c s) refl
    local_case retiring refusing nothing hands answers = retired_case (get c s) refusing nothing hands (get c s) refl
