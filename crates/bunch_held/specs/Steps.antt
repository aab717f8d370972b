-- One call on one channel: what it answers and what the channel then holds, as a function of what it held.
use Rattle.std.specs.Prelude.{ℕ, ◌+◌, ◌*◌, Bool, true, false, ◌&&◌, cond, List, map, leb, ltb, length}
use Rattle.types.specs.Types.{longest_payload}
use Rattle.bitio_window.specs.Refusals.{Refusal, payload_too_long, payload_short, output_short}
use Rattle.types.specs.declared.RawBunchHeader.{RawBunchHeader}
use Rattle.tables.specs.Tables.{Found, none, found, get, put, without}
use Rattle.words.specs.Words.{header_from}
use Rattle.bunch_places.specs.Bytes.{pasted}
use Rattle.bunch_judging.specs.declared.PartialBunchResult.{PartialBunchResult}
use Rattle.bunch_judging.specs.declared.PartialDiscardCause.{PartialDiscardCause}
use Rattle.bunch_judging.specs.Held.{Message, Held, Fragment, Displaced}
use Rattle.bunch_judging.specs.Fates.{fate}
use Rattle.bunch_judging.specs.Messages.{held_after, displaced, bytes_of_all}
use Rattle.bunch_judging.specs.Results.{result_of}
use Rattle.bunch_held.specs.Memory.{State, total}

-- what is asked of a channel
pub data Act : Type 0 where
  adding : Fragment → Act
  taking : Act
  retiring : Act

-- a message handed out: its header and how many bits; its bytes go to the output
pub record MessageOut : Type 0 where
  pub header : RawBunchHeader
  pub bits : ℕ

abbrev pub message_out : Message → MessageOut
message_out m = record { header = header_from m.header; bits = m.bits }

pub data BunchAnswer : Type 0 where
  refused : Refusal → BunchAnswer
  judged : PartialBunchResult → List (MessageOut × PartialDiscardCause) → BunchAnswer
  handed : MessageOut → BunchAnswer
  nothing : BunchAnswer

-- the answer, the lent output and what the channel holds afterwards
pub record Local : Type 0 where
  pub answer : BunchAnswer
  pub output : List ℕ
  pub held : Found Held

abbrev pub told_all : List Displaced → List (MessageOut × PartialDiscardCause)
told_all ds = map (λ (x : Displaced). (message_out x.message, x.cause)) ds

-- "These change no lent byte or state."
abbrev pub call_refuses : Refusal → Found Held → List ℕ → Local
call_refuses e m output = record { answer = refused e; output = output; held = m }

-- bytes to the front of the output, where they fit: "13+ output bytes too few: bytes needed"
abbrev pub showing : List ℕ → BunchAnswer → Found Held → Found Held → List ℕ → Local
showing bytes answer after m output =
    cond (ltb (length output) (length bytes)) (call_refuses (output_short (length bytes)) m output)
    (record { answer = answer; output = pasted 0 bytes output; held = after })

-- "A fragment is judged as in add_fragment"; "test … 11, 12, 13 in that order"
unfoldable pub added : Bool → Bool → Found Held → Fragment → List ℕ → Local
added full over m f output =
    cond (ltb longest_payload f.bits) (call_refuses (payload_too_long f.bits) m output)
    (cond (ltb (8 * length f.payload) f.bits) (call_refuses (payload_short f.bits) m output)
    (let x = fate full over m f.header f.bits in
    showing (bytes_of_all (displaced x m f)) (judged (result_of x m f) (told_all (displaced x m f))) (held_after x m f) m output))

abbrev pub handing : Held → List ℕ → Local
handing h output = showing h.message.bytes (handed (message_out h.message)) none (found h) output

-- "With nothing to hand out, taking and retiring answer none."
abbrev pub nothing_held : Found Held → List ℕ → Local
nothing_held m output = record { answer = nothing; output = output; held = m }

unfoldable pub taken : Found Held → List ℕ → Local
taken none output = nothing_held none output
taken (found h) output = cond h.finished (handing h output) (nothing_held (found h) output)

-- "Retiring hands out the message likewise, finished or not."
unfoldable pub retired : Found Held → List ℕ → Local
retired none output = nothing_held none output
retired (found h) output = handing h output

unfoldable pub locally : Bool → Bool → Found Held → Act → List ℕ → Local
locally full over m (adding f) output = added full over m f output
locally full over m taking output = taken m output
locally full over m retiring output = retired m output

-- ## All channels

pub record Limits : Type 0 where
  pub active : ℕ
  pub buffered : ℕ

abbrev pub is_none : Found Held → Bool
is_none none = true
is_none (found h) = false

-- the channel holds nothing, and every place is taken
unfoldable pub full : Limits → State → ℕ → Bool
full l s c = is_none (get c s) && leb l.active (length s)

-- the bits of the channel's message with what the act brings; an initial starts anew
abbrev pub kept : Bool → Found Held → ℕ
kept true m = 0
kept false none = 0
kept false (found h) = h.message.bits

abbrev pub reached : Found Held → Act → ℕ
reached m (adding f) = kept f.header.b_partial_initial m + f.bits
reached m taking = 0
reached m retiring = 0

-- the channel's message with what the act brings, and all others, pass the buffered limit
unfoldable pub over : Limits → State → ℕ → Act → Bool
over l s c a = ltb l.buffered (total (without c s) + reached (get c s) a)

abbrev pub holding : ℕ → Found Held → State → State
holding c none s = without c s
holding c (found h) s = put c h s

unfoldable pub local : Limits → State → ℕ → Act → List ℕ → Local
local l s c a output = locally (full l s c) (over l s c a) (get c s) a output

unfoldable pub state_after : Limits → State → ℕ → Act → List ℕ → State
state_after l s c a output = holding c (local l s c a output).held s
