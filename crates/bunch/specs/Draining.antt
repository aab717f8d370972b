-- Draining: every message leaves the accumulator, and those that are not finished are listed.
use Rattle.std.specs.Prelude.{ℕ, cond, List, [], ◌∷◌, map, ltb, length, Result, Ok, Err}
use Rattle.bitio_window.specs.Refusals.{Refusal, unsound, output_short, too_few_places}
use Rattle.bunch_places.specs.Bytes.{pasted}
use Rattle.bunch_judging.specs.Held.{Held}
use Rattle.bunch_held.specs.declared.Accumulator.{Accumulator}
use Rattle.bunch_held.specs.declared.BunchError.{BunchError}
use Rattle.bunch_held.specs.Memory.{HeldMemory, State, bytes_all}
use Rattle.bunch_held.specs.Sound.{memory_sound}
use Rattle.bunch_held.specs.Calls.{held_by, counting}
use Rattle.bunch_held.specs.Refusals.{error_paper}

-- "unfinished messages by ascending channel (the Rust's order is arbitrary) and drops finished ones": a state is by ascending channel
unfoldable pub unfinished : State → State
unfinished [] = []
unfinished (e ∷ s) = cond e.1.finished (unfinished s) (e ∷ unfinished s)

-- a message in the list: its channel, how many bits, and its header's words
abbrev pub listed_of : ℕ × Held → List ℕ
listed_of e = e.0 ∷ e.1.message.bits ∷ e.1.message.header

abbrev pub listed_all : State → List (List ℕ)
listed_all s = map listed_of s

-- how many messages are listed or a refusal, the accumulator, the lent output and the lent list; the lent memory stays as it is
pub record DrainReply : Type 0 where
  pub answer : Result ℕ Refusal
  pub accumulator : Accumulator
  pub output : List ℕ
  pub list : List (List ℕ)

-- "a refused … drain has written nothing"
abbrev pub drain_refuses : Refusal → Accumulator → List ℕ → List (List ℕ) → DrainReply
drain_refuses e a output list = record { answer = Err e; accumulator = a; output = output; list = list }

-- bytes to the front of the output, one message's after the other, and the messages to the front of the list
abbrev pub lists : State → Accumulator → List ℕ → List (List ℕ) → DrainReply
lists u a output list =
    record {
      answer = Ok (length u);
      accumulator = counting a [];
      output = pasted 0 (bytes_all u) output;
      list = pasted 0 (listed_all u) list;
    }

-- "draining tests 10, 13, 14"
unfoldable pub drained : Accumulator → HeldMemory → List ℕ → List (List ℕ) → DrainReply
drained a m output list =
    let u = unfinished (held_by a m) in
    cond (memory_sound a m)
    (cond (ltb (length output) (length (bytes_all u))) (drain_refuses (output_short (length (bytes_all u))) a output list)
    (cond (ltb (length list) (length u)) (drain_refuses (too_few_places (length u)) a output list) (lists u a output list)))
    (drain_refuses unsound a output list)

abbrev pub drain_answer : Result ℕ BunchError → Result ℕ Refusal
drain_answer (Ok n) = Ok n
drain_answer (Err e) = Err (error_paper e)

abbrev pub of_emptied : Result ℕ BunchError → Accumulator → List ℕ → List (List ℕ) → DrainReply
of_emptied r a output list = record { answer = drain_answer r; accumulator = a; output = output; list = list }
