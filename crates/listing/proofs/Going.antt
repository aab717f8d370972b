-- What holds at each turn of the loop over records, and where a record that is found lies.
use Rattle.std.proofs.Common.{◌≡◌, ℕ, zero, suc, ◌+◌, ◌<◌, ◌≤◌, List, length, get_or, take, Option, Some, Ok, Err, sym, ap, refl, ◌∙◌, arith, length-take-le}
use Rattle.packet_log.specs.declared.Record.{Record}
use Rattle.packet_log.specs.Log.{version_of, Entry, entry_at}
use Rattle.packet_log.proofs.Steps.{within}
use Rattle.listing.specs.declared.inner.input.Part.{Part}
use Rattle.tables.specs.Columns.{ascending}
use Rattle.packet_reading.specs.Memory.{ReaderMemory, reader_memory}
use Rattle.packet_tracking.specs.Fits.{TableFits}
use Rattle.packet_reading.specs.State.{TablesSound}
use Rattle.listing.specs.Input.{InBuffer, whole_at, Short}
use Rattle.log_telling.specs.Turns.{PacketRoom}

pub record Going (buffer₀ out₀ buffer out : List ℕ) (part : Part) (at used : ℕ) (m : ReaderMemory) (s p : ℕ) : Type 0 where
  pub held : InBuffer buffer part
  pub place : at ≤ part.held
  pub room : PacketRoom out used
  pub in_size : length buffer ≡ length buffer₀
  pub out_size : length out ≡ length out₀
  pub state : TablesSound 4096 s p m

pub record Lies (held start next : ℕ) : Type 0 where
  pub long : start ≤ next
  pub inside : next ≤ held

whole : (e : Entry) {r : Record} → whole_at e ≡ Some r → e ≡ Ok (Some r)
whole (Ok found) h = ap Ok h
whole (Err c) h = cc

pub lies : (b : List ℕ) (held at : ℕ) {r : Record} → held ≤ length b → whole_at (entry_at (take held b) at) ≡ Some r → Lies held r.start r.next
lies b held at h e =
    let w = within (take held b) at (whole (entry_at (take held b) at) e) in
    record { long = omega (arith, w.follows); inside = omega (arith, w.inside, length-take-le held b h) }

pub has_a_byte : (b : List ℕ) (held : ℕ) → version_of (take held b) ≡ Ok tt → 1 ≤ held
unfolding version_of
has_a_byte b zero e = cc
has_a_byte b (suc n) e = omega arith

pub short_packet : (d : List ℕ) → ((i : ℕ) → get_or d i 0 < 256) → (at : ℕ) {found : Option Record} → found ≡ whole_at (entry_at d at) → Short found
short_packet d byte at q =
    record {
      short = λ r. let w = within d at (whole (entry_at d at) (sym q ∙ r)) in omega (arith, w.long, w.follows, byte at, byte (at + 1));
    }

none_fit : {ch : List ℕ} → 4096 ≡ length ch → TableFits 4096 0 ch
unfolding ascending
none_fit e = record { few = omega arith; live_fits = omega arith; room = omega arith; ascends = refl }

pub no_channels : {a b c d e : List ℕ} → 4096 ≡ length a → 4096 ≡ length b → 4096 ≡ length c → 4096 ≡ length d → 4096 ≡ length e → TablesSound 4096 0 0 (reader_memory a b c d e)
no_channels a b c d e = record { sequences = none_fit a; numbers = omega arith; partials = none_fit c; partial_sequences = omega arith; partial_reliables = omega arith }
