-- A reading call leaves a state that passes the test again.
use Prim.Native.Nat.{ℕ, ◌-◌}
use mathlib.Core.Path.{◌≡◌, sym, ◌∙◌, subst}
use mathlib.Core.Bool.{Bool, true, false, cond}
use mathlib.Core.List.{List}
use lib.Dec.{eqb, leb, ltb}
use lib.ListN.{length, length-map}
use Rattle.bitio_window.specs.declared.PacketBit.{PacketBit}
use Rattle.tables.specs.Tables.{values}
use Rattle.packet_header.specs.declared.BunchFields.{BunchFields}
use Rattle.packet_header.specs.Header.{Header, unreadable, readable, as_header, fields}
use Rattle.packet_tracking.specs.Sequences.{numbered}
use Rattle.types.specs.Continuing.{Partial}
use Rattle.packet_tracking.specs.Partials.{tracking}
use Rattle.packet_reading.specs.Packet.{ReaderTables, Read, last_byte, data_bits, rest, tables_holding, tables_retired, retires, whole, headed, next_bunch}
use Rattle.packet_reading.specs.Memory.{ReaderMemory, tables_of, tables_laid_in}
use Rattle.packet_reading.specs.State.{TablesSound}
use Rattle.packet_reading.specs.declared.RawPacketReader.{RawPacketReader}
use Rattle.packet_reading.specs.declared.BunchRead.{BunchRead}
use Rattle.packet_reading.specs.Answers.{ReadReply, of_read, read_reply}
use Rattle.tables.proofs.Kept.{Kept, without_kept}
use Rattle.packet_tracking.specs.PartialColumns.{sequences_in_flight, reliables_in_flight}
use Rattle.packet_tracking.proofs.Kept.{kept_fits, kept_size, numbered_kept, tracking_kept, sequences_kept, partials_kept}

pub record Both (limit : ℕ) (t : ReaderTables) : Type 0 where
  pub sequences_kept : Kept limit t.sequences
  pub partials_kept : Kept limit t.partials

pub record After (limit : ℕ) (x : Read) : Type 0 where
  pub held : Both limit x.held
  pub channels : Both limit x.channels

module _ (limit : ℕ) where
  either : (b : Bool) {x y : Read} → After limit x → After limit y → After limit (cond b x y)
  either true a b = a
  either false a b = b

  gone : (b : Bool) (c : ℕ) {t : ReaderTables} → Both limit t → Both limit (tables_retired b c t)
  gone true c {t} k = record { sequences_kept = without_kept t.sequences k.sequences_kept c; partials_kept = without_kept t.partials k.partials_kept c }
  gone false c k = k

  module _ (t : ReaderTables) (k : Both limit t) where
    at_whole : (f : BunchFields) (id at : ℕ) → let n = numbered limit id f t.sequences in After limit (whole f id at n (tracking limit f n.sequence n.limited t.partials) t.partials)
    unfolding whole
    at_whole f id at =
        let n = numbered limit id f t.sequences in
        let both : Both limit (tables_holding f n (tracking limit f n.sequence n.limited t.partials) t.partials) =
        record { sequences_kept = numbered_kept t.sequences k.sequences_kept id f; partials_kept = tracking_kept t.partials k.partials_kept f n.sequence n.limited }
        in
        record { held = both; channels = gone (retires f) f.ch_index both }

    at_header : (bits id : ℕ) (h : Header) → After limit (headed bits id limit h t)
    at_header bits id unreadable = record { held = k; channels = k }
    at_header bits id (readable f at) =
        let n = numbered limit id f t.sequences in
        let both : Both limit (record { sequences = n.table; partials = t.partials }) = record { sequences_kept = numbered_kept t.sequences k.sequences_kept id f; partials_kept = k.partials_kept } in
        either (ltb (bits - at) f.payload_bit_count) (record { held = both; channels = both }) (at_whole f id at)

    pub after : (d : List ℕ) (id at : ℕ) → After limit (next_bunch limit d id at t)
    unfolding next_bunch
    after d id at =
        either (eqb (length d) 0) (record { held = k; channels = k })
        (either (eqb (last_byte d) 0) (record { held = k; channels = k })
        (either (leb (data_bits d) at) (record { held = k; channels = k }) (at_header (data_bits d) id (as_header (fields d (rest (data_bits d) at))))))

-- tables that are kept, laid in columns that fit
pub laid_state : {limit s p : ℕ} {m : ReaderMemory} → TablesSound limit s p m → (t : ReaderTables) → Both limit t → TablesSound limit (length t.sequences) (length t.partials) (tables_laid_in t m)
unfolding tables_laid_in
laid_state {m = m} state t k =
    let a = k.sequences_kept in
    let b = k.partials_kept in
    let v = length-map t.partials (λ (x : ℕ × Partial). x.1) in
    record {
      sequences = kept_fits t.sequences a m.sequence_channels state.sequences;
      numbers = rw (kept_size t.sequences a (values t.sequences) m.sequence_numbers (length-map t.sequences (λ (x : ℕ × ℕ). x.1)) state.numbers) state.numbers;
      partials = kept_fits t.partials b m.partial_channels state.partials;
      partial_sequences = rw (kept_size t.partials b (sequences_in_flight t.partials) m.partial_sequences (length-map (values t.partials) (λ (x : Partial). x.0) ∙ v) state.partial_sequences) state.partial_sequences;
      partial_reliables = rw (kept_size t.partials b (reliables_in_flight t.partials) m.partial_reliables (length-map (values t.partials) (λ (x : Partial). x.1) ∙ v) state.partial_reliables) state.partial_reliables;
    }

pub both_of : {limit s p : ℕ} {m : ReaderMemory} → TablesSound limit s p m → Both limit (tables_of s p m)
unfolding tables_of
both_of {m = m} state =
    record {
      sequences_kept = sequences_kept m.sequence_channels state.sequences m.sequence_numbers state.numbers;
      partials_kept = partials_kept m.partial_channels state.partials m.partial_sequences m.partial_reliables state.partial_sequences state.partial_reliables;
    }

module _ {limit s p : ℕ} {m : ReaderMemory} (state : TablesSound limit s p m) (d : List ℕ) (id at : ℕ) where
  abbrev x : Read
  x = next_bunch limit d id at (tables_of s p m)

  pub state_after : TablesSound limit (length x.channels.sequences) (length x.channels.partials) (tables_laid_in x.channels (tables_laid_in x.held m))
  state_after =
      let k = after limit (tables_of s p m) (both_of state) d id at in
      laid_state (laid_state state x.held k.held) x.channels k.channels

  pub state_of : (r : BunchRead) (a : PacketBit) (v : RawPacketReader) (n : ReaderMemory) → of_read r a v n ≡ read_reply x m → TablesSound limit v.live_sequences v.live_partials n
  state_of r a v n e = subst (λ (y : ReadReply). TablesSound limit y.live_sequences y.live_partials y.memory) (sym e) state_after
