-- A packet's listing turn by turn: what is written and what is still to come make up its text.
use mathlib.Core.Path.{◌≡◌, refl, sym, ap, ap₂, subst, ◌∙◌}
use mathlib.Core.Bool.{Bool, true, false, cond}
use mathlib.Core.List.{List, [], ◌++◌}
use mathlib.Core.Logic.{◌⊎◌, inl, inr}
use Prim.Native.Nat.{ℕ, zero, suc, ◌+◌, ◌*◌, ◌-◌, ◌≤◌, ◌<◌}
use native.Mathlib.Nat.{add-zero}
use native.Mathlib.Omega.{arith}
use lib.IntN.{ℤ}
use lib.ListN.{length, length-append}
use mir.Syntax.{w32}
use mir.Val.{of_z}
use Rattle.types.specs.declared.RawBunchHeader.{RawBunchHeader}
use Rattle.bitio_window.specs.declared.PacketBit.{PacketBit}
use Rattle.bitio_window.specs.declared.Window.{Window}
use Rattle.bitio_window.specs.Parse.{Result, value, refusal}
use Rattle.packet_reading.specs.declared.RawPacketReader.{RawPacketReader}
use Rattle.packet_reading.specs.declared.Bunch.{Bunch}
use Rattle.packet_reading.specs.declared.BunchRead.{BunchRead}
use Rattle.packet_reading.specs.Packet.{ReaderTables, Outcome, bunch, end, malformed, Read, data_bits, next_bunch}
use Rattle.packet_reading.specs.Memory.{ReaderMemory, tables_of, tables_laid_in, reader_tables}
use Rattle.packet_reading.specs.State.{ReaderSound}
use Rattle.packet_reading.specs.Answers.{ReadReply, bunch_outcome, of_read, read_reply}
use Rattle.packet_tracking.proofs.Kept.{sequences_back, partials_back}
use Rattle.log_lines.specs.Lines.{bunch_line}
use Rattle.log_lines.specs.Texts.{written}
use Rattle.log_lines.specs.Puts.{Put}
use Rattle.log_lines.proofs.Texts.{written_append}
use Rattle.log_telling.specs.declared.inner.Sums.{Sums}
use Rattle.log_telling.specs.Listed.{line_of, outcome_text, goes_on, sums, raised, raised_by, ListedPacket, with_line, closing, closed, read_at, listed_from, listed_packet}
use Rattle.log_telling.specs.Turns.{Few, packet_room, TellsPacket}
use Rattle.log_telling.proofs.Moving.{Moves, bits_most, moves}

-- what is laid is read back
pub laid_back : (t : ReaderTables) (m : ReaderMemory) → tables_of (length t.sequences) (length t.partials) (tables_laid_in t m) ≡ t
unfolding tables_of tables_laid_in
laid_back t m = rw (sequences_back t.sequences m.sequence_channels m.sequence_numbers, partials_back t.partials m.partial_channels m.partial_sequences m.partial_reliables)

outcome_in : Result Outcome → Outcome
outcome_in (value o) = o
outcome_in (refusal r) = end

-- what a reading call's answer says, field by field
module _ (r : BunchRead) (a : PacketBit) (v : RawPacketReader) (n : ReaderMemory) (x : Read) (m : ReaderMemory) (e : of_read r a v n ≡ read_reply x m) where
  pub outcome_is : bunch_outcome r.answer ≡ x.outcome
  unfolding outcome_in
  outcome_is = ap (λ (y : ReadReply). outcome_in y.answer) e

  pub next_of : a.0 ≡ x.next
  next_of = ap (λ (y : ReadReply). y.next) e

  pub raised_of : (s : Sums) → raised s r.bunches r.malformed_packets r.partial_errors r.channel_limits ≡ raised_by s x
  raised_of s = ap (λ (y : ReadReply). raised s y.bunches y.malformed_packets y.partial_errors y.channel_limits) e

  pub tables_of_is : reader_tables v n ≡ x.channels
  tables_of_is = ap (λ (y : ReadReply). tables_of y.live_sequences y.live_partials y.memory) e ∙ laid_back x.channels (tables_laid_in x.held m)

module _ (limit : ℕ) (d : List ℕ) (id : ℤ) where
  -- any bound above the bits that are left gives the same
  bound : (m n at : ℕ) (s : Sums) (t : ReaderTables) → at ≤ data_bits d → data_bits d - at < m → data_bits d - at < n → listed_from limit d id m at s t ≡ listed_from limit d id n at s t
  unfolding listed_from
  bound zero n at s t h f g = absurd (omega arith)
  bound (suc m) zero at s t h f g = absurd (omega arith)
  bound (suc m) (suc n) at s t h f g = go (λ next s' t' k p q. bound m n next s' t' k p q) (goes_on x.outcome) refl
    where
      x : Read
      x = read_at limit d id at t

      v : Moves (data_bits d) at x
      v = moves limit d (of_z w32 id) at t h

      go : ((next : ℕ) (s' : Sums) (t' : ReaderTables) → next ≤ data_bits d → data_bits d - next < m → data_bits d - next < n → listed_from limit d id m next s' t' ≡ listed_from limit d id n next s' t')
          → (b : Bool) → goes_on x.outcome ≡ b
          → with_line (outcome_text x.outcome) (cond b (listed_from limit d id m x.next (raised_by s x) x.channels) (closed id (raised_by s x) x.channels))
          ≡ with_line (outcome_text x.outcome) (cond b (listed_from limit d id n x.next (raised_by s x) x.channels) (closed id (raised_by s x) x.channels))
      go again false e = refl
      go again true e =
          let w = v.far e in
          ap (with_line (outcome_text x.outcome)) (again x.next (raised_by s x) x.channels v.inside (omega (arith, w, v.inside)) (omega (arith, w, v.inside)))

  -- what is still to come
  abbrev pub coming : Bool → ℕ → Sums → ReaderTables → ListedPacket
  coming more at s t = cond more (listed_from limit d id (suc (data_bits d - at)) at s t) (closed id s t)

  pub steps : (at : ℕ) (s : Sums) (t : ReaderTables) → at ≤ data_bits d
      → let x = read_at limit d id at t in coming true at s t ≡ with_line (outcome_text x.outcome) (coming (goes_on x.outcome) x.next (raised_by s x) x.channels)
  unfolding listed_from
  steps at s t h = go (goes_on x.outcome) refl
    where
      x : Read
      x = read_at limit d id at t

      v : Moves (data_bits d) at x
      v = moves limit d (of_z w32 id) at t h

      go : (b : Bool) → goes_on x.outcome ≡ b
          → with_line (outcome_text x.outcome) (cond b (listed_from limit d id (data_bits d - at) x.next (raised_by s x) x.channels) (closed id (raised_by s x) x.channels))
          ≡ with_line (outcome_text x.outcome) (coming b x.next (raised_by s x) x.channels)
      go false e = refl
      go true e =
          let w = v.far e in
          ap (with_line (outcome_text x.outcome)) (bound (data_bits d - at) (suc (data_bits d - x.next)) x.next (raised_by s x) x.channels v.inside (omega (arith, w, v.inside)) (omega arith))

  module _ (l : ListedPacket) (out₀ : List ℕ) (used : ℕ) where
    pub record Telling (out : List ℕ) (end : ℕ) (t : ReaderTables) (at : ℕ) (s : Sums) (more : Bool) : Type 0 where
      pub place : at ≤ data_bits d
      pub bytes : written out end (coming more at s t).text ≡ written out₀ used l.text
      pub ends : end + length (coming more at s t).text ≡ used + length l.text
      pub tables : (coming more at s t).channels ≡ l.channels
      pub room : 29 * end + 96 * (data_bits d - at) + 2784 ≤ 29 * length out
      pub few : more ≡ true → Few at s
      pub size : length out ≡ length out₀

    module _ {out : List ℕ} {end : ℕ} {t : ReaderTables} {at : ℕ} {s : Sums} (g : Telling out end t at s true) where
      abbrev x : Read
      x = read_at limit d id at t

      v : Moves (data_bits d) at x
      v = moves limit d (of_z w32 id) at t g.place

      few_on : goes_on x.outcome ≡ true → Few x.next (raised_by s x)
      few_on e =
          let w = v.far e in
          let f = g.few refl in
          record {
            bunches = omega (arith, w, f.bunches, v.one_bunch);
            malformed_packets = omega (arith, w, f.malformed_packets, v.one_malformed);
            partial_errors = omega (arith, w, f.partial_errors, v.one_partial);
            channel_limits = omega (arith, w, f.channel_limits, v.one_limit);
          }

      -- a line needs room only where there is one
      kept_room : (o : Outcome) {out' : List ℕ} {end' next : ℕ} → Put 96 out end (outcome_text o) out' end' → next ≤ data_bits d → at ≤ next → (goes_on o ≡ true → at + 29 ≤ next)
          → 29 * end' + 96 * (data_bits d - next) + 2784 ≤ 29 * length out'
      kept_room (bunch h w) p in-data on far = omega (arith, g.room, p.within, p.size, far refl)
      kept_room Outcome.end p in-data on far = omega (arith, g.room, p.ends, p.size)
      kept_room malformed p in-data on far = omega (arith, g.room, p.ends, p.size)

      turn : {out' : List ℕ} {end' : ℕ} → Put 96 out end (outcome_text x.outcome) out' end' → Telling out' end' x.channels x.next (raised_by s x) (goes_on x.outcome)
      turn {out'} {end'} p =
          let q = steps at s t g.place in
          let rest = (coming (goes_on x.outcome) x.next (raised_by s x) x.channels).text in
          let line = outcome_text x.outcome in
          let b : written out end (line ++ rest) ≡ written out₀ used l.text = ap (λ (y : ListedPacket). written out end y.text) (sym q) ∙ g.bytes in
          let n : end + length (line ++ rest) ≡ used + length l.text = ap (λ (y : ListedPacket). end + length y.text) (sym q) ∙ g.ends in
          record {
            place = v.inside;
            bytes = ap (λ (o : List ℕ). written o end' rest) p.bytes ∙ ap (λ (i : ℕ). written (written out end line) i rest) p.ends ∙ written_append line rest out end ∙ b;
            ends = omega (arith, p.ends, n, length-append line rest);
            tables = sym (ap (λ (y : ListedPacket). y.channels) q) ∙ g.tables;
            room = kept_room x.outcome p v.inside v.forward v.far;
            few = few_on;
            size = p.size ∙ g.size;
          }

      pub onward : {out' text : List ℕ} {end' : ℕ} {t' : ReaderTables} {at' : ℕ} {s' : Sums} {more' : Bool} → Put 96 out end text out' end'
          → text ≡ outcome_text x.outcome → t' ≡ x.channels → at' ≡ x.next → s' ≡ raised_by s x → more' ≡ goes_on x.outcome → Telling out' end' t' at' s' more'
      onward {out'} {text} {end'} p a b c e f =
          rw (b, c, e, f) (turn (subst (λ (y : List ℕ). Put 96 out end y out' end') a p))

      pub less : {at' : ℕ} → at' ≡ x.next → goes_on x.outcome ≡ true → data_bits d - at' < data_bits d - at
      less a on = omega (arith, v.far on, v.inside)

    -- the same by what the calls of a turn ensure
    module _ (q : RawPacketReader) (of : q.max_channels ≡ limit) (m : ReaderMemory) {out : List ℕ} {end : ℕ} {at : ℕ} {sum : Sums} (g : Telling out end (reader_tables q m) at sum true)
        (word : ℕ) (is : word ≡ of_z w32 id) (r : BunchRead) (a : PacketBit) (v : RawPacketReader) (n : ReaderMemory) (e : of_read r a v n ≡ read_reply (next_bunch q.max_channels d word at (reader_tables q m)) m) where
      e' : of_read r a v n ≡ read_reply (read_at limit d id at (reader_tables q m)) m
      e' = e ∙ ap (λ (k : ℕ × ℕ). read_reply (next_bunch k.0 d k.1 at (reader_tables q m)) m) (ap₂ (λ (j k : ℕ). (j, k)) of is)

      abbrev y : Read
      y = read_at limit d id at (reader_tables q m)

      pub turned : {out' : List ℕ} {end' : ℕ} {sum' : Sums} → Put 96 out end (outcome_text (bunch_outcome r.answer)) out' end'
          → sum' ≡ raised sum r.bunches r.malformed_packets r.partial_errors r.channel_limits
          → Telling out' end' (reader_tables v n) a.0 sum' (goes_on (bunch_outcome r.answer))
      turned put b =
          let o = outcome_is r a v n y m e' in
          onward g put (ap outcome_text o) (tables_of_is r a v n y m e') (next_of r a v n y m e') (b ∙ raised_of r a v n y m e' sum) (ap goes_on o)

      pub nearer : goes_on (bunch_outcome r.answer) ≡ true → data_bits d - a.0 < data_bits d - at
      nearer on = less g (next_of r a v n y m e') (sym (ap goes_on (outcome_is r a v n y m e')) ∙ on)

    pub few_sums : {out : List ℕ} {end : ℕ} {t : ReaderTables} {at : ℕ} {sum : Sums} → Telling out end t at sum true → length d ≤ 65535 → Few 600000 sum
    few_sums g h =
        let f = g.few refl in
        let b = bits_most d in
        record {
          bunches = omega (arith, f.bunches, g.place, b, h);
          malformed_packets = omega (arith, f.malformed_packets, g.place, b, h);
          partial_errors = omega (arith, f.partial_errors, g.place, b, h);
          channel_limits = omega (arith, f.channel_limits, g.place, b, h);
        }

    -- after the last line
    pub told : {out : List ℕ} {end : ℕ} (v : RawPacketReader) (m : ReaderMemory) {at : ℕ} {sum : Sums} {out' : List ℕ} {end' : ℕ} → Telling out end (reader_tables v m) at sum false
        → Put 79 out end (closing id sum) out' end' → ReaderSound v m → TellsPacket l out₀ used out' m v end'
    told v m g put state =
        record {
          bytes = put.bytes ∙ g.bytes;
          ends = put.ends ∙ g.ends;
          inside = omega (arith, put.within, put.size, g.room);
          size = put.size ∙ g.size;
          tables = g.tables;
          state = state;
        }

  pub begins : (t : ReaderTables) (out : List ℕ) (used : ℕ) → length d ≤ 65535 → used + packet_room ≤ length out → Telling (listed_packet limit d id t) out used out used t 0 (sums 0 0 0 0) true
  begins t out used h r =
      let e : coming true 0 (sums 0 0 0 0) t ≡ listed_packet limit d id t = bound (suc (data_bits d - 0)) (suc (data_bits d)) 0 (sums 0 0 0 0) t (omega arith) (omega arith) (omega arith) in
      record {
        place = omega arith;
        bytes = ap (λ (y : ListedPacket). written out used y.text) e;
        ends = ap (λ (y : ListedPacket). used + length y.text) e;
        tables = ap (λ (y : ListedPacket). y.channels) e;
        room = omega (arith, bits_most d, h, r);
        few = λ e. record { bunches = omega arith; malformed_packets = omega arith; partial_errors = omega arith; channel_limits = omega arith };
        size = refl;
      }

pub no_text : (out : List ℕ) (at : ℕ) {text : List ℕ} → text ≡ [] → Put 96 out at text out at
unfolding written
no_text out at e = rw e (record { bytes = refl; ends = sym (add-zero at); within = omega arith; size = refl })

pub line_text : (b : Bunch) (h : RawBunchHeader) (w : Window) → b ≡ Bunch.Read h w → bunch_line (line_of h) ≡ outcome_text (bunch_outcome b)
line_text b h w e = sym (ap (λ (x : Bunch). outcome_text (bunch_outcome x)) e)

-- an answer that is no bunch has no line, and is the last
pub stopped : (b : Bunch) → (b ≡ Bunch.End) ⊎ (b ≡ Bunch.Malformed) → (outcome_text (bunch_outcome b) ≡ []) × (goes_on (bunch_outcome b) ≡ false)
stopped b (inl e) = rw e (refl, refl)
stopped b (inr e) = rw e (refl, refl)
