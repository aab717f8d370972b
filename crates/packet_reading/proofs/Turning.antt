-- A turn of the reading call, from the sequence on: what it leaves where the channel stays, and where a close retires it.
use Prim.Native.Nat.{ℕ}
use mathlib.Core.Path.{◌≡◌, sym, ap, ◌∙◌}
use mathlib.Core.Bool.{Bool, true, false}
use mathlib.Core.List.{List}
use lib.ListN.{length, length-map}
use Rattle.tables.specs.Columns.{laid}
use Rattle.tables.specs.Tables.{Table, without, channels, values}
use Rattle.tables.proofs.Columns.{laid_take, laid_twice}
use Rattle.packet_header.specs.declared.BunchFields.{BunchFields}
use Rattle.types.specs.Continuing.{Partial}
use Rattle.packet_tracking.specs.Partials.{Tracked, tracking, effected, in_flight}
use Rattle.packet_reading.specs.Packet.{retires, whole}
use Rattle.packet_tracking.specs.SequenceColumns.{sequences_at, LaidSequences}
use Rattle.packet_tracking.specs.PartialColumns.{partials_at, sequences_in_flight, reliables_in_flight, TrackedIn, tracked_in, tracks_to, LaidPartials}
use Rattle.packet_reading.specs.Memory.{ReaderMemory, reader_memory, tables_of, tables_laid_in}
use Rattle.packet_tracking.specs.Fits.{TableFits}
use Rattle.packet_reading.specs.State.{TablesSound}
use Rattle.packet_reading.specs.Turns.{bunch_handed_out, settles}
use Rattle.packet_tracking.specs.declared.inner.partials.Tracked as T
use Rattle.packet_reading.proofs.Reading.{sequences_held}
use Rattle.tables.proofs.Kept.{Kept}
use Rattle.packet_tracking.proofs.Kept.{kept_fits, kept_size, tracking_kept, partials_kept, partials_back}

module _ {limit s p : ℕ} {m : ReaderMemory} (state : TablesSound limit s p m) where
  abbrev S : Table ℕ
  S = sequences_at s m.sequence_channels m.sequence_numbers

  same_channels : laid (channels S) m.sequence_channels ≡ m.sequence_channels
  same_channels = rw (sequences_held state).first (laid_take s m.sequence_channels)

  same_numbers : laid (values S) m.sequence_numbers ≡ m.sequence_numbers
  same_numbers = rw (sequences_held state).second (laid_take s m.sequence_numbers)

  module _ (f : BunchFields) (id at sequence : ℕ) (limited : Bool) where
    abbrev P : Table Partial
    P = partials_at p m.partial_channels m.partial_sequences m.partial_reliables

    abbrev K : Tracked
    K = tracking limit f sequence limited P

    abbrev P' : Table Partial
    P' = effected K.effect f.ch_index (in_flight f sequence) P

    pub stays_open : retires f ≡ false → settles limit s p f id at sequence limited m
        ≡ bunch_handed_out f id at sequence limited K.error K.completed s (length P')
        (reader_memory m.sequence_channels m.sequence_numbers (laid (channels P') m.partial_channels) (laid (sequences_in_flight P') m.partial_sequences) (laid (reliables_in_flight P') m.partial_reliables))
    unfolding settles whole tables_of tables_laid_in
    stays_open h = rw (h, (sequences_held state).size, same_channels, same_numbers, same_channels, same_numbers, laid_twice (channels P') m.partial_channels, laid_twice (sequences_in_flight P') m.partial_sequences, laid_twice (reliables_in_flight P') m.partial_reliables)

    pub closes : retires f ≡ true → settles limit s p f id at sequence limited m
        ≡ bunch_handed_out f id at sequence limited K.error K.completed (length (without f.ch_index S)) (length (without f.ch_index P'))
        (reader_memory (laid (channels (without f.ch_index S)) m.sequence_channels) (laid (values (without f.ch_index S)) m.sequence_numbers)
        (laid (channels (without f.ch_index P')) (laid (channels P') m.partial_channels))
        (laid (sequences_in_flight (without f.ch_index P')) (laid (sequences_in_flight P') m.partial_sequences))
        (laid (reliables_in_flight (without f.ch_index P')) (laid (reliables_in_flight P') m.partial_reliables)))
    unfolding settles whole tables_of tables_laid_in
    closes h = rw (h, same_channels, same_numbers)

    -- by what the tracker left
    module _ (k : T.Tracked) (left : ℕ) (pc ps pr : List ℕ) (e : tracked_in k left pc ps pr ≡ tracks_to limit p f sequence limited m.partial_channels m.partial_sequences m.partial_reliables) where
      kept : Kept limit P'
      kept = tracking_kept P (partials_kept m.partial_channels state.partials m.partial_sequences m.partial_reliables state.partial_sequences state.partial_reliables) f sequence limited

      live : left ≡ length P'
      live = ap (λ (x : TrackedIn). x.live) e

      channels_are : pc ≡ laid (channels P') m.partial_channels
      channels_are = ap (λ (x : TrackedIn). x.channels) e

      sequences_are : ps ≡ laid (sequences_in_flight P') m.partial_sequences
      sequences_are = ap (λ (x : TrackedIn). x.sequences) e

      reliables_are : pr ≡ laid (reliables_in_flight P') m.partial_reliables
      reliables_are = ap (λ (x : TrackedIn). x.reliables) e

      pub tracked_fits : TableFits limit left pc
      tracked_fits = rw (live, channels_are) (kept_fits P' kept m.partial_channels state.partials)

      pub tracked_sizes : (length ps ≡ length m.partial_sequences) × (length pr ≡ length m.partial_reliables)
      tracked_sizes =
          let v = length-map P' (λ (x : ℕ × Partial). x.1) in
          rw (sequences_are, reliables_are)
          (kept_size P' kept (sequences_in_flight P') m.partial_sequences (length-map (values P') (λ (x : Partial). x.0) ∙ v) state.partial_sequences, kept_size P' kept (reliables_in_flight P') m.partial_reliables (length-map (values P') (λ (x : Partial). x.1) ∙ v) state.partial_reliables)

      pub left_open : retires f ≡ false → bunch_handed_out f id at sequence limited k.error k.completed s left (reader_memory m.sequence_channels m.sequence_numbers pc ps pr)
          ≡ settles limit s p f id at sequence limited m
      left_open h =
          rw (live, channels_are, sequences_are, reliables_are, ap (λ (x : TrackedIn). x.error) e, ap (λ (x : TrackedIn). x.completed) e)
          (sym (stays_open h))

      pub closed : retires f ≡ true → (s' p' : ℕ) (sc sn pc' ps' pr' : List ℕ) → LaidSequences (without f.ch_index S) m.sequence_channels m.sequence_numbers s' sc sn
          → LaidPartials (without f.ch_index (partials_at left pc ps pr)) pc ps pr p' pc' ps' pr'
          → bunch_handed_out f id at sequence limited k.error k.completed s' p' (reader_memory sc sn pc' ps' pr') ≡ settles limit s p f id at sequence limited m
      closed h s' p' sc sn pc' ps' pr' a b =
          let back : partials_at left pc ps pr ≡ P' = rw (live, channels_are, sequences_are, reliables_are) (partials_back P' m.partial_channels m.partial_sequences m.partial_reliables) in
          rw (a.live_is, a.channels_are, a.numbers_are, b.live_is, b.channels_are, b.sequences_are, b.reliables_are, back, channels_are, sequences_are, reliables_are, ap (λ (x : TrackedIn). x.error) e, ap (λ (x : TrackedIn). x.completed) e)
          (sym (closes h))
