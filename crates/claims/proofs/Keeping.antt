-- After any reading call a sound state is sound again: a refusal changes nothing, and else the tables are laid in order.
use Prim.Native.Nat.{ℕ}
use mathlib.Core.Path.{◌≡◌}
use mathlib.Core.Bool.{Bool, true, false, cond}
use mathlib.Core.List.{List}
use lib.Dec.{ltb}
use lib.IntN.{ℤ}
use lib.ListN.{length}
use mir.Syntax.{w32}
use mir.Val.{of_z}
use borrow.Author.Tests.{le-leb}
use Rattle.types.specs.Types.{most_channels}
use Rattle.packet_reading.specs.declared.RawPacketReader.{RawPacketReader}
use Rattle.packet_reading.specs.Packet.{data_bits}
use Rattle.packet_reading.specs.Memory.{ReaderMemory, tables_fit, tables_sound, reader_sound}
use Rattle.packet_reading.specs.State.{TablesSound}
use Rattle.packet_reading.specs.Answers.{ReadReply}
use Rattle.packet.specs.Answers.{read_bunch}
use Rattle.packet.proofs.Soundness.{state}
use Rattle.packet_reading.proofs.Lasting.{state_after}
use Rattle.claims.specs.RoundTrip.{reader_after}

abbrev pub Sound : RawPacketReader → ReaderMemory → Type 0
Sound r m = reader_sound r m ≡ true

tested : {limit s p : ℕ} {m : ReaderMemory} → TablesSound limit s p m → tables_sound limit s p m ≡ true
unfolding tables_sound tables_fit
tested {limit} {s} {p} {m} x =
    rw (
      le-leb limit most_channels x.sequences.few,
      le-leb limit (length m.sequence_channels) x.sequences.room,
      le-leb limit (length m.sequence_numbers) x.numbers,
      le-leb limit (length m.partial_channels) x.partials.room,
      le-leb limit (length m.partial_sequences) x.partial_sequences,
      le-leb limit (length m.partial_reliables) x.partial_reliables,
      le-leb s limit x.sequences.live_fits,
      le-leb p limit x.partials.live_fits,
      x.sequences.ascends,
      x.partials.ascends,
    )

-- a call has left a sound state
pub record Left (r : RawPacketReader) (x : ReadReply) : Type 0 where
  pub lasts : Sound (reader_after r x) x.memory

module _ (r : RawPacketReader) where
  either : (b : Bool) {x y : ReadReply} → Left r x → Left r y → Left r (cond b x y)
  either true f g = f
  either false f g = g

  pub left : (d : List ℕ) (id : ℤ) (at : ℕ) (m : ReaderMemory) → Sound r m → Left r (read_bunch d id at r m)
  unfolding read_bunch
  left d id at m h =
      either (reader_sound r m)
      (either (ltb 65535 (length d)) (record { lasts = h })
      (either (ltb (data_bits d) at) (record { lasts = h })
      (record { lasts = tested (state_after (state r.max_channels r.live_sequences r.live_partials m h) d (of_z w32 id) at) }))) (record { lasts = h })
