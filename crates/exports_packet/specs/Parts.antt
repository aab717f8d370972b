-- What the contracts of `bunches` name. A reader of the public calls can pass over it.
use Rattle.std.specs.Prelude.{ℕ, List, ◌∷◌}
use Rattle.bitio_window.specs.declared.PacketBit.{PacketBit}
use Rattle.packet_reading.specs.declared.RawPacketReader.{RawPacketReader}

-- the next cursor, by how much the counts rise, and the live places, before a bunch's words
abbrev pub read_words : PacketBit → ℕ → ℕ → ℕ → ℕ → RawPacketReader → List ℕ → List ℕ
read_words at bunches malformed partials limits r rest =
    at.0 ∷ bunches ∷ malformed ∷ partials ∷ limits ∷ r.live_sequences ∷ r.live_partials ∷ rest
