-- Document 01's "Writer and log": the listing of a log, its packets' texts one after the other and how it ends.
use Rattle.std.specs.Prelude.{ℕ, List, [], ◌∷◌, ◌++◌}
use Rattle.types.specs.Types.{most_channels}
use Rattle.packet_reading.specs.Packet.{ReaderTables, empty_tables}
use Rattle.packet_log.specs.Log.{Packet, Ending, whole, other_version, cut, log_of}
use Rattle.log_lines.specs.Lines.{version_line, cut_line}
use Rattle.log_telling.specs.Listed.{listed_packet}

-- "The channel limit is 4,096." The tables live over the whole log.
abbrev pub packets_from : ReaderTables → List Packet → List ℕ
packets_from t [] = []
packets_from t (p ∷ ps) = let l = listed_packet most_channels p.bytes p.id t in l.text ++ packets_from l.channels ps

-- "V and X end the listing."
abbrev pub ending_line : Ending → List ℕ
ending_line whole = []
ending_line (other_version b) = version_line b
ending_line (cut i) = cut_line i

-- What the program prints of a log. Of what stands in a file no contract says anything, so this one is held by examples.
abbrev pub listing : List ℕ → List ℕ
listing d = packets_from empty_tables (log_of d).packets ++ ending_line (log_of d).ending
