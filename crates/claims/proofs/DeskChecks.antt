-- The definitions are run on the table.
use mathlib.Core.Path.{refl}
use mathlib.Core.List.{flatten}
use lib.Count.{count_leading_zeros}
use Rattle.bitio_bits.specs.Bits.{bit_at, bits_at}
use Rattle.bitio_window.specs.Refusals.{endless, too_large, zero_maximum, unresolved}
use Rattle.bitio_window.specs.Parse.{◌>>=◌, ◌>>◌, give, refuse, refuse_if, read_if, place}
use Rattle.bitio_window.specs.Reads.{data_fits, window_fits, cursor_fits, sound, need, bits_taken, bits}
use Rattle.bitio_window.specs.Numbers.{packed_from, packed, log2, serialized, read_packed, read_serialized}
use Rattle.bitio_window.specs.Reads.{bit, read_bit}
use Rattle.packet_reading.specs.Packet.{data_bits, next_bunch}
use Rattle.tables.specs.Columns.{ascending}
use Rattle.packet_reading.specs.Memory.{tables_fit, tables_sound}
use Rattle.packet.specs.Answers.{read_bunch}
use Rattle.field_walking.specs.Records.{remaining, payload, counted, rep_layout, call, class_net_cache}
use Rattle.field_walking.specs.Walks.{walk}
use Rattle.field.specs.Walks.{parse_rep_layout, parse_class_net_cache}
use Rattle.claims.specs.DeskChecks.{desk_checks, Hold}

pub desk_checks_hold : Hold desk_checks
unfolding count_leading_zeros bit_at bits_at endless too_large zero_maximum ◌>>=◌ ◌>>◌ give refuse refuse_if read_if place data_fits window_fits cursor_fits sound need bits_taken bits packed_from packed log2 serialized read_packed read_serialized bit read_bit remaining payload counted rep_layout call class_net_cache unresolved walk parse_rep_layout parse_class_net_cache data_bits next_bunch ascending tables_fit tables_sound read_bunch flatten
desk_checks_hold = (refl, (refl, (refl, (refl, (refl, (refl, (refl, (refl, (refl, (refl, (refl, (refl, (refl, (refl, tt))))))))))))))
