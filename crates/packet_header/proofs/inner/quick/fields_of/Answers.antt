-- A line for each read of the word: it is one step of `fields`.
use Rattle.bitio_window.specs.Parse.{read_if}
use Rattle.types.specs.Types.{close_reason_maximum}
use Rattle.packet_header.specs.Header.{fields}
use Rattle.packet_header.proofs.Words.{then, gives}
use Rattle.packet_header.proofs.inner.quick.fields_of.Goals as goal

pub returns : goal.returns
unfolding fields read_if close_reason_maximum
returns c =
    then _ c.flag-control.ensures.0
    (then _ c.flag-b_open.ensures.0
    (then _ c.flag-b_close.ensures.0
    (then _ c.serialized-close_reason.ensures.0
    (then _ c.flag-b_is_replication_paused.ensures.0
    (then _ c.flag-b_reliable.ensures.0
    (then _ c.packed-ch_index.ensures.0
    (then _ c.flag-b_has_package_map_exports.ensures.0
    (then _ c.flag-b_has_must_be_mapped_guids.ensures.0
    (then _ c.flag-b_partial.ensures.0
    (then _ c.flag-ignored.ensures.0
    (then _ c.flag-b_partial_initial.ensures.0
    (then _ c.flag-b_partial_final.ensures.0
    (then _ c.flag-hardcoded.ensures.0
    (then _ c.packed-name.ensures.0
    (then _ c.serialized-payload_bit_count.ensures.0
    (gives _ _))))))))))))))))
