-- Each way out is the end of a row of reads, and each read before it one step of `fields`.
use mathlib.Core.Path.{refl}
use Rattle.bitio_window.specs.Parse.{give}
use Rattle.types.specs.Types.{close_reason_maximum}
use Rattle.packet_header.specs.Header.{fields}
use Rattle.packet_header.proofs.Rows.{on, ends}
use Rattle.packet_header.proofs.inner.read_row.Goals as goal

pub returns-in_err-control : goal.returns-in_err-control
unfolding fields
returns-in_err-control c = (ends _ _ _ _ c.from_residual.ensures.1 c.in_err-control.ensures.0, c.in_err-control.ensures.1)

pub returns-in_err-b_open : goal.returns-in_err-b_open
unfolding fields
returns-in_err-b_open c = (on _ _ c.in_ok-control.ensures.0 (ends _ _ _ _ c.from_residual-in_err-b_open.ensures.1 c.in_err-b_open.ensures.0), c.in_err-b_open.ensures.1)

pub returns-in_err-b_close : goal.returns-in_err-b_close
unfolding fields
returns-in_err-b_close c = (on _ _ c.in_ok-control.ensures.0 (on _ _ c.in_ok-b_open.ensures.0 (ends _ _ _ _ c.from_residual-in_err-b_close.ensures.1 c.in_err-b_close.ensures.0)), c.in_err-b_close.ensures.1)

pub returns-in_err-close_reason : goal.returns-in_err-close_reason
unfolding fields close_reason_maximum
returns-in_err-close_reason c = (on _ _ c.in_ok-control.ensures.0 (on _ _ c.in_ok-b_open.ensures.0 (on _ _ c.in_ok-b_close.ensures.0 (ends _ _ _ _ c.from_residual-in_err-close_reason.ensures.1 c.in_err-close_reason.ensures.0))), c.in_err-close_reason.ensures.1)

pub returns-in_err-b_is_replication_paused : goal.returns-in_err-b_is_replication_paused
unfolding fields close_reason_maximum
returns-in_err-b_is_replication_paused c = (on _ _ c.in_ok-control.ensures.0 (on _ _ c.in_ok-b_open.ensures.0 (on _ _ c.in_ok-b_close.ensures.0 (on _ _ c.in_ok-close_reason.ensures.0 (ends _ _ _ _ c.from_residual-in_err-b_is_replication_paused.ensures.1 c.in_err-b_is_replication_paused.ensures.0)))), c.in_err-b_is_replication_paused.ensures.1)

pub returns-in_err-b_reliable : goal.returns-in_err-b_reliable
unfolding fields close_reason_maximum
returns-in_err-b_reliable c = (on _ _ c.in_ok-control.ensures.0 (on _ _ c.in_ok-b_open.ensures.0 (on _ _ c.in_ok-b_close.ensures.0 (on _ _ c.in_ok-close_reason.ensures.0 (on _ _ c.in_ok-b_is_replication_paused.ensures.0 (ends _ _ _ _ c.from_residual-in_err-b_reliable.ensures.1 c.in_err-b_reliable.ensures.0))))), c.in_err-b_reliable.ensures.1)

pub returns-in_err-ch_index : goal.returns-in_err-ch_index
unfolding fields close_reason_maximum
returns-in_err-ch_index c = (on _ _ c.in_ok-control.ensures.0 (on _ _ c.in_ok-b_open.ensures.0 (on _ _ c.in_ok-b_close.ensures.0 (on _ _ c.in_ok-close_reason.ensures.0 (on _ _ c.in_ok-b_is_replication_paused.ensures.0 (on _ _ c.in_ok-b_reliable.ensures.0 (ends _ _ _ _ c.from_residual-in_err-ch_index.ensures.1 c.in_err-ch_index.ensures.0)))))), c.in_err-ch_index.ensures.1)

pub returns-in_err-b_has_package_map_exports : goal.returns-in_err-b_has_package_map_exports
unfolding fields close_reason_maximum
returns-in_err-b_has_package_map_exports c = (on _ _ c.in_ok-control.ensures.0 (on _ _ c.in_ok-b_open.ensures.0 (on _ _ c.in_ok-b_close.ensures.0 (on _ _ c.in_ok-close_reason.ensures.0 (on _ _ c.in_ok-b_is_replication_paused.ensures.0 (on _ _ c.in_ok-b_reliable.ensures.0 (on _ _ c.in_ok-ch_index.ensures.0 (ends _ _ _ _ c.from_residual-in_err-b_has_package_map_exports.ensures.1 c.in_err-b_has_package_map_exports.ensures.0))))))), c.in_err-b_has_package_map_exports.ensures.1)

pub returns-in_err-b_has_must_be_mapped_guids : goal.returns-in_err-b_has_must_be_mapped_guids
unfolding fields close_reason_maximum
returns-in_err-b_has_must_be_mapped_guids c = (on _ _ c.in_ok-control.ensures.0 (on _ _ c.in_ok-b_open.ensures.0 (on _ _ c.in_ok-b_close.ensures.0 (on _ _ c.in_ok-close_reason.ensures.0 (on _ _ c.in_ok-b_is_replication_paused.ensures.0 (on _ _ c.in_ok-b_reliable.ensures.0 (on _ _ c.in_ok-ch_index.ensures.0 (on _ _ c.in_ok-b_has_package_map_exports.ensures.0 (ends _ _ _ _ c.from_residual-in_err-b_has_must_be_mapped_guids.ensures.1 c.in_err-b_has_must_be_mapped_guids.ensures.0)))))))), c.in_err-b_has_must_be_mapped_guids.ensures.1)

pub returns-in_err-b_partial : goal.returns-in_err-b_partial
unfolding fields close_reason_maximum
returns-in_err-b_partial c = (on _ _ c.in_ok-control.ensures.0 (on _ _ c.in_ok-b_open.ensures.0 (on _ _ c.in_ok-b_close.ensures.0 (on _ _ c.in_ok-close_reason.ensures.0 (on _ _ c.in_ok-b_is_replication_paused.ensures.0 (on _ _ c.in_ok-b_reliable.ensures.0 (on _ _ c.in_ok-ch_index.ensures.0 (on _ _ c.in_ok-b_has_package_map_exports.ensures.0 (on _ _ c.in_ok-b_has_must_be_mapped_guids.ensures.0 (ends _ _ _ _ c.from_residual-in_err-b_partial.ensures.1 c.in_err-b_partial.ensures.0))))))))), c.in_err-b_partial.ensures.1)

pub returns-in_err-_ignored : goal.returns-in_err-_ignored
unfolding fields close_reason_maximum
returns-in_err-_ignored c = (on _ _ c.in_ok-control.ensures.0 (on _ _ c.in_ok-b_open.ensures.0 (on _ _ c.in_ok-b_close.ensures.0 (on _ _ c.in_ok-close_reason.ensures.0 (on _ _ c.in_ok-b_is_replication_paused.ensures.0 (on _ _ c.in_ok-b_reliable.ensures.0 (on _ _ c.in_ok-ch_index.ensures.0 (on _ _ c.in_ok-b_has_package_map_exports.ensures.0 (on _ _ c.in_ok-b_has_must_be_mapped_guids.ensures.0 (on _ _ c.in_ok-b_partial.ensures.0 (ends _ _ _ _ c.from_residual-in_err-_ignored.ensures.1 c.in_err-_ignored.ensures.0)))))))))), c.in_err-_ignored.ensures.1)

pub returns-in_err-b_partial_initial : goal.returns-in_err-b_partial_initial
unfolding fields close_reason_maximum
returns-in_err-b_partial_initial c = (on _ _ c.in_ok-control.ensures.0 (on _ _ c.in_ok-b_open.ensures.0 (on _ _ c.in_ok-b_close.ensures.0 (on _ _ c.in_ok-close_reason.ensures.0 (on _ _ c.in_ok-b_is_replication_paused.ensures.0 (on _ _ c.in_ok-b_reliable.ensures.0 (on _ _ c.in_ok-ch_index.ensures.0 (on _ _ c.in_ok-b_has_package_map_exports.ensures.0 (on _ _ c.in_ok-b_has_must_be_mapped_guids.ensures.0 (on _ _ c.in_ok-b_partial.ensures.0 (on _ _ c.in_ok-_ignored.ensures.0 (ends _ _ _ _ c.from_residual-in_err-b_partial_initial.ensures.1 c.in_err-b_partial_initial.ensures.0))))))))))), c.in_err-b_partial_initial.ensures.1)

pub returns-in_err-b_partial_final : goal.returns-in_err-b_partial_final
unfolding fields close_reason_maximum
returns-in_err-b_partial_final c = (on _ _ c.in_ok-control.ensures.0 (on _ _ c.in_ok-b_open.ensures.0 (on _ _ c.in_ok-b_close.ensures.0 (on _ _ c.in_ok-close_reason.ensures.0 (on _ _ c.in_ok-b_is_replication_paused.ensures.0 (on _ _ c.in_ok-b_reliable.ensures.0 (on _ _ c.in_ok-ch_index.ensures.0 (on _ _ c.in_ok-b_has_package_map_exports.ensures.0 (on _ _ c.in_ok-b_has_must_be_mapped_guids.ensures.0 (on _ _ c.in_ok-b_partial.ensures.0 (on _ _ c.in_ok-_ignored.ensures.0 (on _ _ c.in_ok-b_partial_initial.ensures.0 (ends _ _ _ _ c.from_residual-in_err-b_partial_final.ensures.1 c.in_err-b_partial_final.ensures.0)))))))))))), c.in_err-b_partial_final.ensures.1)

pub returns-in_err-_hardcoded : goal.returns-in_err-_hardcoded
unfolding fields close_reason_maximum
returns-in_err-_hardcoded c = (on _ _ c.in_ok-control.ensures.0 (on _ _ c.in_ok-b_open.ensures.0 (on _ _ c.in_ok-b_close.ensures.0 (on _ _ c.in_ok-close_reason.ensures.0 (on _ _ c.in_ok-b_is_replication_paused.ensures.0 (on _ _ c.in_ok-b_reliable.ensures.0 (on _ _ c.in_ok-ch_index.ensures.0 (on _ _ c.in_ok-b_has_package_map_exports.ensures.0 (on _ _ c.in_ok-b_has_must_be_mapped_guids.ensures.0 (on _ _ c.in_ok-b_partial.ensures.0 (on _ _ c.in_ok-_ignored.ensures.0 (on _ _ c.in_ok-b_partial_initial.ensures.0 (on _ _ c.in_ok-b_partial_final.ensures.0 (ends _ _ _ _ c.from_residual-in_err-_hardcoded.ensures.1 c.in_err-_hardcoded.ensures.0))))))))))))), c.in_err-_hardcoded.ensures.1)

pub returns-in_err-_name : goal.returns-in_err-_name
unfolding fields close_reason_maximum
returns-in_err-_name c = (on _ _ c.in_ok-control.ensures.0 (on _ _ c.in_ok-b_open.ensures.0 (on _ _ c.in_ok-b_close.ensures.0 (on _ _ c.in_ok-close_reason.ensures.0 (on _ _ c.in_ok-b_is_replication_paused.ensures.0 (on _ _ c.in_ok-b_reliable.ensures.0 (on _ _ c.in_ok-ch_index.ensures.0 (on _ _ c.in_ok-b_has_package_map_exports.ensures.0 (on _ _ c.in_ok-b_has_must_be_mapped_guids.ensures.0 (on _ _ c.in_ok-b_partial.ensures.0 (on _ _ c.in_ok-_ignored.ensures.0 (on _ _ c.in_ok-b_partial_initial.ensures.0 (on _ _ c.in_ok-b_partial_final.ensures.0 (on _ _ c.in_ok-_hardcoded.ensures.0 (ends _ _ _ _ c.from_residual-in_err-_name.ensures.1 c.in_err-_name.ensures.0)))))))))))))), c.in_err-_name.ensures.1)

pub returns-in_err-payload_bit_count : goal.returns-in_err-payload_bit_count
unfolding fields close_reason_maximum
returns-in_err-payload_bit_count c = (on _ _ c.in_ok-control.ensures.0 (on _ _ c.in_ok-b_open.ensures.0 (on _ _ c.in_ok-b_close.ensures.0 (on _ _ c.in_ok-close_reason.ensures.0 (on _ _ c.in_ok-b_is_replication_paused.ensures.0 (on _ _ c.in_ok-b_reliable.ensures.0 (on _ _ c.in_ok-ch_index.ensures.0 (on _ _ c.in_ok-b_has_package_map_exports.ensures.0 (on _ _ c.in_ok-b_has_must_be_mapped_guids.ensures.0 (on _ _ c.in_ok-b_partial.ensures.0 (on _ _ c.in_ok-_ignored.ensures.0 (on _ _ c.in_ok-b_partial_initial.ensures.0 (on _ _ c.in_ok-b_partial_final.ensures.0 (on _ _ c.in_ok-_hardcoded.ensures.0 (on _ _ c.in_ok-_name.ensures.0 (ends _ _ _ _ c.from_residual-in_err-payload_bit_count.ensures.1 c.in_err-payload_bit_count.ensures.0))))))))))))))), c.in_err-payload_bit_count.ensures.1)

pub returns : goal.returns
unfolding fields close_reason_maximum give
returns c = (on _ _ c.in_ok-control.ensures.0 (on _ _ c.in_ok-b_open.ensures.0 (on _ _ c.in_ok-b_close.ensures.0 (on _ _ c.in_ok-close_reason.ensures.0 (on _ _ c.in_ok-b_is_replication_paused.ensures.0 (on _ _ c.in_ok-b_reliable.ensures.0 (on _ _ c.in_ok-ch_index.ensures.0 (on _ _ c.in_ok-b_has_package_map_exports.ensures.0 (on _ _ c.in_ok-b_has_must_be_mapped_guids.ensures.0 (on _ _ c.in_ok-b_partial.ensures.0 (on _ _ c.in_ok-_ignored.ensures.0 (on _ _ c.in_ok-b_partial_initial.ensures.0 (on _ _ c.in_ok-b_partial_final.ensures.0 (on _ _ c.in_ok-_hardcoded.ensures.0 (on _ _ c.in_ok-_name.ensures.0 (on _ _ c.in_ok-payload_bit_count.ensures.0 (refl)))))))))))))))), c.in_ok-payload_bit_count.ensures.1)
