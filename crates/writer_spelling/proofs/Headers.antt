-- A header is read back from its bits: sixteen reads in a row, each of what was written for it.
use Prim.Native.Nat.{◌^◌, ◌<◌}
use mathlib.Core.Path.{◌≡◌, refl}
use mathlib.Core.Bool.{Bool, true, false, ◌||◌}
use mathlib.Core.List.{append_assoc}
use native.Mathlib.Omega.{arith}
use Rattle.types.specs.Types.{close_reason_maximum, payload_maximum}
use Rattle.types.proofs.Reasons.{maximum_most}
use Rattle.packet_header.specs.declared.BunchFields.{BunchFields}
use Rattle.packet_header.specs.Header.{fields}
use Rattle.writer_spelling.specs.Header.{control, named, front_bits, back_bits, header_bits}
use Rattle.writer_spelling.proofs.Reading.{Reads, reads_nothing, reads_if, reads_then, reads_last}
use Rattle.writer_spelling.proofs.Numbers.{reads_bit, reads_packed, reads_serialized}

-- fields that a header's bits can say: each number in its range, and nothing without the flag before it
pub record Sayable (f : BunchFields) : Type 0 where
  pub channel_fits : f.ch_index < 2 ^ 32
  pub reason_fits : f.close_reason < close_reason_maximum
  pub count_fits : f.payload_bit_count < payload_maximum
  pub reason_with_close : f.b_close ≡ false → f.close_reason ≡ 0
  pub initial_with_partial : f.b_partial ≡ false → f.b_partial_initial ≡ false
  pub final_with_partial : f.b_partial ≡ false → f.b_partial_final ≡ false

neither : (a b : Bool) → a || b ≡ false → (a ≡ false) × (b ≡ false)
neither false b h = (refl, h)
neither true b h = (h, cc)

pub reads_header : (f : BunchFields) → Sayable f → Reads fields (header_bits f) f
unfolding fields header_bits front_bits back_bits
reads_header f s =
    let opens = f.b_open in
    let closes = f.b_close in
    simp append_assoc
    (reads_then _ (reads_bit (control f))
    (reads_then _ (reads_if (control f) false (λ t. reads_bit opens) (λ t. (neither opens closes t).0))
    (reads_then _ (reads_if (control f) false (λ t. reads_bit closes) (λ t. (neither opens closes t).1))
    (reads_then _ (reads_if closes 0 (λ t. reads_serialized close_reason_maximum f.close_reason s.reason_fits (omega (arith, maximum_most))) s.reason_with_close)
    (reads_then _ (reads_bit f.b_is_replication_paused)
    (reads_then _ (reads_bit f.b_reliable)
    (reads_then _ (reads_packed f.ch_index s.channel_fits)
    (reads_then _ (reads_bit f.b_has_package_map_exports)
    (reads_then _ (reads_bit f.b_has_must_be_mapped_guids)
    (reads_then _ (reads_bit f.b_partial)
    (reads_then _ (reads_bit false)
    (reads_then _ (reads_if f.b_partial false (λ t. reads_bit f.b_partial_initial) s.initial_with_partial)
    (reads_then _ (reads_if f.b_partial false (λ t. reads_bit f.b_partial_final) s.final_with_partial)
    (reads_then _ (reads_if (named f) false (λ t. reads_bit false) (λ t. refl))
    (reads_then _ (reads_if (named f) 0 (λ t. reads_packed 0 (omega arith)) (λ t. refl))
    (reads_last _ (reads_serialized payload_maximum f.payload_bit_count s.count_fits (omega arith)) (reads_nothing f)))))))))))))))))
