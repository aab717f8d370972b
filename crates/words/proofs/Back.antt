-- A header comes back from its words. The weight lies in the signed fields.
use mathlib.Core.Path.{◌≡◌, refl, ap, ◌∙◌}
use mathlib.Core.Bool.{Bool, true, false, not}
use Prim.Native.Nat.{◌%◌, ◌^◌}
use native.Mathlib.Omega.{arith}
use lib.Dec.{eqb}
use Rattle.std.specs.Prelude.{Option, Some, None}
use lib.IntN.{ℤ}
use mir.Syntax.{w32}
use mir.Val.{SFits, of_z, bool_byte}
use mir.ValLaws.{of_z_fits}
use Rattle.bitio_bits.specs.Floats.{signed}
use Rattle.bitio_bits.proofs.Signed.{signed_word}
use Rattle.types.specs.declared.PartialSequenceKind.{PartialSequenceKind}
use Rattle.types.specs.declared.RawBunchHeader.{RawBunchHeader}
use Rattle.types.proofs.Reasons.{reason_back}
use Rattle.words.specs.Range.{InRange}
use Rattle.words.specs.Words.{kind_word, header_words, kind_of, header_from}

signed_back : (z : ℤ) → SFits w32 z → signed (of_z w32 z % 2 ^ 32) ≡ z
signed_back z f =
    let e : of_z w32 z % 2 ^ 32 ≡ of_z w32 z = omega (arith, (of_z_fits w32 z f).fits) in
    ap signed e ∙ signed_word z f

kind_back : (k : Option PartialSequenceKind) → kind_of (kind_word k) ≡ k
unfolding kind_of
kind_back None = refl
kind_back (Some PartialSequenceKind.MissingInitial) = refl
kind_back (Some PartialSequenceKind.OverlappingInitial) = refl
kind_back (Some PartialSequenceKind.MismatchedContinuation) = refl
kind_back (Some PartialSequenceKind.NonByteAlignedFragment) = refl

flag_back : (b : Bool) → not (eqb (bool_byte b) 0) ≡ b
flag_back true = refl
flag_back false = refl

pub back : (h : RawBunchHeader) → InRange h → header_from (header_words h) ≡ h
unfolding header_from
back h f =
    let channel : h.ch_index % 2 ^ 32 ≡ h.ch_index = omega arith in
    let bits : h.payload_bit_count % 2 ^ 32 ≡ h.payload_bit_count = omega arith in
    simp (signed_back h.packet_id f.packet_id, signed_back h.ch_sequence f.ch_sequence, channel, bits, reason_back, kind_back, flag_back)
