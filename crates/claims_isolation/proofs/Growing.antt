-- What a fragment leaves its channel holding is good. The weight lies in the bytes behind a whole number of bytes.
use Prim.Native.Nat.{ℕ, zero, suc, ◌+◌, ◌/◌, ◌%◌, ◌^◌, ◌≤◌, ◌<◌}
use mathlib.Core.Path.{◌≡◌, refl, ◌∙◌}
use mathlib.Core.Bool.{Bool, true, false, cond}
use mathlib.Core.List.{List, [], ◌++◌}
use native.Mathlib.Nat.{zero-div, mod-lt, div-eq_of_lt}
use native.Mathlib.Omega.{arith}
use lib.ListN.{length, get_or, take, length-append, get_or-eq_default}
use lib.Pow.{pow_pos}
use lib.Seq.{length-take-le, get_or-append-add, get_or_at}
use mir.Syntax.{w32}
use mir.ValLaws.{of_z_fits}
use borrow.Author.Tests.{not-true}
use Rattle.std.proofs.Common.{Some}
use Rattle.types.specs.declared.PartialSequenceKind.{PartialSequenceKind}
use Rattle.types.specs.declared.RawBunchHeader.{RawBunchHeader}
use Rattle.tables.specs.Tables.{Found, none, found}
use Rattle.words.specs.Range.{InRange}
use Rattle.bunch_places.specs.Bytes.{bytes_of, payload_bytes}
use Rattle.bunch_places.proofs.Payloads.{whole_bytes, with_rest, length_payload}
use Rattle.bunch_judging.specs.Held.{Held, Fragment}
use Rattle.bunch_judging.specs.Fates.{sequence_word, overlaps, fate}
use Rattle.bunch_judging.specs.Headers.{flagged, erring, after_test}
use Rattle.bunch_judging.specs.Messages.{joined_by, base, grown, joining, held_after}
use Rattle.bunch_judging.proofs.Meeting.{is_unfinished, fate_case}
use Rattle.bunch_held.specs.Sound.{spare_zero}
use Rattle.bunch_held.specs.State.{Good}

-- ## Bytes

spare_payload : (bits : ℕ) (src : List ℕ) → bytes_of bits ≤ length src → spare_zero bits (payload_bytes bits src) ≡ true
spare_payload bits src h = by_rest (bits % 8) refl
  where
    whole : length (take (bits / 8) src) ≡ bits / 8
    whole = length-take-le (bits / 8) src (omega arith)

    by_rest : (n : ℕ) → bits % 8 ≡ n → spare_zero bits (payload_bytes bits src) ≡ true
    by_rest zero e = rw (whole_bytes bits src e, get_or-eq_default (take (bits / 8) src) 0 {n = bits / 8} (omega (arith, whole)), zero-div (2 ^ (bits % 8))) refl
    by_rest (suc n) e =
        let last = get_or src (bits / 8) 0 % 2 ^ (bits % 8) in
        rw (with_rest bits src (omega arith), get_or_at (take (bits / 8) src) last [] 0 (bits / 8) whole, div-eq_of_lt (mod-lt (get_or src (bits / 8) 0) (pow_pos (bits % 8)))) refl

-- a payload behind whole bytes
module _ (bits more : ℕ) (bytes src : List ℕ) (aligned : bits % 8 ≡ 0) (sized : length bytes ≡ bytes_of bits) (enough : bytes_of more ≤ length src) where
  sized_more : length (bytes ++ payload_bytes more src) ≡ bytes_of (bits + more)
  sized_more = length-append bytes (payload_bytes more src) ∙ rw (sized, length_payload more src enough) (omega arith)

  spare_more : spare_zero (bits + more) (bytes ++ payload_bytes more src) ≡ true
  spare_more =
      let d : (bits + more) / 8 ≡ length bytes + more / 8 = omega arith in
      let r : (bits + more) % 8 ≡ more % 8 = omega arith in
      rw (d, r, get_or-append-add bytes (payload_bytes more src) (more / 8) 0) (spare_payload more src enough)

-- ## A message that a fragment can join

record Ready (h : Held) : Type 0 where
  header_words : length h.message.header ≡ 20
  sequence_fits : h.sequence < 2 ^ 32
  sized : length h.message.bytes ≡ bytes_of h.message.bits
  aligned : h.message.bits % 8 ≡ 0

abbrev pub GoodFound : Found Held → Type 0
GoodFound none = Unit {0}
GoodFound (found h) = Good h

grown_good : (finished : Bool) (h : Held) (f : Fragment) → Ready h → bytes_of f.bits ≤ length f.payload → (finished ≡ false → f.bits % 8 ≡ 0) → Good (grown finished h f)
grown_good finished h f r enough whole =
    record {
      header_words = r.header_words;
      sequence_fits = r.sequence_fits;
      sized = sized_more h.message.bits f.bits h.message.bytes f.payload r.aligned r.sized enough;
      spare = spare_more h.message.bits f.bits h.message.bytes f.payload r.aligned r.sized enough;
      aligned = λ e. omega (arith, whole e, r.aligned);
    }

fresh_ready : (h : RawBunchHeader) → sequence_word h < 2 ^ 32 → Ready (base none h)
fresh_ready h w = record { header_words = refl; sequence_fits = w; sized = refl; aligned = refl }

joined_ready : (m : Found Held) (h : RawBunchHeader) → GoodFound m → sequence_word h < 2 ^ 32 → (initial : Bool) → (initial ≡ false → is_unfinished m ≡ true) → Ready (base (joined_by initial m) h)
joined_ready m h g w true joinable = fresh_ready h w
joined_ready none h g w false joinable = fresh_ready h w
joined_ready (found n) h g w false joinable =
    record { header_words = g.header_words; sequence_fits = w; sized = g.sized; aligned = g.aligned (not-true n.finished (joinable refl)) }

-- the sequence test leaves the sequence
same_sequence : (m : Found Held) (h : RawBunchHeader) → sequence_word (after_test m h) ≡ sequence_word h
unfolding after_test flagged
same_sequence m h = go (overlaps m h.b_partial_initial)
  where
    go : (b : Bool) → sequence_word (cond b (erring (Some PartialSequenceKind.OverlappingInitial) h) h) ≡ sequence_word h
    go true = refl
    go false = refl

-- ## What the channel holds afterwards

module _ (full over : Bool) (m : Found Held) (f : Fragment) (in_range : InRange f.header) (enough : bytes_of f.bits ≤ length f.payload) (good : GoodFound m) where
  abbrev Joinable : Type 0
  Joinable = f.header.b_partial_initial ≡ false → is_unfinished m ≡ true

  sequence_small : sequence_word (after_test m f.header) < 2 ^ 32
  sequence_small = rw (same_sequence m f.header) (of_z_fits w32 f.header.ch_sequence in_range.ch_sequence).fits

  joining_good : (finished : Bool) → Joinable → (finished ≡ false → f.bits % 8 ≡ 0) → Good (grown finished (joining m f) f)
  joining_good finished j whole =
      grown_good finished (joining m f) f (joined_ready m (after_test m f.header) good sequence_small f.header.b_partial_initial j) enough whole

  pub good_after : GoodFound (held_after (fate full over m f.header f.bits) m f)
  unfolding held_after
  good_after =
      fate_case (λ x. GoodFound (held_after x m f)) full over m f.header f.bits
      (λ t. good) (λ k. tt) (λ c. tt) (λ j e. joining_good false j (λ z. e)) (λ j. joining_good true j (λ z. cc)) (λ j l w. tt)
