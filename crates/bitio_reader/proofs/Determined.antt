-- A promise determines the answer, the reader and the target: any two outcomes that a contract of this crate allows are equal.
use mathlib.Core.Path.{◌≡◌, refl, ap, sym, ◌∙◌}
use Prim.Native.Nat.{ℕ}
use mathlib.Core.List.{List}
use lib.ListN.{length}
use denote.Ref.{Bor}
use Rattle.std.specs.Prelude.{Ok, Err, IfOk, Result as Answered}
use Rattle.bitio_window.specs.declared.Window.{Window}
use Rattle.bitio_window.specs.declared.BitError.{BitError}
use Rattle.bitio_window.specs.Answers.{answer, answer_of, decoded_of}
use Rattle.bitio_window.specs.Parse.{Answer, Parse, Result}
use Rattle.bitio_window.specs.Copies.{copy_bits}
use Rattle.bitio.proofs.Determined.{answer_determined, float_determined, refusal_determined}
use Rattle.bitio_reader.specs.declared.BitReader.{BitReader}
use Rattle.bitio_reader.specs.Readers.{Moved, Copied}
use Rattle.bitio_reader.specs.Openings.{opened_window, HandsOut}

-- a reader is its packet and its window
pub reader_determined : (r s : BitReader) → r.packet ≡ s.packet → r.window ≡ s.window → r ≡ s
reader_determined r s p w = λ i. record { packet = p i; window = w i }

-- a read leaves one answer and one reader
abbrev pub OneRead : {A B : Type 0} → (B → Window → Answer A) → Type 0
OneRead {A} {B} of = (p : Parse A) (before : BitReader) (a b : B) (after other : BitReader) → Moved of p before a after → Moved of p before b other → (a ≡ b) × (after ≡ other)

module _ {A B : Type 0} (of : B → Window → Answer A) (one : (a b : B) (u v : Window) → of a u ≡ of b v → ◌≡◌ {A = B × Window} (a, u) (b, v)) where
  one_read : OneRead of
  one_read p before a b after other m n =
      let e = one a b after.window other.window (m.0 ∙ sym n.0) in
      (ap (λ (x : B × Window). x.0) e, reader_determined after other (m.1 ∙ sym n.1) (ap (λ (x : B × Window). x.1) e))

pub answer_read : {A : Type 0} → OneRead (answer {A = A})
answer_read = one_read answer answer_determined

pub float_read : OneRead (answer_of decoded_of)
float_read = one_read (answer_of decoded_of) float_determined

-- a copy leaves one target besides
pub copy_determined : (n : ℕ) (before : BitReader) (target : List ℕ) (a b : Answered (Unit {0}) BitError) (after other : BitReader) (left right : List ℕ)
    → Copied n before target a after left → Copied n before target b other right → (a ≡ b) × (after ≡ other) × (left ≡ right)
copy_determined n before target a b after other left right c d =
    let e = answer_read (copy_bits (length target) n) before a b after other c.0 d.0 in
    let x = e.0 in
    let y = e.1 in
    (x, y, c.1 ∙ rw (x, y) (sym d.1))

-- opening leaves one reader over the packet, or one refusal
pub open_determined : (m : Result Window) (packet : Bor (List ℕ)) (o u : Answered BitReader BitError) → (opened_window o ≡ m) × IfOk o (λ r. r.packet ≡ packet)
    → (opened_window u ≡ m) × IfOk u (λ r. r.packet ≡ packet) → o ≡ u
open_determined m packet (Ok r) (Ok s) h g = ap Ok (reader_determined r s (h.1 ∙ sym g.1) (cc))
open_determined m packet (Ok r) (Err f) h g = cc
open_determined m packet (Err f) (Ok s) h g = cc
open_determined m packet (Err f) (Err g) h k = ap Err (refusal_determined f g (cc))

pub sub_determined : (p : Parse Window) (before : BitReader) (o u : Answered BitReader BitError) (after other : BitReader) → HandsOut p before o after → HandsOut p before u other → (o ≡ u) × (after ≡ other)
sub_determined p before (Ok r) (Ok s) after other h g =
    let a : r.window ≡ s.window = cc in
    let b : after.window ≡ other.window = cc in
    (ap Ok (reader_determined r s (h.1 ∙ sym g.1) a), reader_determined after other (h.0.1 ∙ sym g.0.1) b)
sub_determined p before (Ok r) (Err f) after other h g = cc
sub_determined p before (Err e) (Ok s) after other h g = cc
sub_determined p before (Err e) (Err f) after other h g =
    let b : after.window ≡ other.window = cc in
    (ap Err (refusal_determined e f (cc)), reader_determined after other (h.0.1 ∙ sym g.0.1) b)
