-- A log that is written by document 01's sentence is read back as the packets it was written of.
use mathlib.Core.Path.{◌≡◌, refl, ap, sym, ◌∙◌}
use mathlib.Core.List.{List, [], ◌∷◌, ◌++◌, append_assoc}
use Prim.Native.Nat.{ℕ, ◌+◌, ◌*◌, ◌/◌, ◌%◌, ◌<◌}
use native.Mathlib.Nat.{add-zero}
use native.Mathlib.Omega.{arith}
use lib.ListN.{length, take, drop, length-append}
use lib.Seq.{take-length}
use mir.Syntax.{w32}
use mir.Val.{SFits, of_z}
use Rattle.bitio_bits.specs.Floats.{signed}
use Rattle.bitio_bits.proofs.Signed.{signed_word}
use Rattle.std.proofs.Common.{Some, Ok}
use Rattle.packet_log.specs.Log.{version_of, id_at, length_at, Entry, entry_at, Packet, whole, log_on, log_at, log_of}
use Rattle.packet_log.proofs.Entries.{at_end, whole_at}
use Rattle.packet_log.proofs.Steps.{steps}
use Rattle.packet_log.proofs.Parts.{shifted, behind, before, packet_bytes}

-- "a 2-byte length, a 4-byte signed packet id, both big-endian, and the packet"
abbrev pub record_of : Packet → List ℕ
record_of p =
    let n = length p.bytes in
    let w = of_z w32 p.id in
    n / 256 ∷ n % 256 ∷ w / 16777216 ∷ w / 65536 % 256 ∷ w / 256 % 256 ∷ w % 256 ∷ p.bytes

abbrev pub records_of : List Packet → List ℕ
records_of [] = []
records_of (p ∷ ps) = record_of p ++ records_of ps

-- what two and four bytes can hold
pub record Fits (p : Packet) : Type 0 where
  pub short : length p.bytes < 65536
  pub word : SFits w32 p.id

abbrev pub All : List Packet → Type 0
All [] = Unit
All (p ∷ ps) = Fits p × All ps

four_bytes : (w : ℕ) → 16777216 * (w / 16777216) + 65536 * (w / 65536 % 256) + 256 * (w / 256 % 256) + w % 256 ≡ w
four_bytes w = omega arith

one_record : (p : Packet) → Fits p → entry_at (record_of p) 0 ≡ Ok (Some (record { id = p.id; start = 6; length = length p.bytes; next = 6 + length p.bytes }))
one_record p f =
    let l : length_at (record_of p) 0 ≡ length p.bytes = omega arith in
    let i : id_at (record_of p) 0 ≡ p.id = ap signed (four_bytes (of_z w32 p.id)) ∙ signed_word p.id f.word in
    let s : 0 + 6 ≡ 6 = refl in
    let x : 0 + 6 + length_at (record_of p) 0 ≡ 6 + length p.bytes = omega (arith, l) in
    sym (whole_at (record_of p) 0 (λ e. omega arith) (omega (arith, l))) ∙ cc (l, i, s, x)

back : (a : List ℕ) (ps : List Packet) → All ps → log_at (a ++ records_of ps) (length a) ≡ record { packets = ps; ending = whole }
back a [] h =
    let d = a ++ [] in
    let e : length a ≡ length d = omega (arith, length-append a []) in
    steps d (length a) ∙ ap (λ (x : Entry). log_on d x (log_at d)) (sym (at_end d (length a) e))
back a (p ∷ ps) h =
    let q = record_of p in
    let d = a ++ (q ++ records_of ps) in
    let n = length p.bytes in
    let found : entry_at d (length a + 0) ≡ Ok (Some (record { id = p.id; start = length a + 6; length = n; next = length a + (6 + n) })) = behind a (q ++ records_of ps) 0 ∙ ap (shifted (length a)) (before q (records_of ps) 0 (one_record p h.0)) in
    let bytes : take n (drop (length a + 6) d) ≡ p.bytes = packet_bytes a q (records_of ps) 6 n (omega arith) ∙ take-length p.bytes in
    let place : length (a ++ q) ≡ length a + (6 + n) = omega (arith, length-append a q) in
    let rest : log_at d (length a + (6 + n)) ≡ record { packets = ps; ending = whole } = rw (append_assoc a q (records_of ps), place) at (back (a ++ q) ps h.1) in
    steps d (length a) ∙ ap (λ (x : Entry). log_on d x (log_at d)) (rw (add-zero (length a)) at found) ∙ rw (bytes, rest)

pub reads_back : (ps : List Packet) → All ps → log_of (1 ∷ records_of ps) ≡ record { packets = ps; ending = whole }
unfolding version_of
reads_back ps h = back (1 ∷ []) ps h
