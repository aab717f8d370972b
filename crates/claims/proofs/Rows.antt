-- The writer's calls in a row put all their bits in a row: by induction, each call on what the one before left.
use Prim.Native.Nat.{ℕ, ◌+◌, ◌*◌, ◌/◌, ◌≤◌}
use mathlib.Core.Path.{◌≡◌, refl, sym, ap, ap₂, ◌∙◌}
use mathlib.Core.Bool.{Bool, true}
use mathlib.Core.List.{List, [], ◌∷◌, ◌++◌, append_assoc}
use native.Mathlib.Nat.{add-zero}
use native.Mathlib.Omega.{arith}
use lib.ListN.{length, length-append}
use Rattle.bitio_window.specs.Parse.{Result, value, refusal}
use Rattle.writer_spelling.specs.Bits.{put_bits}
use Rattle.writer_spelling.specs.Header.{bunch_bits, writable}
use Rattle.writer.specs.Answers.{WriteReply, room_of, write_bunch}
use Rattle.writer_spelling.proofs.Lists.{put_append}
use Rattle.writer_spelling.proofs.Lists.{length_put}
use Rattle.writer.proofs.Accepted.{wrote, accepted, closed}
use Rattle.claims.specs.RoundTrip.{WriterInput, then_writes, writes}

abbrev pub bits_of_one : WriterInput → List Bool
bits_of_one b = bunch_bits b.header b.payload b.count

abbrev pub bits_of_all : List WriterInput → List Bool
bits_of_all [] = []
bits_of_all (b ∷ bs) = bits_of_one b ++ bits_of_all bs

-- what the writer has tested of each bunch
pub record Tested (b : WriterInput) : Type 0 where
  pub allowed : writable b.header ≡ true
  pub few : b.count ≤ 16383

abbrev pub AllTested : List WriterInput → Type 0
AllTested [] = Unit
AllTested (b ∷ bs) = Tested b × AllTested bs

pub record Row (bs : List WriterInput) (p : List ℕ) (at : ℕ) : Type 0 where
  pub tested : AllTested bs
  pub room : at + length (bits_of_all bs) + 1 ≤ room_of p
  pub written : writes bs p at ≡ wrote (bits_of_all bs ++ (true ∷ [])) p at (8 * ((at + length (bits_of_all bs)) / 8 + 1))

-- a row that is not refused has gone on
went_on : (x : Result ℕ) (q : List ℕ) (next : List ℕ → ℕ → WriteReply) {n : ℕ} → (then_writes x q next).answer ≡ value n → (to : ℕ) × (x ≡ value to)
went_on (value to) q next h = (to, refl)
went_on (refusal e) q next {n} h = (n, h)

pub row : (bs : List WriterInput) (p : List ℕ) (at : ℕ) {n : ℕ} → (writes bs p at).answer ≡ value n → Row bs p at
unfolding writes
row [] p at h =
    let c = closed p at h in
    record { tested = tt; room = rw add-zero c.room; written = rw add-zero c.written }
row (b ∷ bs) p at h =
    let r = write_bunch b.header b.payload b.count p at in
    let a = accepted b.header b.payload b.count p at (went_on r.answer r.packet (writes bs) h).1 in
    let xs = bits_of_one b in
    let ys = bits_of_all bs in
    let step : writes (b ∷ bs) p at ≡ writes bs (put_bits p at xs) (at + length xs) = ap (λ (y : WriteReply). then_writes y.answer y.packet (writes bs)) a.written in
    let rest = row bs (put_bits p at xs) (at + length xs) (ap (λ (y : WriteReply). y.answer) (sym step) ∙ h) in
    let all : at + length xs + length ys ≡ at + length (xs ++ ys) = omega (arith, length-append xs ys) in
    let in_a_row : put_bits (put_bits p at xs) (at + length xs) (ys ++ (true ∷ [])) ≡ put_bits p at ((xs ++ ys) ++ (true ∷ [])) =
    sym (put_append p at xs (ys ++ (true ∷ []))) ∙ ap (put_bits p at) (sym (append_assoc xs ys (true ∷ []))) in
    record {
      tested = (record { allowed = a.allowed; few = a.few }, rest.tested);
      room = rw (length_put p at xs, all) at rest.room;
      written = step ∙ rest.written ∙ ap₂ (λ (n : ℕ) (q : List ℕ). record { answer = value (8 * (n / 8 + 1)); packet = q }) all in_a_row;
    }
