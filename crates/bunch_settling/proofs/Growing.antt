-- A payload's bits behind whole bytes make a good message.
use Prim.Native.Nat.{ℕ, zero, suc, ◌+◌, ◌/◌, ◌%◌, ◌^◌, ◌≤◌, ◌<◌}
use mathlib.Core.Path.{◌≡◌, ◌∙◌}
use mathlib.Core.Bool.{Bool, false}
use mathlib.Core.List.{List, ◌++◌}
use native.Mathlib.Nat.{mod-lt, div-eq_of_lt, zero-div}
use native.Mathlib.Omega.{arith}
use lib.ListN.{length, get_or, take, length-append}
use lib.Pow.{pow_pos}
use lib.Seq.{length-take-le, get_or-append-add}
use borrow.Author.Tests.{eq-eqb}
use Rattle.bunch_places.specs.Bytes.{bytes_of, low_bits, payload_bytes}
use Rattle.bunch_places.proofs.Payloads.{length_payload}
use Rattle.bunch_judging.specs.Held.{Held, Fragment}
use Rattle.bunch_judging.specs.Messages.{grown}
use Rattle.bunch_held.specs.State.{Good}

low_bits_are : (r y : ℕ) → get_or (low_bits r y) 0 0 / 2 ^ r ≡ 0
low_bits_are zero y = zero-div (2 ^ 0)
low_bits_are (suc r) y = div-eq_of_lt (mod-lt y (pow_pos (suc r)))

behind : (t ys : List ℕ) (n : ℕ) → length t ≡ n → get_or (t ++ ys) n 0 ≡ get_or ys 0 0
behind t ys n e = let f : n ≡ length t + 0 = omega arith in rw f (get_or-append-add t ys 0 0)

spare : (bits : ℕ) (src : List ℕ) → bytes_of bits ≤ length src → get_or (payload_bytes bits src) (bits / 8) 0 / 2 ^ (bits % 8) ≡ 0
unfolding payload_bytes
spare bits src h =
    rw (behind (take (bits / 8) src) (low_bits (bits % 8) (get_or src (bits / 8) 0)) (bits / 8) (length-take-le (bits / 8) src (omega arith)))
    (low_bits_are (bits % 8) (get_or src (bits / 8) 0))

pub good_grown : (finished : Bool) (g : Held) (f : Fragment) → length g.message.header ≡ 20 → g.sequence < 2 ^ 32 → g.message.bits % 8 ≡ 0
    → length g.message.bytes ≡ bytes_of g.message.bits → bytes_of f.bits ≤ length f.payload → (finished ≡ false → f.bits % 8 ≡ 0) → Good (grown finished g f)
good_grown finished g f words sequence whole size enough even =
    let b = g.message.bytes in
    let q = payload_bytes f.bits f.payload in
    let at : (g.message.bits + f.bits) / 8 ≡ length b + f.bits / 8 = omega (arith, whole, size) in
    let rest : (g.message.bits + f.bits) % 8 ≡ f.bits % 8 = omega (arith, whole) in
    record {
      header_words = words;
      sequence_fits = sequence;
      sized = length-append b q ∙ omega (arith, length_payload f.bits f.payload enough, size, whole);
      spare = rw (at, rest, get_or-append-add b q (f.bits / 8) 0) (eq-eqb _ 0 (spare f.bits f.payload enough));
      aligned = λ e. omega (arith, even e, whole);
    }
