-- A word's bits, put one after the other, are its bytes stored from the cursor's byte on.
use mathlib.Core.Path.{◌≡◌, refl, ap, ap₂, sym, ◌∙◌}
use mathlib.Core.List.{List}
use Prim.Native.Nat.{ℕ, zero, suc, ◌+◌, ◌*◌, ◌-◌, ◌/◌, ◌%◌, ◌^◌, ◌≤◌, ◌<◌}
use native.Mathlib.Nat.{zero-add, add-mul, suc-mul, mul_comm, mul_assoc, mul-le-mul_right, mod-lt, mod-eq_of_lt, pow-succ', not-suc-le-zero, lt_of_lt_of_le}
use native.Mathlib.Numerals.{add-one}
use native.Mathlib.Decide.{dec_le}
use native.Mathlib.Omega.{arith}
use lib.Dec.{eqb}
use lib.ListN.{length, get_or, set, length-set}
use lib.Pow.{pow_pos, pow-add, pow_mono, shl_exact}
use lib.Seq.{set-set, get_or-set_same}
use mir.Val.{bool_byte}
use Rattle.bitio_bits.specs.Bits.{bits_at}
use Rattle.bitio_bits.specs.Words.{Peeked, stored}
use Rattle.bitio_bits.proofs.Loads.{peeked_low}
use Rattle.bitio_bits.proofs.Numbers.{bits_lt, bits_front}
use Rattle.writer_spelling.specs.Bits.{number_bits, bits_from, put_bit, put_bits}
use Rattle.writer_spelling.proofs.Lists.{length_bits_from, from_append, of_at, put_append}

bit : (y : ℕ) → y < 2 → bool_byte (eqb y 1) ≡ y
bit zero h = refl
bit (suc zero) h = refl
bit (suc (suc y)) h = absurd (omega arith)

-- the word: the byte's r bits before the cursor, and x above them
abbrev word : List ℕ → ℕ → ℕ → ℕ → ℕ
word p i r x = get_or p i 0 % 2 ^ r + x * 2 ^ r

word_lt : (p : List ℕ) (i r x n : ℕ) → x < 2 ^ n → word p i r x < 2 ^ (r + n)
word_lt p i r x n f =
    omega (arith, mod-lt (get_or p i 0) (pow_pos r), mul-le-mul_right (2 ^ r) f, suc-mul x (2 ^ r), pow-add 2 r n, mul_comm (2 ^ r) (2 ^ n))

-- the lowest bit, and the others, in their places
joined : (b x r : ℕ) → b + x % 2 * 2 ^ r + x / 2 * 2 ^ suc r ≡ b + x * 2 ^ r
joined b x r =
    let e : x / 2 * 2 ^ suc r ≡ x / 2 * 2 * 2 ^ r = ap (λ (q : ℕ). x / 2 * q) (pow-succ' 2 r) ∙ sym (mul_assoc (x / 2) 2 (2 ^ r)) in
    let f : x / 2 * 2 + x % 2 ≡ x = omega arith in
    omega (arith, add-mul (x / 2 * 2) (x % 2) (2 ^ r), ap (λ (y : ℕ). y * 2 ^ r) f)

-- a bit y at bit r of byte i
put_bit_is : (p : List ℕ) (i r y : ℕ) → r < 8 → y < 2 → put_bit p (8 * i + r) (eqb y 1) ≡ set p i (word p i r y)
unfolding put_bit
put_bit_is p i r y h f =
    let place : (8 * i + r) / 8 ≡ i = omega arith in
    let off : (8 * i + r) % 8 ≡ r = omega arith in
    ap₂ (λ (j s : ℕ). set p j (get_or p j 0 % 2 ^ s + bool_byte (eqb y 1) * 2 ^ s)) place off
    ∙ ap (λ (z : ℕ). set p i (word p i r z)) (bit y f)

put_first : (p : List ℕ) (i r n x : ℕ) → r < 8
    → put_bits p (8 * i + r) (number_bits (suc n) x) ≡ put_bits (set p i (word p i r (x % 2))) (8 * i + r + 1) (number_bits n (x / 2))
unfolding put_bits number_bits
put_first p i r n x h = ap (λ (q : List ℕ). put_bits q (8 * i + r + 1) (number_bits n (x / 2))) (put_bit_is p i r (x % 2) h (omega arith))

-- what stands in the first byte is written over
over : (p : List ℕ) (i v w m : ℕ) → 0 < m → stored (set p i v) i w m ≡ stored p i w m
unfolding stored
over p i v w zero h = absurd (not-suc-le-zero h)
over p i v w (suc m) h = rw set-set

-- n bits of x at bit r of byte i
abbrev Stored : ℕ → Type 0
Stored n =
    (p : List ℕ) (i r x : ℕ) → r < 8 → x < 2 ^ n → 8 * i + r + n ≤ 8 * length p
    → put_bits p (8 * i + r) (number_bits n x) ≡ stored p i (word p i r x) ((r + n + 7) / 8)

one_stored : Stored 1
unfolding put_bits number_bits stored
one_stored p i r x h f g =
    let m : (r + 1 + 7) / 8 ≡ 1 = omega arith in
    let one : x % 2 ≡ x = omega arith in
    let small : word p i r x < 256 = lt_of_lt_of_le (word_lt p i r x 1 f) (pow_mono {j = 8} (omega arith)) in
    put_first p i r 0 x h ∙ ap (set p i) (ap (word p i r) one ∙ sym (mod-eq_of_lt small)) ∙ ap (stored p i (word p i r x)) (sym m)

-- one bit more, after which the cursor is in the same byte or at the next
module _ (n : ℕ) (rest : Stored n) (p : List ℕ) (i r x : ℕ) (f : x < 2 ^ suc n) (g : 8 * i + r + suc n ≤ 8 * length p) (s : 0 < n) where
  abbrev v : ℕ
  v = word p i r (x % 2)

  half : x / 2 < 2 ^ n
  half = omega (arith, pow-succ' 2 n)

  abbrev Onward : Type 0
  Onward = put_bits (set p i v) (8 * i + r + 1) (number_bits n (x / 2)) ≡ stored p i (word p i r x) ((r + suc n + 7) / 8)

  same_byte : r ≤ 6 → Onward
  same_byte h =
      let k : 8 * i + r + 1 ≡ 8 * i + suc r = omega arith in
      let m : suc r + n + 7 ≡ r + suc n + 7 = omega arith in
      let there : get_or (set p i v) i 0 ≡ v = get_or-set_same p i v 0 (omega arith) in
      let small : v < 2 ^ suc r = rw add-one at (word_lt p i r (x % 2) 1 (omega arith)) in
      let same : word (set p i v) i (suc r) (x / 2) ≡ word p i r x =
      ap (λ (b : ℕ). b % 2 ^ suc r + x / 2 * 2 ^ suc r) there
      ∙ ap (λ (b : ℕ). b + x / 2 * 2 ^ suc r) (mod-eq_of_lt small) ∙ joined (get_or p i 0 % 2 ^ r) x r in
      ap (λ (j : ℕ). put_bits (set p i v) j (number_bits n (x / 2))) k
      ∙ rest (set p i v) i (suc r) (x / 2) (omega arith) half (rw (length-set p i v) (omega arith))
      ∙ ap₂ (λ (w t : ℕ). stored (set p i v) i w (t / 8)) same m
      ∙ over p i v (word p i r x) ((r + suc n + 7) / 8) (omega arith)

  next_byte : r ≡ 7 → Onward
  unfolding stored
  next_byte h =
      let k : 8 * i + r + 1 ≡ 8 * (i + 1) + 0 = omega arith in
      let m : (r + suc n + 7) / 8 ≡ suc ((0 + n + 7) / 8) = omega arith in
      let byte : v ≡ word p i r x % 256 = rw h (omega arith) in
      let above : word (set p i v) (i + 1) 0 (x / 2) ≡ word p i r x / 256 = rw h (omega arith) in
      ap (λ (j : ℕ). put_bits (set p i v) j (number_bits n (x / 2))) k
      ∙ rest (set p i v) (i + 1) 0 (x / 2) (omega arith) half (rw (length-set p i v) (omega arith))
      ∙ ap (λ (w : ℕ). stored (set p i v) (i + 1) w ((0 + n + 7) / 8)) above
      ∙ ap (λ (b : ℕ). stored (set p i b) (i + 1) (word p i r x / 256) ((0 + n + 7) / 8)) byte
      ∙ ap (stored p i (word p i r x)) (sym m)

  onward : Dec (r ≤ 6) → r < 8 → Onward
  onward (yes h) l = same_byte h
  onward (no h) l = next_byte (omega arith)

bits_stored : (n : ℕ) → Stored (suc n)
bits_stored zero p i r x h f g = one_stored p i r x h f g
bits_stored (suc n) p i r x h f g = put_first p i r (suc n) x h ∙ onward (suc n) (bits_stored n) p i r x f g (omega arith) (dec_le r 6) h

put_stored : (p : List ℕ) (k n x : ℕ) → 0 < n → x < 2 ^ n → k + n ≤ 8 * length p
    → put_bits p k (number_bits n x) ≡ stored p (k / 8) (word p (k / 8) (k % 8) x) ((k % 8 + n + 7) / 8)
put_stored p k zero x h f g = absurd (not-suc-le-zero h)
put_stored p k (suc n) x h f g =
    let e : k ≡ 8 * (k / 8) + k % 8 = omega arith in
    ap (λ (j : ℕ). put_bits p j (number_bits (suc n) x)) e ∙ bits_stored n p (k / 8) (k % 8) x (omega arith) f (omega arith)

-- as the code has it: b is what stands before the cursor, and the word is shifted within 64 bits
module _ (p : List ℕ) (k n x : ℕ) (f : x < 2 ^ n) (s : k % 8 + n ≤ 64) {b : ℕ} (e : b ≡ get_or p (k / 8) 0 % 2 ^ (k % 8)) where
  same_word : b + x * 2 ^ (k % 8) % 2 ^ 64 ≡ word p (k / 8) (k % 8) x
  same_word = ap₂ (λ (y z : ℕ). y + z) e (shl_exact n (k % 8) 64 f (omega arith))

  pub word_fits : b + x * 2 ^ (k % 8) % 2 ^ 64 < 2 ^ 64
  word_fits = rw same_word (lt_of_lt_of_le (word_lt p (k / 8) (k % 8) x n f) (pow_mono {j = 64} s))

  pub pushed : 0 < n → k + n ≤ 8 * length p → stored p (k / 8) (b + x * 2 ^ (k % 8) % 2 ^ 64) ((k % 8 + n + 7) / 8) ≡ put_bits p k (number_bits n x)
  pushed h g = ap (λ (w : ℕ). stored p (k / 8) w ((k % 8 + n + 7) / 8)) same_word ∙ sym (put_stored p k n x h f g)

-- eight whole bytes of a payload, at a byte's start
pub word_pushed : (p d : List ℕ) (k j : ℕ) {x : ℕ} → x ≡ bits_at d j 64 → k % 8 ≡ 0 → k + 64 ≤ 8 * length p → stored p (k / 8) x 8 ≡ put_bits p k (bits_from d j 64)
word_pushed p d k j {x} b e g =
    let w : word p (k / 8) (k % 8) x ≡ x = rw e (omega arith) in
    let m : (k % 8 + 64 + 7) / 8 ≡ 8 = omega arith in
    sym (put_stored p k 64 x (omega arith) (rw b (bits_lt d j 64)) g ∙ ap₂ (stored p (k / 8)) w m) ∙ ap (put_bits p k) (ap (number_bits 64) b ∙ of_at d j 64)

-- the lowest bits of a peeked word
pub peeked_bits : (d : List ℕ) (k n : ℕ) {x y : ℕ} → Peeked d k x → n ≤ 57 → y ≡ x % 2 ^ n → number_bits n y ≡ bits_from d k n
peeked_bits d k n h s e = ap (number_bits n) (e ∙ peeked_low d k n h s) ∙ of_at d k n

-- and of eight bytes' worth
pub word_bits : (d : List ℕ) (k n : ℕ) {x y : ℕ} → x ≡ bits_at d k 64 → n ≤ 64 → y ≡ x % 2 ^ n → number_bits n y ≡ bits_from d k n
word_bits d k n b s e =
    let m : 64 ≡ n + (64 - n) = omega arith in
    ap (number_bits n) (e ∙ ap (λ (x : ℕ). x % 2 ^ n) (b ∙ ap (bits_at d k) m) ∙ bits_front d k n (64 - n)) ∙ of_at d k n

-- q has a payload's first m bits, and t n more
pub put_more : (p d : List ℕ) (k m n : ℕ) {q t : List ℕ} → q ≡ put_bits p k (bits_from d 0 m) → t ≡ put_bits q (k + m) (bits_from d m n) → t ≡ put_bits p k (bits_from d 0 (m + n))
put_more p d k m n {q} e f =
    f ∙ sym (ap (put_bits p k) (from_append d 0 m n) ∙ put_append p k (bits_from d 0 m) (bits_from d (0 + m) n)
    ∙ ap (λ (t : List ℕ). put_bits t (k + length (bits_from d 0 m)) (bits_from d (0 + m) n)) (sym e)
    ∙ ap₂ (λ (i j : ℕ). put_bits q (k + i) (bits_from d j n)) (length_bits_from d 0 m) (zero-add m))
