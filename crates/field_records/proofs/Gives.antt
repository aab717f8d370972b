-- What a read's value is sure to be: packed and serialized numbers have 32 bits, and so have a record's handle and its bit count.
use mathlib.Core.Path.{◌≡◌, refl, subst}
use mathlib.Core.Bool.{Bool, true, false, not}
use mathlib.Core.List.{List}
use Prim.Native.Nat.{ℕ, zero, suc, ◌+◌, ◌-◌, ◌*◌, ◌/◌, ◌%◌, ◌^◌, ◌≤◌, ◌<◌, max}
use native.Mathlib.Omega.{arith}
use lib.Dec.{eqb, leb, ltb}
use lib.Pow.{pow_mono}
use borrow.Author.Tests.{ltb-false}
use Rattle.bitio_bits.proofs.Numbers.{bits_lt}
use Rattle.bitio_window.specs.declared.Window.{Window}
use Rattle.bitio_window.specs.declared.Place.{Place}
use Rattle.bitio_window.specs.Refusals.{Refusal, too_large}
use Rattle.bitio_window.specs.Parse.{Answer, got, refused, Parse, and_then, ◌>>=◌, ◌>>◌, give, refuse, refuse_if, read_if}
use Rattle.bitio_window.specs.Reads.{bits_taken, bits}
use Rattle.bitio_window.specs.Numbers.{packed_from, packed, log2, serialized}
use Rattle.bitio_window.proofs.Logs.{log2_most}
use Rattle.bitio_window.proofs.Rows.{not_refused}
use Rattle.field_walking.specs.Records.{Looked, ends, abandons, finds, payload, counted, rep_layout, call, class_net_cache}

pub record Gives {A : Type 0} (P : A → Type 0) (p : Parse A) : Type 0 where
  pub gives : (d : List ℕ) (w : Window) {a : A} {u : Window} → p d w ≡ got a u → P a

same_value : {A : Type 0} {a b : A} {w u : Window} → got a w ≡ got b u → a ≡ b
same_value e = cc

module _ {A B : Type 0} (P : A → Type 0) (Q : B → Type 0) where
  then_gives : (x : Answer A) (k : A → Window → Answer B) {b : B} {u : Window} → ((a : A) (v : Window) → x ≡ got a v → P a) → ((a : A) (v : Window) → P a → k a v ≡ got b u → Q b)
      → and_then x k ≡ got b u → Q b
  then_gives (got a v) k f g e = g a v (f a v refl) e
  then_gives (refused x v) k f g e = absurd (not_refused e)

module _ {A B : Type 0} {P : A → Type 0} {Q : B → Type 0} where
  gives_then : {p : Parse A} {k : A → Parse B} → Gives P p → ((a : A) → P a → Gives Q (k a)) → Gives Q (p >>= k)
  unfolding ◌>>=◌
  gives_then {p = p} {k = k} f g = record { gives = λ d w. then_gives P Q (p d w) (λ a. k a d) (λ a v. f.gives d w) (λ a v h. (g a h).gives d v) }

  gives_next : {p : Parse A} {q : Parse B} → Gives P p → ((a : A) → P a → Gives Q q) → Gives Q (p >> q)
  unfolding ◌>>◌
  gives_next {p = p} {q = q} f g = record { gives = λ d w. then_gives P Q (p d w) (λ a. q d) (λ a v. f.gives d w) (λ a v h. (g a h).gives d v) }

module _ {A : Type 0} {P : A → Type 0} where
  gives_give : (a : A) → P a → Gives P (give a)
  unfolding give
  gives_give a h = record { gives = λ d w e. subst P (same_value e) h }

  gives_if : (t : Bool) (a : A) {p : Parse A} → P a → Gives P p → Gives P (read_if t a p)
  unfolding read_if
  gives_if true a h f = f
  gives_if false a h f = gives_give a h

-- nothing is said of the value
abbrev Any : {A : Type 0} → A → Type 0
Any a = Unit {0}

any : {A : Type 0} {p : Parse A} → Gives Any p
any = record { gives = λ d w e. tt }

gives_test : (t : Bool) (e : Refusal) → Gives (λ (_ : Unit {0}). t ≡ false) (refuse_if t e)
unfolding refuse_if refuse give
gives_test true x = record { gives = λ d w e. absurd (not_refused e) }
gives_test false x = record { gives = λ d w e. refl }

gives_bits : (n : ℕ) → Gives (λ v. v < 2 ^ n) (bits n)
unfolding bits bits_taken
gives_bits n = gives_next any (λ _ _. here)
  where
    here : Gives (λ v. v < 2 ^ n) (bits_taken n)
    here = record { gives = λ d w e. subst (λ (v : ℕ). v < 2 ^ n) (same_value e) (bits_lt d (w.start.0 + w.position.0) n) }

-- four bits of the fifth byte, and seven of each before it
most : ℕ → ℕ
most zero = 16
most (suc n) = 128 * most n

gives_packed_from : (n : ℕ) (start : Place) → Gives (λ v. v < most n) (packed_from n start)
unfolding packed_from most
gives_packed_from zero start =
    gives_then (gives_bits 8) (λ byte h. gives_next any (λ _ _. gives_next (gives_test (ltb 15 (byte / 2)) (too_large start)) (λ _ e. gives_give (byte / 2) (omega (arith, ltb-false 15 (byte / 2) e)))))
gives_packed_from (suc n) start =
    gives_then (gives_bits 8) (λ byte h. gives_then (gives_if (eqb (byte % 2) 1) 0 (positive n) (gives_packed_from n start)) (λ rest g. gives_give (byte / 2 + 128 * rest) (omega (arith, h, g))))
  where
    positive : (m : ℕ) → 0 < most m
    positive zero = omega arith
    positive (suc m) = omega (arith, positive m)

pub gives_packed : Gives (λ v. v < 2 ^ 32) packed
unfolding packed most
gives_packed = gives_then any (λ start _. gives_packed_from 4 start)

pub gives_serialized : (m : ℕ) → Gives (λ v. v < 2 ^ 32) (serialized m)
unfolding serialized
gives_serialized m =
    gives_then (gives_bits (log2 m)) (λ v h. gives_then (gives_if (ltb (v + 2 ^ log2 m) m) 0 (omega arith) (gives_bits 1)) (λ top g. gives_give (v + top * 2 ^ log2 m) (below v top h g)))
  where
    half : 2 ^ log2 m ≤ 2 ^ 31
    half = pow_mono {i = log2 m} {j = 31} (log2_most m)

    below : (v top : ℕ) → v < 2 ^ log2 m → top < 2 → v + top * 2 ^ log2 m < 2 ^ 32
    below v zero h g = omega (arith, h, half)
    below v (suc zero) h g = omega (arith, h, half)
    below v (suc (suc t)) h g = absurd (omega (arith, g))

-- a record that is found has a handle and a bit count of 32 bits
abbrev pub Right : Looked → Type 0
Right ends = Unit {0}
Right abandons = Unit {0}
Right (finds r) = (r.handle < 2 ^ 32) × (r.bit_count < 2 ^ 32)

right_payload : (h n : ℕ) → h < 2 ^ 32 → n < 2 ^ 32 → Gives Right (payload h n)
unfolding payload
right_payload h n f g = record { gives = λ d w e. subst Right (same_value e) (f, g) }

right_counted : (h : ℕ) → h < 2 ^ 32 → Gives Right (counted h)
unfolding counted
right_counted h f = gives_then gives_packed (λ n g. gives_then any (λ left _. gives_if (leb n left) abandons tt (right_payload h n f g)))

pub right_rep_layout : Gives Right rep_layout
unfolding rep_layout
right_rep_layout = gives_then gives_packed (λ code h. gives_if (not (eqb code 0)) ends tt (right_counted (code - 1) (omega (arith, h))))

pub right_class_net_cache : (count : ℕ) → Gives Right (class_net_cache count)
unfolding class_net_cache call
right_class_net_cache count =
    gives_then any (λ left _. gives_if (ltb 0 left) ends tt
    (gives_then (gives_serialized (max count 2)) (λ handle h. gives_then any (λ left' _. gives_if (leb 8 left') abandons tt (right_counted handle h)))))
