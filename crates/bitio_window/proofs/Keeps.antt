-- A read stays in its window: it changes neither start nor length, and goes on or stays where it is. And what it reads at least.
use mathlib.Core.Path.{◌≡◌, refl, sym, ◌∙◌}
use mathlib.Core.Bool.{Bool, true, false}
use mathlib.Core.List.{List}
use Prim.Native.Nat.{ℕ, ◌+◌, ◌-◌, ◌≤◌}
use native.Mathlib.Decide.{dec_le}
use native.Mathlib.Omega.{arith}
use Rattle.bitio_window.specs.declared.Window.{Window}
use Rattle.bitio_bits.specs.Bits.{bits_at}
use Rattle.bitio_window.specs.Refusals.{Refusal}
use Rattle.bitio_window.specs.Parse.{Answer, got, refused, Parse, and_then, ◌>>=◌, ◌>>◌, give, refuse, refuse_if, read_if, advanced}
use Rattle.bitio_window.specs.Reads.{bits}
use Rattle.bitio_window.specs.Sound.{Sound}
use Rattle.bitio_window.proofs.Rows.{not_refused, then_got, then_refused}
use Rattle.bitio_window.proofs.Steps.{bits_short, bits_there}

pub record Stays (w u : Window) : Type 0 where
  pub start : u.start.0 ≡ w.start.0
  pub length : u.length ≡ w.length
  pub on : w.position.0 ≤ u.position.0
  pub within : w.position.0 ≤ w.length → u.position.0 ≤ u.length

pub stays : (w : Window) → Stays w w
stays w = record { start = refl; length = refl; on = omega arith; within = λ h. h }

pub stays_on : {w u v : Window} → Stays w u → Stays u v → Stays w v
stays_on a b =
    record {
      start = b.start ∙ a.start;
      length = b.length ∙ a.length;
      on = omega (arith, a.on, b.on);
      within = λ h. b.within (a.within h);
    }

pub sound_stays : {d : List ℕ} {w u : Window} → Sound d w → Stays w u → Sound d u
sound_stays s a =
    record {
      data_within = s.data_within;
      window_within = rw (a.start, a.length) s.window_within;
      cursor_within = a.within s.cursor_within;
    }

-- where an answer leaves the reader
abbrev pub left : {A : Type 0} → Answer A → Window
left (got a u) = u
left (refused e u) = u

pub record Keeps {A : Type 0} (p : Parse A) : Type 0 where
  pub keeps : (d : List ℕ) (w : Window) → Stays w (left (p d w))

module _ {A B : Type 0} where
  then_left : (x : Answer A) (k : A → Window → Answer B) {w : Window} → Stays w (left x) → ((a : A) (u : Window) → Stays u (left (k a u))) → Stays w (left (and_then x k))
  then_left (got a u) k s f = stays_on s (f a u)
  then_left (refused e u) k s f = s

  pub keeps_then : {p : Parse A} {k : A → Parse B} → Keeps p → ((a : A) → Keeps (k a)) → Keeps (p >>= k)
  unfolding ◌>>=◌
  keeps_then {p = p} {k = k} f g = record { keeps = λ d w. then_left (p d w) (λ a. k a d) (f.keeps d w) (λ a u. (g a).keeps d u) }

  pub keeps_next : {p : Parse A} {q : Parse B} → Keeps p → Keeps q → Keeps (p >> q)
  unfolding ◌>>◌
  keeps_next {p = p} {q = q} f g = record { keeps = λ d w. then_left (p d w) (λ a. q d) (f.keeps d w) (λ a u. g.keeps d u) }

module _ {A : Type 0} where
  pub keeps_give : (a : A) → Keeps (give a)
  unfolding give
  keeps_give a = record { keeps = λ d w. stays w }

  pub keeps_if : (t : Bool) (a : A) {p : Parse A} → Keeps p → Keeps (read_if t a p)
  unfolding read_if
  keeps_if true a f = f
  keeps_if false a f = keeps_give a

pub keeps_refuse : (t : Bool) (e : Refusal) → Keeps (refuse_if t e)
unfolding refuse_if refuse
keeps_refuse true e = record { keeps = λ d w. stays w }
keeps_refuse false e = keeps_give tt

pub past : (w : Window) (n : ℕ) → n ≤ w.length - w.position.0 → Stays w (advanced w n)
past w n h = record { start = refl; length = refl; on = omega arith; within = λ f. omega arith }

pub keeps_bits : (n : ℕ) → Keeps (bits n)
keeps_bits n = record { keeps = λ d w. go d w (dec_le n (w.length - w.position.0)) }
  where
    go : (d : List ℕ) (w : Window) → Dec (n ≤ w.length - w.position.0) → Stays w (left (bits n d w))
    go d w (yes h) = rw (bits_there d w n h) (past w n h)
    go d w (no h) = rw (bits_short d w n (omega arith)) (stays w)

-- a row that begins with n bits has read at least these where it gives a value
pub reads_first : {A : Type 0} (n : ℕ) {k : ℕ → Parse A} → ((b : ℕ) → Keeps (k b)) → (d : List ℕ) (w : Window) {a : A} {u : Window} → (bits n >>= k) d w ≡ got a u
    → w.position.0 + n ≤ u.position.0
reads_first n {k} f d w {a} {u} e = go (dec_le n (w.length - w.position.0))
  where
    go : Dec (n ≤ w.length - w.position.0) → w.position.0 + n ≤ u.position.0
    go (yes h) =
        let b : ℕ = bits_at d (w.start.0 + w.position.0) n in
        let s : Stays (advanced w n) (left (k b d (advanced w n))) = (f b).keeps d (advanced w n) in
        let g : k b d (advanced w n) ≡ got a u = sym (then_got d w (bits n) k (bits_there d w n h)) ∙ e in
        (rw g at s).on
    go (no h) = absurd (not_refused (sym (then_refused d w (bits n) k (bits_short d w n (omega arith))) ∙ e))
