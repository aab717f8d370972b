-- The header's reads as fields of one peeked word. What the contracts of `inner` name; a reader of the public calls can pass
-- over it.
use Rattle.std.specs.Prelude.{ℕ, ◌+◌, ◌-◌, ◌/◌, ◌%◌, ◌^◌, ◌≤◌, ◌≡◌, List}
use Rattle.bitio_window.specs.declared.Window.{Window}
use Rattle.bitio_bits.specs.Bits.{bits_at}
use Rattle.bitio_window.specs.Places.{packet_bit}
use Rattle.bitio_window.specs.Parse.{got, Parse, advanced}
use Rattle.packet_header.specs.declared.inner.quick.Rest.{Rest}

-- what is left of a word whose low 57 bits were those at the window's place
pub record Ahead (d : List ℕ) (w : Window) (q : Rest) : Type 0 where
  pub field : (j n : ℕ) → q.used + j + n ≤ 57 → q.word / 2 ^ j % 2 ^ n ≡ bits_at d (packet_bit (advanced w (q.used + j))).0 n

-- the bits used are the word's, and the window's
pub record Within (w : Window) (used : ℕ) : Type 0 where
  pub in_word : used ≤ 57
  pub in_window : used ≤ w.length - w.position.0

-- a value taken from the word is the parse's, if the bits used with it were there
pub record Reads {A : Type 0} (p : Parse A) (q : Rest) (value : A) (next : Rest) : Type 0 where
  pub grows : q.used ≤ next.used
  pub ahead : (d : List ℕ) (w : Window) → Ahead d w q → Ahead d w next
  pub same :
      (d : List ℕ) (w : Window) → Ahead d w q → Within w next.used → p d (advanced w q.used) ≡ got value (advanced w next.used)

-- the word without its n lowest bits
abbrev pub shifted : Rest → ℕ → Rest
shifted q n = record { word = q.word / 2 ^ n; used = q.used + n }
