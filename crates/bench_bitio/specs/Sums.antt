-- What many public calls in a row come to, up to the first refusal.
use Rattle.std.specs.Prelude.{ℕ, zero, suc, ◌+◌, ◌%◌, ◌^◌, List, length, slice_index}
use mir.Val.{bool_byte}
use Rattle.bitio_window.specs.declared.Window.{Window}
use Rattle.bitio_window.specs.Places.{packet_bit}
use Rattle.bitio_window.specs.Parse.{Answer, got, refused, Parse, ◌>>=◌, ◌>>◌, give}
use Rattle.bitio_window.specs.Reads.{read_bit, read_bits}
use Rattle.bitio_window.specs.Numbers.{read_packed, read_serialized}
use Rattle.bitio_window.specs.Copies.{copied, copy_bits}

-- what a call makes of the state goes on; a refusal leaves the state as it was before the call, and ends the row
abbrev pub or_else : {S : Type 0} → Answer S → S → (S → Window → S) → S
or_else (got t u) s on = on t u
or_else (refused e u) s on = s

-- n calls from number k on
unfoldable pub calls : {S : Type 0} → (ℕ → S → Parse S) → ℕ → ℕ → List ℕ → S → Window → S
calls call zero k d s w = s
calls call (suc n) k d s w = or_else (call k s d w) s (calls call n (k + 1) d)

-- the sum so far, and one number more
unfoldable pub plus : {A : Type 0} → (A → ℕ) → Parse A → ℕ → Parse ℕ
plus number read sum = do
  v ← read
  give ((sum + number v) % 2 ^ 64)

abbrev pub bit_sum : ℕ → List ℕ → Window → ℕ
bit_sum n d = calls (λ k. plus bool_byte read_bit) n 0 d 0

abbrev pub bits_sum : List ℕ → List ℕ → Window → ℕ
bits_sum widths d = calls (λ k. plus (λ v. v) (read_bits (slice_index widths k))) (length widths) 0 d 0

abbrev pub packed_sum : ℕ → List ℕ → Window → ℕ
packed_sum n d = calls (λ k. plus (λ v. v) read_packed) n 0 d 0

abbrev pub serialized_sum : List ℕ → List ℕ → Window → ℕ
serialized_sum maxima d = calls (λ k. plus (λ v. v) (read_serialized (slice_index maxima k))) (length maxima) 0 d 0

-- how many copies were made, and what the target holds
pub record Made : Type 0 where
  pub number : ℕ
  pub target : List ℕ

-- each copy goes to the target's front
unfoldable pub one_more : Made → List ℕ → ℕ → ℕ → Made
one_more made d k n = record { number = made.number + 1; target = copied made.target d k n }

unfoldable pub copy_over : ℕ → Made → Parse Made
copy_over n made d w = (copy_bits (length made.target) n >> give (one_more made d (packet_bit w).0 n)) d w

abbrev pub copies_made : List ℕ → List ℕ → List ℕ → Window → Made
copies_made counts target d = calls (λ k. copy_over (slice_index counts k)) (length counts) 0 d (record { number = 0; target = target })
