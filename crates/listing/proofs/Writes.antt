-- What is known of a write by what it comes to.
use mathlib.Core.Path.{◌≡◌, refl, sym, ap, ◌∙◌}
use Rattle.std.specs.Prelude.{ℕ, Bool, true, false, Option, None, if◌then◌else◌, ◌==◌, Result, Ok, Err}
use Rattle.listing.specs.Calls.{Transfer, bytes_moved, is_eintr, is_interrupted, after_write}

-- where it goes on, so many bytes moved
pub moved_on : (m : Transfer) (n : ℕ) → after_write m ≡ Ok n → bytes_moved m ≡ n
moved_on (Ok k) n e = go (k == 0) e
  where
    go : (b : Bool) → (if◌then◌else◌ {A = Result ℕ (Option ℕ)} b (Err None) (Ok k)) ≡ Ok n → k ≡ n
    go true f = cc
    go false f = cc
moved_on (Err f) n e = go (is_interrupted f) e
  where
    go : (b : Bool) → (if◌then◌else◌ {A = Result ℕ (Option ℕ)} b (Ok 0) (Err f.number)) ≡ Ok n → 0 ≡ n
    go true g = cc
    go false g = cc

-- where it ends, no signal did it
pub no_signal : (m : Transfer) (error : Option ℕ) → after_write m ≡ Err error → is_eintr error ≡ false
no_signal (Ok k) error e = go (k == 0) e
  where
    go : (b : Bool) → (if◌then◌else◌ {A = Result ℕ (Option ℕ)} b (Err None) (Ok k)) ≡ Err error → is_eintr error ≡ false
    go true f = let none : ◌≡◌ {A = Option ℕ} None error = cc in ap is_eintr (sym none)
    go false f = cc
no_signal (Err f) error e = go (is_interrupted f) refl e
  where
    go : (b : Bool) → is_interrupted f ≡ b → (if◌then◌else◌ {A = Result ℕ (Option ℕ)} b (Ok 0) (Err f.number)) ≡ Err error → is_eintr error ≡ false
    go true h g = cc
    go false h g = let same : f.number ≡ error = cc in ap is_eintr (sym same) ∙ h
