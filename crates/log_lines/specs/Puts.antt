-- A text written at a place: what the contracts of `inner` name.
use Rattle.std.specs.Prelude.{ℕ, ◌+◌, ◌≤◌, ◌≡◌, List, length}
use Rattle.log_lines.specs.Texts.{written}

-- `end` is where the text ends, at most so many bytes on
pub record Put (most : ℕ) (out : List ℕ) (at : ℕ) (text after : List ℕ) (end : ℕ) : Type 0 where
  pub bytes : after ≡ written out at text
  pub ends : end ≡ at + length text
  pub within : end ≤ at + most
  pub size : length after ≡ length out
