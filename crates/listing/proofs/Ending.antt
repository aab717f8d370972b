-- No text at all; a word's bytes copied one after another.
use Rattle.std.proofs.Common.{◌≡◌, ℕ, ◌+◌, ◌<◌, ◌≤◌, List, [], ◌∷◌, ◌++◌, length, get_or, take, set, sym, refl, ap, ◌∙◌, add-zero, zero-add, add-one, arith, length-set, length-take-le, take-suc}
use Rattle.log_lines.specs.Texts.{written}
use Rattle.log_lines.proofs.Texts.{written_append}
use Rattle.log_lines.specs.Puts.{Put}

pub no_text : {m : ℕ} (out : List ℕ) (at : ℕ) → Put m out at [] out at
unfolding written
no_text out at = record { bytes = refl; ends = sym (add-zero at); within = omega arith; size = refl }

-- i bytes of a text stand at the front
pub record Copied (out₀ text : List ℕ) (i : ℕ) (out : List ℕ) : Type 0 where
  pub some : i ≤ length text
  pub bytes : out ≡ written out₀ 0 (take i text)
  pub size : length out ≡ length out₀

pub begins : (out text : List ℕ) → Copied out text 0 out
unfolding written
begins out text = record { some = omega arith; bytes = refl; size = refl }

module _ {out₀ text : List ℕ} {i : ℕ} {out : List ℕ} (c : Copied out₀ text i out) where
  pub one_more : i < length text → Copied out₀ text (i + 1) (set out i (get_or text i 0))
  unfolding written
  one_more h =
      let n : length (take i text) ≡ i = length-take-le i text (omega arith) in
      let b = get_or text i 0 in
      record {
        some = omega arith;
        bytes =
            ap (λ (o : List ℕ). set o i b) c.bytes
            ∙ ap (λ (k : ℕ). set (written out₀ 0 (take i text)) k b) (sym (zero-add (length (take i text)) ∙ n))
            ∙ written_append (take i text) (b ∷ []) out₀ 0
            ∙ ap (written out₀ 0) (sym (next i (omega arith)));
        size = length-set out i b ∙ c.size;
      }
    where
      next : (k : ℕ) → k < length text → take (k + 1) text ≡ take k text ++ (get_or text k 0 ∷ [])
      next k g = rw (add-one k) (take-suc text k 0 g)
