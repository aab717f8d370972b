-- Bytes that one write put out and then another, where they are known; and that what is out of a text is its start.
use Rattle.std.proofs.Common.{◌≡◌, ℕ, ◌+◌, ◌≤◌, List, ◌++◌, length, take, drop, Option, Some, None, sym, ap, subst, ◌∙◌, append_assoc, arith}
use Rattle.std.proofs.lemmas.List.{take-append-le}
use Rattle.std.proofs.Math.Seq.{take-add}
use Rattle.std.specs.Io.KnownBytes.{Appends}
use Rattle.log_lines.specs.Puts.{Put}
use Rattle.log_lines.proofs.Texts.{written_is}

appends_both : (u v w : Option (List ℕ)) (a b : List ℕ) → Appends u v a → Appends v w b → Appends u w (a ++ b)
appends_both None v w a b x y = tt
appends_both (Some xs) None w a b x y = absurd x
appends_both (Some xs) (Some ys) None a b x y = y
appends_both (Some xs) (Some ys) (Some zs) a b x y = y ∙ ap (λ (t : List ℕ). t ++ b) x ∙ append_assoc xs a b

-- the first n bytes are out, and then the m after them
pub appends_more : (u v w : Option (List ℕ)) (n m : ℕ) (l : List ℕ) → Appends u v (take n l) → Appends v w (take m (drop n l)) → Appends u w (take (n + m) l)
appends_more u v w n m l x y = subst (λ t. Appends u w t) (sym (take-add n m l)) (appends_both u v w (take n l) (take m (drop n l)) x y)

pub put_starts : {most : ℕ} {out text after : List ℕ} {end : ℕ} → Put most out 0 text after end → end ≤ length out → (n : ℕ) → n ≤ end → take n after ≡ take n text
put_starts {most} {out} {text} {after} {end} p h n m =
    ap (λ (l : List ℕ). take n l) (p.bytes ∙ written_is text out 0 (omega (arith, p.ends, h)))
    ∙ take-append-le n text (drop (0 + length text) out) (omega (arith, p.ends, m))
