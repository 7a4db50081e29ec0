-- Where a comment begins, and what is plain, byte by byte.
use Rattle.std.proofs.Common.{◌≡◌, ℕ, suc, ◌+◌, ◌<◌, ◌≤◌, Bool, true, false, not, ◌&&◌, eqb, List, [], ◌∷◌, length, get_or, drop, ◌∙◌, arith}
use Rattle.std.proofs.lemmas.List.{at_drop_more}
use Rattle.std.proofs.lemmas.Bool.{cond_both, and_left}
use Rattle.lexer.specs.Lines.{comment_at, quoted_behind, plain_after, plain_from}

-- A comment begins in its line or at the end.
pub comment_within : (q : Bool) (t : List ℕ) → comment_at q t ≤ length t
comment_within q [] = omega arith
comment_within q (c ∷ cs) =
    cond_both (eqb c 35 && not q) 0 (suc (comment_at (quoted_behind q c) cs)) (λ n. n ≤ suc (length cs)) (λ _. omega arith)
    (λ _. omega (arith, comment_within (quoted_behind q c) cs))

pub plain_more : (p : ℕ) (t : List ℕ) (i : ℕ) → i < length t → plain_after p (get_or t i 0) ≡ true →
    plain_from p (drop i t) ≡ plain_from (get_or t i 0) (drop (i + 1) t)
plain_more p t i h e = at_drop_more (plain_from p) t i 0 h ∙ rw e

pub plain-stops : (p : ℕ) (t : List ℕ) (i : ℕ) → i < length t → plain_after p (get_or t i 0) ≡ false → plain_from p (drop i t) ≡ false
plain-stops p t i h e = at_drop_more (plain_from p) t i 0 h ∙ and_left _ _ e
