-- A word is the one named where its bytes are those of the name, one by one, and it ends there.
use Rattle.std.proofs.Common.{◌≡◌, ℕ, suc, Bool, false, ◌&&◌, eqb, List, [], ◌∷◌, length, get_or, refl, ap, sym, ◌∙◌, arith}
use Rattle.std.proofs.Math.Dec.{eqb-suc-suc, eqb-suc-zero, eqb-zero-suc}
use Rattle.lexer.specs.Words.{same}

-- whether `word` has the bytes of `name` from `i` on, and then ends
abbrev pub reads : List ℕ → ℕ → List ℕ → Bool
reads word i [] = eqb (length word) i
reads word i (c ∷ name) = eqb (get_or word i 0) c && reads word (suc i) name

past_end : (i : ℕ) (name : List ℕ) → reads [] (suc i) name ≡ false
past_end i [] = eqb-zero-suc i
past_end i (c ∷ name) = grind (arith, past_end (suc i) name)

behind_first : (x : ℕ) (word : List ℕ) (i : ℕ) (name : List ℕ) → reads (x ∷ word) (suc i) name ≡ reads word i name
behind_first x word i [] = eqb-suc-suc (length word) i
behind_first x word i (c ∷ name) = ap (λ b. eqb (get_or word i 0) c && b) (behind_first x word (suc i) name)

pub named : (word name : List ℕ) → same word name ≡ reads word 0 name
named [] [] = refl
named [] (c ∷ name) = grind (arith, past_end 0 name)
named (x ∷ word) [] = sym (eqb-suc-zero (length word))
named (x ∷ word) (c ∷ name) = ap (λ b. eqb x c && b) (named word name ∙ sym (behind_first x word 0 name))
