-- Pairs of hexadecimal digits, behind blanks.
use Rattle.std.proofs.Common.{◌≡◌, ℕ, suc, ◌+◌, ◌-◌, ◌≤◌, ◌++◌, length, take, Some, Bool, false, true, List, [], ◌∷◌, get_or, drop, refl, sym, ap, ◌∙◌, arith}
use Rattle.std.specs.List.{prefix_len}
use Rattle.std.proofs.lemmas.Bool.{cond_both, cond-true, cond-false}
use Rattle.std.proofs.lemmas.List.{take_rest}
use Rattle.lexer.specs.declared.fault.Expected.TheVariants.{HexPair}
use Rattle.lexer.specs.Faults.{stopped}
use Rattle.lexer.specs.Chars.{is_blank, rest_of}
use Rattle.lexer.specs.Words.{skip_blanks}
use Rattle.lexer.specs.Hex.{hex_on, pair_of, with_byte}

next : (p : ℕ → Bool) (cs : List ℕ) → 1 + prefix_len p cs ≡ suc (prefix_len p cs)
next p cs = omega arith

blank_front : (acc : List ℕ) (c : ℕ) (cs : List ℕ) → is_blank c ≡ true → hex_on acc cs ≡ hex_on acc (c ∷ cs)
blank_front acc c [] e = sym (cond-true _ _ _ e)
blank_front acc c (d ∷ ds) e = sym (cond-true _ _ _ e)

pub hex_skips : (acc t : List ℕ) → hex_on acc (skip_blanks t) ≡ hex_on acc t
unfolding rest_of
hex_skips acc [] = refl
hex_skips acc (c ∷ cs) =
    cond_both (is_blank c) (1 + prefix_len is_blank cs) 0 (λ n. hex_on acc (drop n (c ∷ cs)) ≡ hex_on acc (c ∷ cs))
    (λ e. ap (λ n. hex_on acc (drop n (c ∷ cs))) (next is_blank cs) ∙ (hex_skips acc cs ∙ blank_front acc c cs e)) (λ _. refl)

pub skipped : (t : List ℕ) → is_blank (get_or (skip_blanks t) 0 0) ≡ false
unfolding rest_of
skipped [] = refl
skipped (c ∷ cs) =
    cond_both (is_blank c) (1 + prefix_len is_blank cs) 0 (λ n. is_blank (get_or (drop n (c ∷ cs)) 0 0) ≡ false) (λ _. ap (λ n. is_blank (get_or (drop n (c ∷ cs)) 0 0)) (next is_blank cs) ∙ skipped cs) (λ e. e)

pub hex_step : (acc t : List ℕ) (x : ℕ) → 2 ≤ length t → is_blank (get_or t 0 0) ≡ false → pair_of (get_or t 0 0) (get_or t 1 0) ≡ Some x →
    hex_on (acc ++ x ∷ []) (take (length t - 2) (drop 2 t)) ≡ hex_on acc t
hex_step acc [] x h e p = absurd (omega arith)
hex_step acc (a ∷ []) x h e p = absurd (omega arith)
hex_step acc (a ∷ b ∷ cs) x h e p =
    ap (hex_on (acc ++ x ∷ [])) (take_rest (a ∷ b ∷ cs) 2)
    ∙ sym (cond-false (is_blank a) _ _ e ∙ ap (λ o. with_byte o (stopped HexPair (a ∷ b ∷ cs)) (λ y. hex_on (acc ++ y ∷ []) cs)) p)
