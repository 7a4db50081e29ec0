-- The numbers that digits write.
use Rattle.std.proofs.Common.{◌≡◌, ℕ, ◌+◌, ◌-◌, ◌*◌, ◌<◌, true, false, ◌&&◌, List, [], ◌∷◌, length, get_or, drop, None, refl, ap, ◌∙◌, arith}
use Rattle.std.proofs.lemmas.List.{at_drop_more}
use Rattle.std.proofs.lemmas.Bool.Decides.{nat_tests}
use Rattle.std.proofs.lemmas.Bool.{cond_both, cond-true, cond-false}
use Rattle.lexer.specs.Chars.{is_digit}
use Rattle.lexer.specs.Numbers.{at_most, digits_on, leads, number_of}

-- more digits make no number smaller
pub too_large : (most n : ℕ) (cs : List ℕ) → most < n → at_most most (digits_on n cs) ≡ None
unfolding digits_on
too_large most n [] h = grind (arith, nat_tests)
too_large most n (c ∷ cs) h =
    cond_both (is_digit c) (digits_on (n * 10 + (c - 48)) cs) None (λ o. at_most most o ≡ None)
    (λ _. too_large most (n * 10 + (c - 48)) cs (omega arith)) (λ _. refl)

pub digits_more : (n : ℕ) (t : List ℕ) (i : ℕ) → i < length t → is_digit (get_or t i 0) ≡ true →
    digits_on n (drop i t) ≡ digits_on (n * 10 + (get_or t i 0 - 48)) (drop (i + 1) t)
unfolding digits_on
digits_more n t i h d = at_drop_more (digits_on n) t i 0 h ∙ cond-true (is_digit (get_or t i 0)) _ _ d

pub digits_stop : (n : ℕ) (t : List ℕ) (i : ℕ) → i < length t → is_digit (get_or t i 0) ≡ false → digits_on n (drop i t) ≡ None
unfolding digits_on
digits_stop n t i h d = at_drop_more (digits_on n) t i 0 h ∙ cond-false (is_digit (get_or t i 0)) _ _ d

-- no number begins otherwise
pub badly_led : (most : ℕ) (t : List ℕ) → (leads t && is_digit (get_or t 0 0)) ≡ false → number_of most t ≡ None
unfolding leads digits_on
badly_led most [] e = refl
badly_led most (c ∷ cs) e =
    cond_both (leads (c ∷ cs)) (at_most most (digits_on 0 (c ∷ cs))) None (λ o. o ≡ None)
    (λ l. ap (at_most most) (cond-false (is_digit c) _ _ (rw l at e))) (λ _. refl)
