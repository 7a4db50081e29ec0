-- Hexadecimal: byte by byte, and as the library writes it.
use Rattle.std.proofs.Common.{◌≡◌, ℕ, zero, suc, ◌+◌, ◌/◌, ◌%◌, ◌<◌, List, [], ◌∷◌, ◌++◌, length, get_or, take, sym, refl, ap, ◌∙◌, append_assoc, arith}
use Rattle.std.proofs.lemmas.List.{take_more}
use Rattle.integer.specs.Integer.{Bytes}
use Rattle.hex.specs.Hex.{encode_with, encode_upper, upper_digits}
use Rattle.session.specs.Printed.{hex_digit, hex_text}

digit : (d : ℕ) → d < 16 → get_or upper_digits d 0 ≡ hex_digit d
digit zero h = refl
digit (suc zero) h = refl
digit (suc (suc zero)) h = refl
digit (suc (suc (suc zero))) h = refl
digit (suc (suc (suc (suc zero)))) h = refl
digit (suc (suc (suc (suc (suc zero))))) h = refl
digit (suc (suc (suc (suc (suc (suc zero)))))) h = refl
digit (suc (suc (suc (suc (suc (suc (suc zero))))))) h = refl
digit (suc (suc (suc (suc (suc (suc (suc (suc zero)))))))) h = refl
digit (suc (suc (suc (suc (suc (suc (suc (suc (suc zero))))))))) h = refl
digit (suc (suc (suc (suc (suc (suc (suc (suc (suc (suc zero)))))))))) h = refl
digit (suc (suc (suc (suc (suc (suc (suc (suc (suc (suc (suc zero))))))))))) h = refl
digit (suc (suc (suc (suc (suc (suc (suc (suc (suc (suc (suc (suc zero)))))))))))) h = refl
digit (suc (suc (suc (suc (suc (suc (suc (suc (suc (suc (suc (suc (suc zero))))))))))))) h = refl
digit (suc (suc (suc (suc (suc (suc (suc (suc (suc (suc (suc (suc (suc (suc zero)))))))))))))) h = refl
digit (suc (suc (suc (suc (suc (suc (suc (suc (suc (suc (suc (suc (suc (suc (suc zero))))))))))))))) h = refl
digit (suc (suc (suc (suc (suc (suc (suc (suc (suc (suc (suc (suc (suc (suc (suc (suc d)))))))))))))))) h = absurd (omega arith)

pub digits_told : (bs : List ℕ) → Bytes bs → encode_upper bs ≡ hex_text bs
unfolding encode_with hex_text
digits_told [] h = refl
digits_told (b ∷ bs) h =
    let e : b < 256 = h 0 in
    ap (λ x. x ∷ get_or upper_digits (b % 16) 0 ∷ encode_upper bs) (digit (b / 16) (omega arith))
    ∙ ap (λ x. hex_digit (b / 16) ∷ x ∷ encode_upper bs) (digit (b % 16) (omega arith))
    ∙ ap (λ xs. hex_digit (b / 16) ∷ hex_digit (b % 16) ∷ xs) (digits_told bs (λ k. h (suc k)))

hex_both : (xs ys : List ℕ) → hex_text (xs ++ ys) ≡ hex_text xs ++ hex_text ys
unfolding hex_text
hex_both [] ys = refl
hex_both (x ∷ xs) ys = ap (λ (zs : List ℕ). hex_digit (x / 16) ∷ hex_digit (x % 16) ∷ zs) (hex_both xs ys)

behind : (old mid new a b : List ℕ) → mid ≡ old ++ a → new ≡ mid ++ b → new ≡ old ++ (a ++ b)
behind old mid new a b p q = q ∙ ap (λ (xs : List ℕ). xs ++ b) p ∙ append_assoc old a b

-- one byte more
pub hex_more : (old mid new bs : List ℕ) (i : ℕ) → i < length bs → mid ≡ old ++ hex_text (take i bs)
    → new ≡ mid ++ (hex_digit (get_or bs i 0 / 16) ∷ hex_digit (get_or bs i 0 % 16) ∷ []) → new ≡ old ++ hex_text (take (i + 1) bs)
unfolding hex_text
hex_more old mid new bs i h p q =
    behind old mid new (hex_text (take i bs)) _ p q
    ∙ ap (λ (zs : List ℕ). old ++ zs) (sym (ap hex_text (take_more bs i 0 h) ∙ hex_both (take i bs) (get_or bs i 0 ∷ [])))
