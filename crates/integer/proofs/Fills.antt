-- Bytes that repeat the sign can be dropped, however many: the one argument for every width.
use Rattle.std.proofs.Common.{◌≡◌, ℕ, zero, suc, ◌/◌, ◌<◌, ◌≤◌, true, false, eqb, ltb, List, [], ◌∷◌, length, get_or, take, drop, ℤ, pos, ◌+ℤ◌, ◌*ℤ◌, sym, refl, ap, ◌∙◌, arith}
use Rattle.std.proofs.lemmas.List.{get_or-take, get_or_default, length-take-le}
use Rattle.std.proofs.lemmas.Bool.{and_parts, and_from, eqb-true, eq-eqb, ltb-true, lt-ltb, le-ltb}
use Rattle.std.proofs.lemmas.Bool.Decides.{nat_tests}
use Rattle.std.proofs.lemmas.Int.{ints}
use Rattle.integer.specs.Integer.{signed_byte, onward, signed, fill_of, spare_half}
use Rattle.std.specs.List.{list_all}
use Rattle.std.proofs.lemmas.List.Sums.{AllPass-from_list_all, list_all-from_AllPass}

-- The first m bytes only repeat the sign of what is behind them: place by place.
abbrev pub Filled : ℕ → List ℕ → Type 0
Filled m xs = (k : ℕ) → k < m → get_or xs k 0 ≡ fill_of (get_or xs m 0)

pub spare_tells : (xs : List ℕ) → spare_half xs ≡ true → (1 < length xs) × Filled (length xs / 2) xs
unfolding spare_half
spare_tells xs e =
    let m = length xs / 2 in
    let t = λ (x : ℕ). eqb x (fill_of (get_or xs m 0)) in
    let p = and_parts (ltb 1 (length xs)) (list_all t (take m xs)) e in
    let n : length (take m xs) ≡ m = length-take-le m xs (omega arith) in
    (ltb-true 1 (length xs) p.0, λ k j. sym (get_or-take m xs k 0 j) ∙ eqb-true _ _ (AllPass-from_list_all t (take m xs) p.1 k 0 (omega arith)))

pub spare_from : (xs : List ℕ) → 1 < length xs → Filled (length xs / 2) xs → spare_half xs ≡ true
unfolding spare_half
spare_from xs l each =
    let m = length xs / 2 in
    let t = λ (x : ℕ). eqb x (fill_of (get_or xs m 0)) in
    let n : length (take m xs) ≡ m = length-take-le m xs (omega arith) in
    and_from (ltb 1 (length xs)) (list_all t (take m xs)) (lt-ltb 1 (length xs) l)
    (list_all-from_AllPass t (take m xs) (λ k d j. eq-eqb _ _ (get_or-take m xs k d (omega arith) ∙ get_or_default xs k d 0 (omega arith) ∙ each k (omega arith))))

pub spare_short : (xs : List ℕ) → length xs ≤ 1 → spare_half xs ≡ false
unfolding spare_half
spare_short xs h = rw (le-ltb 1 (length xs) h)

byte_filled : (b : ℕ) → b < 256 → signed_byte (fill_of b) *ℤ pos 256 +ℤ pos b ≡ signed_byte b
byte_filled b h = grind (arith, nat_tests, ints)

fill_one : (b : ℕ) (xs : List ℕ) → b < 256 → signed (b ∷ xs) ≡ signed (fill_of b ∷ b ∷ xs)
unfolding signed
fill_one b xs h = ap (λ (z : ℤ). onward z xs) (sym (byte_filled b h))

pub fill_fill : (b : ℕ) → fill_of (fill_of b) ≡ fill_of b
fill_fill b = grind (arith, nat_tests)

pub fill_byte : (b : ℕ) → fill_of b < 256
fill_byte b = grind (arith, nat_tests)

pub fills_same : (m : ℕ) (xs : List ℕ) → m < length xs → get_or xs m 0 < 256 → Filled m xs → signed (drop m xs) ≡ signed xs
fills_same zero xs h b f = refl
fills_same (suc m) [] h b f = absurd (omega arith)
fills_same (suc m) (x ∷ []) h b f = absurd (omega arith)
fills_same (suc zero) (x ∷ y ∷ xs) h b f =
    let e : x ≡ fill_of y = f 0 (omega arith) in
    fill_one y xs b ∙ ap (λ (z : ℕ). signed (z ∷ y ∷ xs)) (sym e)
fills_same (suc (suc m)) (x ∷ y ∷ xs) h b f =
    let p : y ≡ fill_of (get_or xs m 0) = f 1 (omega arith) in
    let q : x ≡ fill_of (get_or xs m 0) = f 0 (omega arith) in
    let r = fill_fill (get_or xs m 0) in
    let e : x ≡ fill_of y = cc in
    let l = fill_byte (get_or xs m 0) in
    fills_same (suc m) (y ∷ xs) (omega arith) b (λ k j. f (suc k) (omega arith)) ∙ fill_one y xs (omega arith)
    ∙ ap (λ (z : ℕ). signed (z ∷ y ∷ xs)) (sym e)
