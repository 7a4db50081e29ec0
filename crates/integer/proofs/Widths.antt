-- Bytes of one length stand for one number each; so only a number whose high bytes repeat its sign has fewer.
use Rattle.std.proofs.Common.{◌≡◌, ℕ, suc, ◌+◌, ◌-◌, ◌<◌, ◌≤◌, List, [], ◌∷◌, ◌++◌, length, replicate, length-append, get_or, drop, ℤ, pos, ◌+ℤ◌, ◌*ℤ◌, sym, refl, ap, ◌∙◌, subst, arith}
use Rattle.std.proofs.lemmas.Bool.Decides.{nat_tests}
use Rattle.std.proofs.lemmas.Int.{ints}
use Rattle.std.proofs.lemmas.List.{length-replicate, get_or-replicate, get_or_append_left, get_or-append_right, drop_at}
use Rattle.integer.specs.Integer.{signed_byte, onward, signed, fill_of, Bytes}
use Rattle.integer.proofs.Fills.{Filled, fills_same, fill_byte}

-- A number with a byte behind it has one front and one end.
shifted : (z w : ℤ) (x y : ℕ) → x < 256 → y < 256 → z *ℤ pos 256 +ℤ pos x ≡ w *ℤ pos 256 +ℤ pos y → (z ≡ w) × (x ≡ y)
shifted z w x y p q e = grind (arith, ints)

onward-same : (xs ys : List ℕ) (z w : ℤ) → length xs ≡ length ys → Bytes xs → Bytes ys → onward z xs ≡ onward w ys → (z ≡ w) × (xs ≡ ys)
onward-same [] [] z w n b c e = (e, refl)
onward-same [] (y ∷ ys) z w n b c e = absurd (omega arith)
onward-same (x ∷ xs) [] z w n b c e = absurd (omega arith)
onward-same (x ∷ xs) (y ∷ ys) z w n b c e =
    let r = onward-same xs ys (z *ℤ pos 256 +ℤ pos x) (w *ℤ pos 256 +ℤ pos y) (omega arith) (λ k. b (suc k)) (λ k. c (suc k)) e in
    let s = shifted z w x y (b 0) (c 0) r.0 in
    let t = r.1 in
    (s.0, cc)

byte_same : (x y : ℕ) → x < 256 → y < 256 → signed_byte x ≡ signed_byte y → x ≡ y
byte_same x y h k e = grind (arith, nat_tests, ints)

pub signed_same : (xs ys : List ℕ) → length xs ≡ length ys → Bytes xs → Bytes ys → signed xs ≡ signed ys → xs ≡ ys
unfolding signed
signed_same [] [] n b c e = refl
signed_same [] (y ∷ ys) n b c e = absurd (omega arith)
signed_same (x ∷ xs) [] n b c e = absurd (omega arith)
signed_same (x ∷ xs) (y ∷ ys) n b c e =
    let r = onward-same xs ys (signed_byte x) (signed_byte y) (omega arith) (λ k. b (suc k)) (λ k. c (suc k)) e in
    let h : x ≡ y = byte_same x y (b 0) (c 0) r.0 in
    let t = r.1 in
    cc

-- Bytes xs behind n times the byte f.
padded-drop : (n f : ℕ) (xs : List ℕ) → drop n (replicate n f ++ xs) ≡ xs
padded-drop n f xs = drop_at (replicate n f) xs n (length-replicate n f)

padded-bytes : (n f : ℕ) (xs : List ℕ) → f < 256 → Bytes xs → Bytes (replicate n f ++ xs)
padded-bytes n f xs h b k = grind (arith, get_or_append_left, get_or-append_right, get_or-replicate, length-replicate, b (k - n))

padded-filled : (n m f : ℕ) (xs : List ℕ) → m ≤ n → f ≡ fill_of (get_or xs 0 0) → Filled m (replicate n f ++ xs)
padded-filled n m f xs h e k j = grind (arith, nat_tests, get_or_append_left, get_or-append_right, get_or-replicate, length-replicate)

-- Where fewer bytes ys hold the number of r, all bytes of r but as many repeat its sign.
pub fewer_filled : (r ys : List ℕ) (m : ℕ) → Bytes r → Bytes ys → 0 < length ys → m + length ys ≤ length r → signed ys ≡ signed r → Filled m r
fewer_filled r ys m br by some short e =
    let f = fill_of (get_or ys 0 0) in
    let n = length r - length ys in
    let l : length (replicate n f ++ ys) ≡ n + length ys = simp (length-append, length-replicate) in
    let b = padded-bytes n f ys (fill_byte (get_or ys 0 0)) by in
    let s = fills_same n (replicate n f ++ ys) (omega arith) (b n) (padded-filled n n f ys (omega arith) refl) in
    let q : replicate n f ++ ys ≡ r
    = signed_same (replicate n f ++ ys) r (omega arith) b br (sym s ∙ ap signed (padded-drop n f ys) ∙ e) in
    subst (Filled m) q (padded-filled n m f ys (omega arith) refl)
