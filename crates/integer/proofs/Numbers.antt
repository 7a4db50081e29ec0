-- The numbers that bytes stand for: their range, and the eight bytes of a number.
use Rattle.std.proofs.Common.{◌≡◌, ℕ, zero, suc, ◌-◌, ◌*◌, ◌/◌, ◌%◌, ◌^◌, ◌<◌, ◌≤◌, true, false, ltb, List, [], ◌∷◌, ◌++◌, length, get_or, ℤ, pos, negsuc, ◌+ℤ◌, ◌*ℤ◌, Some, sym, refl, ap, ◌∙◌, subst, mul_assoc, pow-suc, arith, length-append, w8, w16, w32, w64, SFits, of_z, to_z}
use native.Mathlib.Nat.{pow-succ', pow-le-pow_right, div-div-eq-div-mul}
use lib.Signed.{mag}
use Rattle.std.proofs.lemmas.Bool.Decides.{nat_tests}
use Rattle.std.proofs.lemmas.Grind.{common_steps}
use Rattle.std.proofs.lemmas.Int.{ints, to_z-of_z, of_z-to_z}
use Rattle.std.proofs.lemmas.Nat.{be_bytes_8}
use Rattle.std.specs.Int.{to_be_bytes, from_be_bytes}
use Rattle.std.proofs.lemmas.Bool.{lt-ltb, le-ltb}
use Rattle.integer.specs.Integer.{signed_byte, onward, signed, is_width, Bytes, low_bytes, eight_bytes, kept_form, kept_of, number_of, spare_half, shortest}
use Rattle.integer.specs.Laws.{Smallest, Kept, KeptNumber}
use Rattle.integer.proofs.Widths.{signed_same}
use Rattle.integer.proofs.Halves.{shortest_kept, shortest-stops}

onward_push : (xs : List ℕ) (b : ℕ) (z : ℤ) → onward z (xs ++ (b ∷ [])) ≡ onward z xs *ℤ pos 256 +ℤ pos b
onward_push [] b z = refl
onward_push (x ∷ xs) b z = onward_push xs b (z *ℤ pos 256 +ℤ pos x)

-- One more byte behind a number.
pub signed_push : (xs : List ℕ) (b : ℕ) → 0 < length xs → signed (xs ++ (b ∷ [])) ≡ signed xs *ℤ pos 256 +ℤ pos b
unfolding signed
signed_push xs b h = grind (arith, onward_push)

low-length : (n u : ℕ) → length (low_bytes n u) ≡ n
low-length zero u = refl
low-length (suc n) u = omega (arith, length-append (low_bytes n (u / 256)) (u % 256 ∷ []), low-length n (u / 256))

low-some : (n u : ℕ) → 0 < length (low_bytes (suc n) u)
low-some n u = omega (arith, low-length (suc n) u)

push_bytes : (xs : List ℕ) (b : ℕ) → Bytes xs → b < 256 → Bytes (xs ++ (b ∷ []))
push_bytes xs b h l k = grind (arith, common_steps)

low_bytes_lem : (n u : ℕ) → Bytes (low_bytes n u)
low_bytes_lem zero u k = omega arith
low_bytes_lem (suc n) u k = push_bytes (low_bytes n (u / 256)) (u % 256) (low_bytes_lem n (u / 256)) (omega arith) k

-- The number of the low bytes of u, where u has no more; p is the weight of the highest.
low_positive : (n p u : ℕ) → p ≡ 256 ^ n → u < 128 * p → signed (low_bytes (suc n) u) ≡ pos u
unfolding signed
low_positive zero p u e h =
    let q : u % 256 ≡ u = omega arith in
    let l : ltb u 128 ≡ true = lt-ltb u 128 (omega arith) in
    rw (q, l)
low_positive (suc n) p u e h =
    let w = pow-suc 256 n in
    let i = low_positive n (256 ^ n) (u / 256) refl (omega arith) in
    signed_push (low_bytes (suc n) (u / 256)) (u % 256) (low-some n (u / 256)) ∙ rw i (omega (arith, ints))

low_negative : (n p u : ℕ) → p ≡ 256 ^ n → 128 * p ≤ u → u < 256 * p → signed (low_bytes (suc n) u) ≡ negsuc (256 * p - suc u)
unfolding signed
low_negative zero p u e g h =
    let q : u % 256 ≡ u = omega arith in
    let l : ltb u 128 ≡ false = le-ltb u 128 (omega arith) in
    rw (q, l) (omega (arith, ints))
low_negative (suc n) p u e g h =
    let w = pow-suc 256 n in
    let i = low_negative n (256 ^ n) (u / 256) refl (omega arith) (omega arith) in
    signed_push (low_bytes (suc n) (u / 256)) (u % 256) (low-some n (u / 256)) ∙ rw i (omega (arith, ints))

pub eight-signed : (z : ℤ) → SFits w64 z → signed (eight_bytes z) ≡ z
unfolding eight_bytes
eight-signed (pos n) f = low_positive 7 (256 ^ 7) n refl f.sfits
eight-signed (negsuc n) f =
    let h = f.sfits in
    low_negative 7 (256 ^ 7) (2 ^ 64 - suc n) refl (omega arith) (omega arith) ∙ ap negsuc (omega arith)

-- The bytes of a number as a processor has them.
pub eight_places : (u : ℕ) → low_bytes 8 u
    ≡ (u / 256 ^ 7 % 256) ∷ (u / 256 ^ 6 % 256) ∷ (u / 256 ^ 5 % 256) ∷ (u / 256 ^ 4 % 256) ∷ (u / 256 ^ 3 % 256) ∷ (u / 256 ^ 2 % 256) ∷ (u / 256 % 256) ∷ (u % 256) ∷ []
eight_places u = simp div-div-eq-div-mul

pub eight_unsigned : (z : ℤ) → eight_bytes z ≡ low_bytes 8 (of_z w64 z)
unfolding eight_bytes
eight_unsigned (pos n) = refl
eight_unsigned (negsuc n) = refl

pub eight_bytes_lem : (z : ℤ) → Bytes (eight_bytes z)
unfolding eight_bytes
eight_bytes_lem (pos n) = low_bytes_lem 8 n
eight_bytes_lem (negsuc n) = low_bytes_lem 8 (2 ^ 64 - suc n)

pub eight-length : (z : ℤ) → length (eight_bytes z) ≡ 8
unfolding eight_bytes
eight-length (pos n) = low-length 8 n
eight-length (negsuc n) = low-length 8 (2 ^ 64 - suc n)

eight-width : (z : ℤ) → is_width (length (eight_bytes z)) ≡ true
unfolding is_width
eight-width z = rw (eight-length z)

-- The magnitude of a number with bytes behind it.
step_mag : (z : ℤ) (h x : ℕ) → x < 256 → mag z < h → mag (z *ℤ pos 256 +ℤ pos x) < h * 256
step_mag z h x b l = grind (arith, ints)

onward-mag : (xs : List ℕ) (z : ℤ) (h : ℕ) → Bytes xs → mag z < h → mag (onward z xs) < h * 256 ^ length xs
onward-mag [] z h b l = omega arith
onward-mag (x ∷ xs) z h b l =
    let i = onward-mag xs (z *ℤ pos 256 +ℤ pos x) (h * 256) (λ k. b (suc k)) (step_mag z h x (b 0) l) in
    rw (pow-succ' 256 (length xs), ← mul_assoc h 256 (256 ^ length xs)) i

byte_mag : (b : ℕ) → b < 256 → mag (signed_byte b) < 128
byte_mag b h = grind (arith, nat_tests)

signed-mag : (xs : List ℕ) (n : ℕ) → Bytes xs → length xs ≤ suc n → mag (signed xs) < 128 * 256 ^ n
unfolding signed
signed-mag [] n b l = omega (arith, pow-le-pow_right {n = 256} (omega arith) {i = 0} {j = n} (omega arith))
signed-mag (x ∷ xs) n b l =
    let i = onward-mag xs (signed_byte x) 128 (λ k. b (suc k)) (byte_mag x (b 0)) in
    omega (arith, pow-le-pow_right {n = 256} (omega arith) {i = length xs} {j = n} (omega arith))

pub signed-fits : (xs : List ℕ) → Bytes xs → length xs ≤ 8 → SFits w64 (signed xs)
signed-fits xs b l = record { sfits = signed-mag xs 7 b l }

-- The bytes of a number as the library writes them.
eight_be : (n : ℤ) → to_be_bytes w64 (of_z w64 n) ≡ eight_bytes n
eight_be n = sym (eight_unsigned n ∙ eight_places (of_z w64 n))

-- The library reads a width at once.
fits : (u : ℕ) → u < 2 ^ 64 → SFits w64 (to_z w64 u)
fits u h = record { sfits = grind (arith, nat_tests, ints) }

worth : (v : List ℕ) → Bytes v → from_be_bytes w64 v < 2 ^ 64
worth v b = omega (arith, b 0, b 1, b 2, b 3, b 4, b 5, b 6, b 7)

pub eight : (v : List ℕ) → Bytes v → length v ≡ 8 → to_z w64 (from_be_bytes w64 v) ≡ signed v
eight v b l =
    let u = from_be_bytes w64 v in
    let z = to_z w64 u in
    sym (eight-signed z (fits u (worth v b)))
    ∙ ap signed (sym (eight_be z) ∙ ap (to_be_bytes w64) (of_z-to_z w64 u (worth v b)) ∙ be_bytes_8 v u l b refl)

pub one : (v : List ℕ) → Bytes v → length v ≡ 1 → to_z w8 (get_or v 0 0) ≡ signed v
unfolding signed
one [] b l = absurd (omega arith)
one (x ∷ []) b l = let i = b 0 in grind (arith, nat_tests, ints)
one (x ∷ y ∷ v) b l = absurd (omega arith)

pub two : (v : List ℕ) → Bytes v → length v ≡ 2 → to_z w16 (from_be_bytes w16 v) ≡ signed v
unfolding signed
two [] b l = absurd (omega arith)
two (x ∷ []) b l = absurd (omega arith)
two (x ∷ y ∷ []) b l = let i = b 0 in let j = b 1 in grind (arith, nat_tests, ints)
two (x ∷ y ∷ z ∷ v) b l = absurd (omega arith)

four_bytes : (x y z t : ℕ) → x < 256 → y < 256 → z < 256 → t < 256 → to_z w32 (from_be_bytes w32 (x ∷ y ∷ z ∷ t ∷ [])) ≡ signed (x ∷ y ∷ z ∷ t ∷ [])
unfolding signed
four_bytes x y z t i j k l = grind (arith, nat_tests, ints)

pub four : (v : List ℕ) → Bytes v → length v ≡ 4 → to_z w32 (from_be_bytes w32 v) ≡ signed v
four [] b l = absurd (omega arith)
four (x ∷ []) b l = absurd (omega arith)
four (x ∷ y ∷ []) b l = absurd (omega arith)
four (x ∷ y ∷ z ∷ []) b l = absurd (omega arith)
four (x ∷ y ∷ z ∷ t ∷ []) b l = four_bytes x y z t (b 0) (b 1) (b 2) (b 3)
four (x ∷ y ∷ z ∷ t ∷ u ∷ v) b l = absurd (omega arith)

pub width_most : (n : ℕ) → is_width n ≡ true → n ≤ 8
unfolding is_width
width_most n h = grind (arith, nat_tests)

-- The same as the code has it, which keeps a number as 64 bits.
pub numbered : (v : List ℕ) (z : ℤ) → Bytes v → is_width (length v) ≡ true → z ≡ signed v → Some (to_z w64 (of_z w64 z)) ≡ number_of v
numbered v z b w e = rw (w, e) (ap Some (to_z-of_z w64 (signed v) (signed-fits v b (width_most (length v) w))))

-- Only one list of bytes is the smallest form of a number.
unique : (z : ℤ) (r s : List ℕ) → Smallest z r → Smallest z s → r ≡ s
unique z r s p q =
    let a = p.least s q.bytes q.width q.number in
    let b = q.least r p.bytes p.width p.number in
    signed_same r s (omega arith) p.bytes q.bytes (p.number ∙ sym q.number)

pub kept_of-smallest : (z : ℤ) → SFits w64 z → Smallest z (kept_of z)
kept_of-smallest z f = subst (λ (n : ℤ). Smallest n (kept_of z)) (eight-signed z f) (shortest_kept (eight_bytes z) (eight_bytes_lem z) (eight-width z)).smallest

-- Writing the number that was read gives the kept form.
pub kept_of_signed : (v : List ℕ) → Bytes v → is_width (length v) ≡ true → kept_of (signed v) ≡ shortest v
kept_of_signed v b w =
    unique (signed v) (kept_of (signed v)) (shortest v)
    (kept_of-smallest (signed v) (signed-fits v b (width_most (length v) w)))
    (shortest_kept v b w).smallest

pub written_again : (v : List ℕ) (z : ℤ) → Bytes v → is_width (length v) ≡ true → z ≡ signed v → Some (kept_of (to_z w64 (of_z w64 z))) ≡ kept_form v
written_again v z b w e = rw (w, e, to_z-of_z w64 (signed v) (signed-fits v b (width_most (length v) w))) (ap Some (kept_of_signed v b w))

-- Reading the number that was written gives it back.
pub number_of-kept_of : (z : ℤ) → SFits w64 z → number_of (kept_of z) ≡ Some z
number_of-kept_of z f =
    let s = kept_of-smallest z f in
    let w = s.width in
    rw w (ap Some s.number)

eight_kept : (n : ℤ) → Kept (eight_bytes n) (kept_of n)
eight_kept n = shortest_kept (eight_bytes n) (eight_bytes_lem n) (eight-width n)

-- The eight bytes of a number are got back from their kept form.
pub bytes_again : (n : ℤ) → SFits w64 n → eight_bytes (signed (shortest (to_be_bytes w64 (of_z w64 n)))) ≡ to_be_bytes w64 (of_z w64 n)
bytes_again n f = rw (eight_be n) (ap eight_bytes (eight_kept n).smallest.number ∙ ap eight_bytes (eight-signed n f))

pub kept_number : (n : ℤ) → SFits w64 n → KeptNumber n (shortest (to_be_bytes w64 (of_z w64 n)))
kept_number n f = rw (eight_be n) (record { form = refl; read = number_of-kept_of n f; smallest = kept_of-smallest n f })

pub held_width : (xs : List ℕ) → eight_bytes (signed (shortest xs)) ≡ xs → is_width (length (shortest xs)) ≡ true
held_width xs e = subst (λ (ys : List ℕ). is_width (length (shortest ys)) ≡ true) e (eight_kept (signed (shortest xs))).smallest.width

pub held_short : (xs : List ℕ) → eight_bytes (signed (shortest xs)) ≡ xs → spare_half (shortest xs) ≡ false
held_short xs e =
    let n = signed (shortest xs) in
    subst (λ (ys : List ℕ). spare_half (shortest ys) ≡ false) e (shortest-stops (eight_bytes n) (eight_bytes_lem n) (eight-width n))
