-- Integers in two's complement, high byte first, of 1, 2, 4 or 8 bytes.
use Rattle.std.specs.Prelude.{ℕ, zero, suc, ◌-◌, ◌/◌, ◌%◌, ◌^◌, ◌<◌, Bool, cond, ◌&&◌, ◌||◌, List, [], ◌∷◌, ◌++◌, length, take, drop, ℤ, pos, negsuc, ◌+ℤ◌, ◌*ℤ◌, Some, None, Option, ◌==◌, nat_lt, slice_index}
use Rattle.std.specs.List.{list_all}

-- Each element is the value of a byte.
abbrev pub Bytes : List ℕ → Type 0
Bytes xs = (k : ℕ) → slice_index xs k < 256

-- The number that one byte stands for.
abbrev pub signed_byte : ℕ → ℤ
signed_byte b = cond (nat_lt b 128) (pos b) (negsuc (255 - b))

-- The number z with more bytes behind it.
abbrev pub onward : ℤ → List ℕ → ℤ
onward z [] = z
onward z (x ∷ xs) = onward (z *ℤ pos 256 +ℤ pos x) xs

-- The number that bytes stand for, however many they are.
unfoldable pub signed : List ℕ → ℤ
signed [] = pos 0
signed (x ∷ xs) = onward (signed_byte x) xs

-- The widths of integers, in bytes.
unfoldable pub is_width : ℕ → Bool
is_width n = n == 1 || n == 2 || n == 4 || n == 8

-- The number of an integer; none where the bytes are not as many as a width.
abbrev pub number_of : List ℕ → Option ℤ
number_of xs = cond (is_width (length xs)) (Some (signed xs)) None

-- The byte that repeats the sign of b: in front of b it changes no number.
abbrev pub fill_of : ℕ → ℕ
fill_of b = cond (nat_lt b 128) 0 255

-- Whether there is a high half that only repeats the sign of the low half.
unfoldable pub spare_half : List ℕ → Bool
spare_half xs = nat_lt 1 (length xs) && list_all (λ x. x == fill_of (slice_index xs (length xs / 2))) (take (length xs / 2) xs)

-- The bytes without their high half while it is spare, at most n times.
abbrev pub halved : ℕ → List ℕ → List ℕ
halved zero xs = xs
halved (suc n) xs = cond (spare_half xs) (halved n (drop (length xs / 2) xs)) xs

-- As often as it goes: never as often as there are bytes.
unfoldable pub shortest : List ℕ → List ℕ
shortest xs = halved (length xs) xs

-- The kept form of an integer: the same number in the smallest width.
abbrev pub kept_form : List ℕ → Option (List ℕ)
kept_form xs = cond (is_width (length xs)) (Some (shortest xs)) None

-- The n low bytes of u, high byte first.
abbrev pub low_bytes : ℕ → ℕ → List ℕ
low_bytes zero u = []
low_bytes (suc n) u = low_bytes n (u / 256) ++ (u % 256 ∷ [])

-- A number from -2^63 to 2^63 - 1 in eight bytes.
unfoldable pub eight_bytes : ℤ → List ℕ
eight_bytes (pos n) = low_bytes 8 n
eight_bytes (negsuc n) = low_bytes 8 (2 ^ 64 - suc n)

-- The kept form of a number from -2^63 to 2^63 - 1.
abbrev pub kept_of : ℤ → List ℕ
kept_of z = shortest (eight_bytes z)
