-- The header of an entry: a type byte, an identifier, and a length field.
use Rattle.std.specs.Prelude.{ℕ, zero, suc, ◌+◌, ◌*◌, ◌/◌, ◌%◌, cond, List, [], ◌∷◌, ◌++◌, length, Some, None, Ok, Err, Option, Result, ◌==◌, nat_lt}
use Rattle.reason.specs.declared.Reason.{Reason}
use Rattle.reason.specs.declared.Reason.TheVariants.{DoesNotFit}
use Rattle.tlv.specs.declared.header.Kind.{Kind}
use Rattle.tlv.specs.declared.header.Kind.TheVariants.{ObjectInstance, ResourceInstance, MultipleResource, Resource}
use Rattle.tlv.specs.declared.header.Header.{Header}

-- bits 7 and 6 of the type byte
abbrev pub kind_number : Kind → ℕ
kind_number ObjectInstance = 0
kind_number ResourceInstance = 1
kind_number MultipleResource = 2
kind_number Resource = 3

abbrev pub kind_of : ℕ → Kind
kind_of t =
    cond (t / 64 == 0) ObjectInstance
    (cond (t / 64 == 1) ResourceInstance (cond (t / 64 == 2) MultipleResource Resource))

-- THE SHORTEST FORM: an identifier of one byte up to 255, the fewest length bytes, ignored bits clear.
-- A length below 8 has no bytes of its own: it stands in bits 2 to 0 of the type byte.
abbrev pub short_id : ℕ → List ℕ
short_id id = cond (nat_lt id 256) (id ∷ []) (id / 256 ∷ id % 256 ∷ [])

abbrev pub short_length : ℕ → List ℕ
short_length n =
    cond (nat_lt n 8) []
    (cond (nat_lt n 256) (n ∷ [])
    (cond (nat_lt n 65536) (n / 256 ∷ n % 256 ∷ []) (n / 65536 ∷ n / 256 % 256 ∷ n % 256 ∷ [])))

-- bit 5 tells a wide identifier, bits 4 and 3 the number of length bytes
abbrev pub short_type : Kind → ℕ → ℕ → ℕ
short_type k id n =
    kind_number k * 64 + cond (nat_lt id 256) 0 32
    + cond (nat_lt n 8) n (cond (nat_lt n 256) 8 (cond (nat_lt n 65536) 16 24))

abbrev pub short_header : Kind → ℕ → ℕ → List ℕ
short_header k id n = short_type k id n ∷ (short_id id ++ short_length n)

-- the type byte and the header's length; a value over 16,777,215 bytes has no header
abbrev pub header_answer : Kind → ℕ → ℕ → Result (ℕ × ℕ) Reason
header_answer k id n =
    cond (nat_lt n 16777216) (Ok (short_type k id n, length (short_header k id n))) (Err DoesNotFit)

-- READING takes every form. A number of the given count of bytes, high bytes first, on from `acc`.
abbrev pub big_endian : ℕ → List ℕ → ℕ → Option ℕ
big_endian zero xs acc = Some acc
big_endian (suc n) [] acc = None
big_endian (suc n) (x ∷ xs) acc = big_endian n xs (acc * 256 + x)

abbrev pub headed : ℕ → ℕ → ℕ → Option ℕ → Option Header
headed t id size None = None
headed t id size (Some n) = Some (record { kind = kind_of t; id = id; size = size; len = n })

-- the length behind type and identifier, which took `used` bytes
abbrev pub read_length : ℕ → ℕ → ℕ → List ℕ → Option Header
read_length t id used xs =
    headed t id (used + t / 8 % 4) (cond (t / 8 % 4 == 0) (Some (t % 8)) (big_endian (t / 8 % 4) xs 0))

abbrev pub read_wide : ℕ → ℕ → List ℕ → Option Header
read_wide t hi [] = None
read_wide t hi (lo ∷ xs) = read_length t (hi * 256 + lo) 3 xs

-- the header at the front of a list of bytes; none where the bytes end within it
abbrev pub read_header : List ℕ → Option Header
read_header [] = None
read_header (t ∷ []) = None
read_header (t ∷ i ∷ xs) = cond (t / 32 % 2 == 0) (read_length t i 2 xs) (read_wide t i xs)
