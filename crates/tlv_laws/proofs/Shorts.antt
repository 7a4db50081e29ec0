-- The shortest header is read back, made of bytes, and longer for a longer value alone.
use Rattle.std.proofs.Common.{◌≡◌, ℕ, suc, ◌/◌, ◌%◌, ◌<◌, ◌≤◌, cond, ltb, List, [], ◌∷◌, ◌++◌, length, Some, arith, length-append}
use Rattle.std.proofs.lemmas.Bool.Decides.{nat_tests}
use Rattle.std.proofs.lemmas.Grind.{common_steps}
use Rattle.integer.specs.Integer.{Bytes}
use Rattle.tlv.specs.declared.header.Kind.{Kind}
use Rattle.tlv.specs.Header.{kind_of, short_id, short_length, short_type, short_header, read_header}
use Rattle.tlv_laws.specs.Headers.{Heads}
use Rattle.tlv_laws.proofs.Bytes.{bytes_both}

-- how many bytes the length field has, and what bits 2 to 0 of the type byte say
abbrev length_size : ℕ → ℕ
length_size n = cond (ltb n 8) 0 (cond (ltb n 256) 1 (cond (ltb n 65536) 2 3))

abbrev low : ℕ → ℕ
low n = cond (ltb n 8) n 0

-- A type byte with these bits is read with what is behind it.
head_back : (t : ℕ) (k : Kind) (id n : ℕ) (rest : List ℕ) → id < 65536 → n < 16777216
    → t / 32 % 2 ≡ cond (ltb id 256) 0 1 → t / 8 % 4 ≡ length_size n → t % 8 ≡ low n → kind_of t ≡ k
    → read_header (t ∷ ((short_id id ++ short_length n) ++ rest))
    ≡ Some (record { kind = k; id = id; size = suc (length (short_id id ++ short_length n)); len = n })
head_back t k id n rest h m a b c d = grind (arith, nat_tests)

type_kind : (k : Kind) (id n : ℕ) → kind_of (short_type k id n) ≡ k
type_kind k id n = grind (arith, nat_tests)

pub short_heads : (k : Kind) (id n : ℕ) → id < 65536 → n < 16777216 → Heads (short_header k id n) k id n
short_heads k id n h m rest =
    head_back (short_type k id n) k id n rest h m (grind (arith, nat_tests)) (grind (arith, nat_tests)) (grind (arith, nat_tests)) (type_kind k id n)

bytes_type : (k : Kind) (id n : ℕ) → Bytes (short_type k id n ∷ [])
bytes_type k id n j = grind (arith, nat_tests, common_steps)

bytes_id : (id : ℕ) → id < 65536 → Bytes (short_id id)
bytes_id id h j = grind (arith, nat_tests, common_steps)

bytes_length : (n : ℕ) → n < 16777216 → Bytes (short_length n)
bytes_length n h j = grind (arith, nat_tests, common_steps)

pub bytes_short : (k : Kind) (id n : ℕ) → id < 65536 → n < 16777216 → Bytes (short_header k id n)
bytes_short k id n h m =
    bytes_both (short_type k id n ∷ []) (short_id id ++ short_length n) (bytes_type k id n)
    (bytes_both (short_id id) (short_length n) (bytes_id id h) (bytes_length n m))

-- A shorter value has no longer header.
pub shorter_header : (k : Kind) (id m n : ℕ) → m ≤ n → length (short_header k id m) ≤ length (short_header k id n)
shorter_header k id m n h =
    let l : length (short_length m) ≤ length (short_length n) = grind (arith, nat_tests) in
    omega (arith, length-append (short_id id) (short_length m), length-append (short_id id) (short_length n))
