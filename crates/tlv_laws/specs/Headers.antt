-- Headers in any form, and the shortest of them.
use Rattle.std.specs.Prelude.{◌≡◌, ℕ, ◌<◌, ◌≤◌, List, ◌++◌, length, Some}
use Rattle.integer.specs.Integer.{Bytes}
use Rattle.tlv.specs.declared.header.Kind.{Kind}
use Rattle.tlv.specs.Header.{read_header, short_header}

-- `hd` is a header, in whatever form, of an entry of kind `k` with identifier `id` and a value of `n` bytes:
-- it is read as that and no further, whatever follows it
abbrev pub Heads : List ℕ → Kind → ℕ → ℕ → Type 0
Heads hd k id n = (xs : List ℕ) → read_header (hd ++ xs) ≡ Some (record { kind = k; id = id; size = length hd; len = n })

-- THE SHORTEST HEADER deserves its name: for an identifier of 16 bits and a length of 24 bits it is one of
-- their headers, and no header for the same entry, in whatever form, is shorter.
pub record ShortestHeader : Type 0 where
  pub is-header : (k : Kind) (id n : ℕ) → id < 65536 → n < 16777216 → Heads (short_header k id n) k id n
  pub no_shorter : (hd : List ℕ) (k : Kind) (id n : ℕ) → Bytes hd → Heads hd k id n → length (short_header k id n) ≤ length hd
