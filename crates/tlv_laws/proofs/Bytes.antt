-- Lists of bytes, put together and taken apart.
use Rattle.std.proofs.Common.{◌≡◌, ℕ, ◌+◌, List, ◌++◌, length, arith}
use Rattle.std.proofs.lemmas.Grind.{common_steps}
use Rattle.std.proofs.lemmas.List.{take_at, drop_at, get_or_append_left, get_or-append-add, get_or_past}
use Rattle.integer.specs.Integer.{Bytes}

-- Lists that are put together from parts of the same lengths have the same parts.
pub same_parts : (a b c d : List ℕ) → a ++ b ≡ c ++ d → length a ≡ length c → (a ≡ c) × (b ≡ d)
same_parts a b c d e l = grind (arith, take_at a b (length a), take_at c d (length a), drop_at a b (length a), drop_at c d (length a))

pub bytes_front : (a b : List ℕ) → Bytes (a ++ b) → Bytes a
bytes_front a b h k = grind (arith, get_or_append_left, get_or_past)

pub bytes_rest : (a b : List ℕ) → Bytes (a ++ b) → Bytes b
bytes_rest a b h k = grind (arith, get_or-append-add, h (length a + k))

pub bytes_both : (a b : List ℕ) → Bytes a → Bytes b → Bytes (a ++ b)
bytes_both a b g h k = grind (arith, common_steps)
