-- Lines out of bytes, one byte at a time.
use Rattle.std.specs.Prelude.{ℕ, Bool, cond, List, [], ◌∷◌, ◌++◌, length, ◌==◌, nat_le}

-- a line feed ends a line
abbrev pub is_whole : ℕ → Bool
is_whole b = b == 10

-- what is held of a line: all of it up to 16,384 bytes, and of a longer one a byte more
abbrev pub taken_in : List ℕ → ℕ → List ℕ
taken_in line b = cond (is_whole b) line (cond (nat_le (length line) 16384) (line ++ (b ∷ [])) line)
