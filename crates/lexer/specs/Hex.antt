-- Bytes as pairs of hexadecimal digits.
use Rattle.std.specs.Prelude.{ℕ, ◌+◌, ◌-◌, ◌*◌, cond, ◌&&◌, List, [], ◌∷◌, ◌++◌, Some, None, Ok, Err, Option, Result, nat_le}
use Rattle.lexer.specs.declared.fault.Expected.TheVariants.{HexPair}
use Rattle.lexer.specs.declared.fault.Misread.{Misread}
use Rattle.lexer.specs.Faults.{stopped}
use Rattle.lexer.specs.Chars.{is_blank, is_digit}

-- 0 to 9, and A to F in either case
abbrev pub hex_digit : ℕ → Option ℕ
hex_digit c =
    cond (is_digit c) (Some (c - 48))
    (cond (nat_le 65 c && nat_le c 70) (Some (c - 55)) (cond (nat_le 97 c && nat_le c 102) (Some (c - 87)) None))

abbrev pub paired : Option ℕ → Option ℕ → Option ℕ
paired None b = None
paired (Some x) None = None
paired (Some x) (Some y) = Some (x * 16 + y)

-- the byte of two digits, the high one first
abbrev pub pair_of : ℕ → ℕ → Option ℕ
pair_of a b = paired (hex_digit a) (hex_digit b)

-- what `more` makes of a byte, if there is one
abbrev pub with_byte : Option ℕ → Misread → (ℕ → Result (List ℕ) Misread) → Result (List ℕ) Misread
with_byte None e more = Err e
with_byte (Some x) e more = more x

-- the bytes `acc` and those of the text behind them: pairs of digits, with blanks between the pairs or none
abbrev pub hex_on : List ℕ → List ℕ → Result (List ℕ) Misread
hex_on acc [] = Ok acc
hex_on acc (a ∷ []) = cond (is_blank a) (Ok acc) (Err (stopped HexPair (a ∷ [])))
hex_on acc (a ∷ b ∷ cs) =
    cond (is_blank a) (hex_on acc (b ∷ cs))
    (with_byte (pair_of a b) (stopped HexPair (a ∷ b ∷ cs)) (λ x. hex_on (acc ++ x ∷ []) cs))

unfoldable pub hex_of : List ℕ → Result (List ℕ) Misread
hex_of t = hex_on [] t
