-- Numbers as they are written.
use Rattle.std.specs.Prelude.{◌≡◌, ℕ, ◌+◌, ◌-◌, ◌*◌, Bool, true, false, cond, not, List, [], ◌∷◌, ℤ, pos, neg_ℤ, Some, None, Ok, Err, Option, Result, ◌==◌, nat_le}
use Rattle.std.specs.Option.{option_map}
use Rattle.lexer.specs.Chars.{is_digit, behind}

-- the number of decimal digits that stand behind those of `n`; none where another character is among them
unfoldable pub digits_on : ℕ → List ℕ → Option ℕ
digits_on n [] = Some n
digits_on n (c ∷ cs) = cond (is_digit c) (digits_on (n * 10 + (c - 48)) cs) None

-- a number has a character at least, and no leading zero: 0 stands alone
unfoldable pub leads : List ℕ → Bool
leads [] = false
leads (c ∷ []) = true
leads (c ∷ d ∷ ds) = not (c == 48)

abbrev pub at_most : ℕ → Option ℕ → Option ℕ
at_most most None = None
at_most most (Some n) = cond (nat_le n most) (Some n) None

abbrev pub number_of : ℕ → List ℕ → Option ℕ
number_of most t = cond (leads t) (at_most most (digits_on 0 t)) None

-- the text without its sign, if it has one, tells the number below zero
abbrev pub signed_of : List ℕ → Option (List ℕ) → Option ℤ
signed_of t None = option_map pos (number_of 9223372036854775807 t)
signed_of t (Some digits) = option_map (λ n. neg_ℤ (pos n)) (number_of 9223372036854775808 digits)

-- a signed number of 64 bits
abbrev pub decimal_of : List ℕ → Option ℤ
decimal_of t = signed_of t (behind 45 t)

-- what a type makes of a number, where there is one
abbrev pub Narrowed : {N E : Type 0} → (ℕ → Result N E → Type 0) → Option ℕ → Option N → Type 0
Narrowed gives None r = r ≡ None
Narrowed gives (Some n) (Some x) = gives n (Ok x)
Narrowed {E = E} gives (Some n) None = (e : E) × gives n (Err e)
