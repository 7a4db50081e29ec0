-- Classes of characters.
use Rattle.std.specs.Prelude.{ℕ, Bool, cond, not, ◌&&◌, ◌||◌, List, [], ◌∷◌, take, drop, Some, None, Option, ◌==◌, nat_le}
use Rattle.std.specs.List.{prefix_len}
use Rattle.lexer.specs.declared.chars.Class.{Class}
use Rattle.lexer.specs.declared.chars.Class.TheVariants.{Blank, Digit, Word, Value, Closing, Quoted, Unmarked}

-- space, tab, carriage return
abbrev pub is_blank : ℕ → Bool
is_blank c = c == 32 || (c == 9 || c == 13)

abbrev pub is_digit : ℕ → Bool
is_digit c = nat_le 48 c && nat_le c 57

-- ] and }
abbrev pub is_closing : ℕ → Bool
is_closing c = c == 93 || c == 125

-- no blank
abbrev pub is_word : ℕ → Bool
is_word c = not (is_blank c)

-- what a value without quotes is made of
abbrev pub is_value : ℕ → Bool
is_value c = not (is_blank c || is_closing c)

abbrev pub is_quoted : ℕ → Bool
is_quoted c = not (c == 34)

-- colon, [ and @, by which entries are told from pairs of hexadecimal digits
abbrev pub is_mark : ℕ → Bool
is_mark c = c == 58 || (c == 91 || c == 64)

abbrev pub in_class : Class → ℕ → Bool
in_class Blank c = is_blank c
in_class Digit c = is_digit c
in_class Word c = is_word c
in_class Value c = is_value c
in_class Closing c = is_closing c
in_class Quoted c = is_quoted c
in_class Unmarked c = not (is_mark c)

-- the longest front of characters of a class, and what stands behind it
unfoldable pub front_of : Class → List ℕ → List ℕ
front_of k t = take (prefix_len (in_class k) t) t

unfoldable pub rest_of : Class → List ℕ → List ℕ
rest_of k t = drop (prefix_len (in_class k) t) t

-- the text behind the character `c`, if it begins with that
abbrev pub behind : ℕ → List ℕ → Option (List ℕ)
behind c [] = None
behind c (x ∷ xs) = cond (x == c) (Some xs) None
