-- A line: its comment, its blanks, and what makes it text.
use Rattle.std.specs.Prelude.{◌≡◌, ℕ, suc, ◌-◌, Bool, true, false, cond, not, ◌&&◌, ◌||◌, List, [], ◌∷◌, length, take, IsUtf8, ◌==◌, nat_le, nat_lt}
use Rattle.std.specs.List.{suffix_len}
use Rattle.std.specs.Char.{is_control}
use Rattle.lexer.specs.Chars.{is_blank}

-- whether a double quote is open behind `c`
abbrev pub quoted_behind : Bool → ℕ → Bool
quoted_behind quoted c = cond (c == 34) (not quoted) quoted

-- how many bytes stand before the comment, which a # outside double quotes begins
abbrev pub comment_at : Bool → List ℕ → ℕ
comment_at quoted [] = 0
comment_at quoted (c ∷ cs) = cond (c == 35 && not quoted) 0 (suc (comment_at (quoted_behind quoted c) cs))

-- without the blanks at the end
abbrev pub trimmed_of : List ℕ → List ℕ
trimmed_of t = take (length t - suffix_len is_blank t) t

-- the line without its comment and the blanks at its end
abbrev pub body_of : List ℕ → List ℕ
body_of line = trimmed_of (take (comment_at false line) line)

-- whether a character is no control character, tab and carriage return apart
abbrev pub plain : ℕ → Bool
plain c = not (is_control c) || (c == 9 || c == 13)

-- The same told by bytes: whether `c`, behind `previous`, is no part of a control character: those are 0 to
-- 31, tab and carriage return apart, 127, and 128 to 159, which UTF-8 writes as 194 and the number.
abbrev pub plain_after : ℕ → ℕ → Bool
plain_after previous c =
    cond (nat_lt c 32) (c == 9 || c == 13) (not (c == 127) && not (previous == 194 && (nat_le 128 c && nat_le c 159)))

abbrev pub plain_from : ℕ → List ℕ → Bool
plain_from previous [] = true
plain_from previous (c ∷ cs) = plain_after previous c && plain_from c cs

abbrev pub Text : List ℕ → Type 0
Text line = IsUtf8 line × (plain_from 0 line ≡ true)
