-- Words, and the blanks between them.
use Rattle.std.specs.Prelude.{ℕ, Bool, List}
use Rattle.std.specs.Str.{bytes_eq}
use Rattle.lexer.specs.declared.chars.Class.TheVariants.{Blank, Word}
use Rattle.lexer.specs.Chars.{front_of, rest_of}

-- whether a word is the one named
abbrev pub same : List ℕ → List ℕ → Bool
same word name = bytes_eq word name

abbrev pub skip_blanks : List ℕ → List ℕ
skip_blanks t = rest_of Blank t

-- the word at the front of a text
abbrev pub word_of : List ℕ → List ℕ
word_of t = front_of Word t

-- what stands behind that word and the blanks that follow it
abbrev pub behind_word : List ℕ → List ℕ
behind_word t = skip_blanks (rest_of Word t)
