-- The entries of a payload, a line each.
use Rattle.std.specs.Prelude.{ℕ, zero, suc, ◌-◌, ◌*◌, Bool, cond, ◌&&◌, List, [], ◌∷◌, ◌++◌, replicate, ℤ, Some, None, codes, decimal, Option, is_some, nat_le, nat_lt}
use Rattle.std.specs.Fmt.{signed_decimal}
use Rattle.std.specs.List.{flat_map, list_all}
use Rattle.integer.specs.Integer.{number_of}
use Rattle.tlv.specs.declared.entries.Entry.{Entry}
use Rattle.tlv.specs.Entries.{entries, value_of}
use Rattle.tlv.specs.Grammar.{within}
use Rattle.tlv.specs.Wording.{kind_text}
use Rattle.session.specs.Printed.{hex_text}

-- bytes in hexadecimal, a dash for none
abbrev pub bytes_text : List ℕ → List ℕ
bytes_text [] = codes "-"
bytes_text (b ∷ bs) = hex_text (b ∷ bs)

-- the number that a value of 1, 2, 4 or 8 bytes stands for
abbrev pub number_text : Option ℤ → List ℕ
number_text None = []
number_text (Some z) = 32 ∷ signed_decimal z

abbrev pub printable : List ℕ → Bool
printable bs = list_all (λ b. nat_le 32 b && nat_lt b 127) bs

-- a value that is printable, between quotes
abbrev pub quoted_text : List ℕ → List ℕ
quoted_text [] = []
quoted_text (b ∷ bs) = cond (printable (b ∷ bs)) (32 ∷ 34 ∷ ((b ∷ bs) ++ (34 ∷ []))) []

abbrev pub value_text : List ℕ → List ℕ
value_text v = 32 ∷ (bytes_text v ++ (number_text (number_of v) ++ quoted_text v))

-- whether an entry holds entries
abbrev pub is_holder : Entry → Bool
is_holder e = is_some (within e.kind)

-- an entry that holds entries has no value of its own to show
abbrev pub own_text : List ℕ → Entry → List ℕ
own_text bs e = cond (is_holder e) [] (value_text (value_of bs e))

abbrev pub head_text : Entry → List ℕ
head_text e = 64 ∷ (decimal e.place ++ (32 ∷ (kind_text e.kind ++ (32 ∷ decimal e.id))))

-- one entry, indented by two blanks for each level
abbrev pub entry_text : ℕ → List ℕ → Entry → List ℕ
entry_text depth bs e = replicate (2 * depth) 32 ++ (head_text e ++ (own_text bs e ++ (10 ∷ [])))

-- the entry at so many levels, and behind it what it holds
abbrev pub lines_of : (List Entry → List ℕ) → ℕ → List ℕ → Entry → List ℕ
lines_of inner depth bs e = entry_text depth bs e ++ cond (is_holder e) (inner (entries bs e.from e.to)) []

-- entries of `bs`, so many levels deep, those of a payload at no indent
unfoldable pub listing : ℕ → List ℕ → List Entry → List ℕ
listing zero bs es = []
listing (suc n) bs es = flat_map (lines_of (listing n bs) (2 - n) bs) es
