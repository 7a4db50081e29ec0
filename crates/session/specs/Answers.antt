-- What each step answers.
use Rattle.std.specs.Prelude.{ℕ, cond, List, [], ◌∷◌, ◌++◌, length, ℤ, Ok, Err, codes, decimal, Result, nat_lt}
use Rattle.std.specs.Str.{bytes_eq}
use Rattle.reason.specs.declared.Reason.TheVariants.{DoesNotFit}
use Rattle.integer.specs.Integer.{kept_of}
use Rattle.lexer.specs.declared.fault.BadLine.{BadLine}
use Rattle.lexer.specs.declared.fault.Expected.{Expected}
use Rattle.lexer.specs.Faults.{part_of}
use Rattle.lexer.specs.Lines.{body_of}
use Rattle.payload_text.specs.Notation.{payload_of}
use Rattle.scenario.specs.Steps.{Meaning, blank, echo, say, check, header, integer}
use Rattle.lexer.specs.Wording.{words_of}
use Rattle.tlv.specs.declared.header.Kind.{Kind}
use Rattle.tlv.specs.declared.fault.CallFault.{CallFault}
use Rattle.tlv.specs.Entries.{entries}
use Rattle.tlv.specs.Faults.{lifted, of_payload, of_reason}
use Rattle.tlv.specs.Grammar.{verdict}
use Rattle.tlv.specs.Header.{short_header}
use Rattle.tlv_shortest.specs.Shortest.{shortest_form}
use Rattle.session.specs.Printed.{fault_text, hex_text}
use Rattle.session.specs.Listing.{listing}

-- the word for a payload in shortest form, or its shortest form
abbrev pub form_text : List ℕ → List ℕ
form_text bs = cond (bytes_eq (shortest_form bs) bs) (codes "shortest") (hex_text (shortest_form bs))

-- the line of a well-formed payload: its length, and its form
abbrev pub summary_text : List ℕ → List ℕ
summary_text bs = codes "well formed, " ++ (decimal (length bs) ++ (codes " bytes, " ++ (form_text bs ++ (10 ∷ []))))

-- that line, and the payload's entries
abbrev pub well_formed_text : List ℕ → List ℕ
well_formed_text bs = summary_text bs ++ listing 3 bs (entries bs 0 (length bs))

abbrev pub verdict_text : List ℕ → Result (Unit {0}) CallFault → List ℕ
verdict_text bs (Ok u) = well_formed_text bs
verdict_text bs (Err f) = fault_text f

-- `check`: the verdict on a payload, and its entries if it is well formed
abbrev pub check_text : List ℕ → List ℕ
check_text bs = verdict_text bs (lifted of_payload (verdict bs))

-- `header`: the shortest header for a kind, an identifier and a length
abbrev pub header_text : Kind → ℕ → ℕ → List ℕ
header_text k id n = cond (nat_lt n 16777216) (hex_text (short_header k id n) ++ (10 ∷ [])) (fault_text (of_reason DoesNotFit))

-- `integer`: a number as it is kept
abbrev pub integer_text : ℤ → List ℕ
integer_text z = hex_text (kept_of z) ++ (10 ∷ [])

abbrev pub part_text : List ℕ → List ℕ
part_text [] = []
part_text (c ∷ cs) = 58 ∷ 32 ∷ (c ∷ cs)

abbrev pub bad_head : ℕ → Expected → List ℕ
bad_head n e = codes "bad line " ++ (decimal n ++ (codes ": " ++ words_of e))

-- a bad line: its number, what was expected, and the part of the text at fault
abbrev pub bad_text : ℕ → BadLine → List ℕ → List ℕ
bad_text n b text = bad_head n b.expected ++ (part_text (part_of b text) ++ (10 ∷ []))

abbrev pub payload_text : ℕ → List ℕ → Result (List ℕ) BadLine → List ℕ
payload_text n text (Ok bs) = check_text bs
payload_text n text (Err b) = bad_text n b text

-- line `n` asks for this
abbrev pub meaning_text : ℕ → Meaning → List ℕ
meaning_text n blank = []
meaning_text n (echo on) = []
meaning_text n (say t) = t ++ (10 ∷ [])
meaning_text n (check t) = payload_text n t (payload_of t)
meaning_text n (header k id len) = header_text k id len
meaning_text n (integer z) = integer_text z

abbrev pub line_text : ℕ → List ℕ → Result Meaning BadLine → List ℕ
line_text n line (Ok m) = meaning_text n m
line_text n line (Err b) = bad_text n b (body_of line)
