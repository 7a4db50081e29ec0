-- THE PAYLOAD NOTATION. A reader takes a text, and gives bytes and the text that is left behind them, or
-- tells what it expected and where.
use Rattle.std.specs.Prelude.{◌≡◌, ◌<◌, ℕ, zero, suc, Bool, false, cond, not, List, [], ◌∷◌, ◌++◌, length, Some, None, Ok, Err, vec_items, codes, Option, Result, ◌==◌, nat_lt}
use Rattle.std.specs.Option.{ok_or, option_map}
use Rattle.std.specs.Result.{result_map_both}
use Rattle.tlv.specs.declared.header.Kind.{Kind}
use Rattle.tlv.specs.declared.header.Kind.TheVariants.{ObjectInstance, ResourceInstance, MultipleResource, Resource}
use Rattle.integer.specs.Integer.{kept_of}
use Rattle.tlv_writer.specs.Write.{encoded}
use Rattle.lexer.specs.declared.chars.Class.TheVariants.{Digit, Value, Quoted, Unmarked}
use Rattle.lexer.specs.declared.fault.Expected.{Expected}
use Rattle.lexer.specs.declared.fault.Expected.TheVariants as expected
use Rattle.lexer.specs.declared.fault.Misread.{Misread}
use Rattle.lexer.specs.declared.fault.Fault.{Fault}
use Rattle.lexer.specs.declared.fault.Fault.TheVariants.{Wrong, NoMemory}
use Rattle.lexer.specs.declared.fault.BadLine.{BadLine}
use Rattle.payload_text.specs.declared.piece.Piece.{Piece}
use Rattle.lexer.specs.Chars.{is_value, is_closing, front_of, rest_of, behind}
use Rattle.lexer.specs.Faults.{stopped, then, placed}
use Rattle.lexer.specs.Hex.{hex_of}
use Rattle.lexer.specs.Numbers.{number_of, decimal_of}
use Rattle.lexer.specs.Words.{same, skip_blanks}

-- bytes, and the text that is left
abbrev pub Part : Type 0
Part = Result (List ℕ × List ℕ) Misread

-- whether a text has a first character, of which `P` holds
abbrev pub begins : (ℕ → Bool) → List ℕ → Bool
begins P [] = false
begins P (c ∷ cs) = P c

-- VALUES. Behind a value or a closing bracket comes a blank, a closing bracket, or the end.
abbrev pub end_of : List ℕ → Result (Unit {0}) Misread
end_of rest = cond (begins is_value rest) (Err (stopped expected.Blank rest)) (Ok tt)

abbrev pub ended : List ℕ → List ℕ → Part
ended bs rest = then (end_of rest) (λ u. Ok (bs, rest))

-- the bytes up to the closing quote
abbrev pub quoted_of : List ℕ → Part
quoted_of t =
    then (ok_or (behind 34 (rest_of Quoted t)) (stopped expected.ClosingQuote (rest_of Quoted t)))
    (λ rest. ended (front_of Quoted t) rest)

abbrev pub with_rest : Result (List ℕ) Misread → List ℕ → Part
with_rest r rest = then r (λ bs. Ok (bs, rest))

-- a fault of a word is told at its first character, where the text `t` is left
abbrev pub told : List ℕ → Result (List ℕ) Misread → Result (List ℕ) Misread
told t r = result_map_both (λ bs. bs) (λ e. stopped e.expected t) r

-- a number without x is in its kept form
abbrev pub hex_or_decimal : List ℕ → Option (List ℕ) → Result (List ℕ) Misread
hex_or_decimal word None = ok_or (option_map kept_of (decimal_of word)) (stopped expected.Value word)
hex_or_decimal word (Some digits) = hex_of digits

-- a word: x and pairs of hexadecimal digits, or a number
abbrev pub plain_bytes : List ℕ → Result (List ℕ) Misread
plain_bytes word = hex_or_decimal word (behind 120 word)

-- a value without quotes ends before a blank or a closing bracket
abbrev pub plain_or_quoted : List ℕ → Option (List ℕ) → Part
plain_or_quoted t None = with_rest (told t (plain_bytes (front_of Value t))) (rest_of Value t)
plain_or_quoted t (Some inside) = quoted_of inside

abbrev pub value_of : List ℕ → Part
value_of t = plain_or_quoted t (behind 34 t)

-- ENTRIES, each in its shortest form. One with a value over 16,777,215 bytes has no form; it is told at the
-- text `t`.
unfoldable pub entry_of : Kind → ℕ → List ℕ → List ℕ → Result (List ℕ) Misread
entry_of k id t v = cond (nat_lt (length v) 16777216) (Ok (encoded k id v)) (Err (stopped expected.ShorterValue t))

-- an entry whose value are the bytes of a part
abbrev pub packed : Kind → ℕ → List ℕ → Part → Part
packed k id t part = then part (λ p. with_rest (entry_of k id t p.0) p.1)

-- the number at the front, and the text behind it
abbrev pub numbered_of : List ℕ → Result (ℕ × List ℕ) Misread
numbered_of t =
    then (ok_or (number_of 65535 (front_of Digit t)) (stopped expected.Number t)) (λ id. Ok (id, rest_of Digit t))

-- a Resource Instance: number ":" value
abbrev pub element_of : List ℕ → Part
element_of t =
    then (numbered_of t) (λ n.
    then (ok_or (behind 58 n.1) (stopped expected.Colon n.1)) (λ v.
    packed ResourceInstance n.0 t (value_of v)))

-- SEQUENCES of what `item` reads, up to a closing bracket or the end
abbrev pub Reader : Type 0
Reader = List ℕ → Part

-- another item begins where neither the end is nor a closing bracket
abbrev pub goes_on : List ℕ → Bool
goes_on t = begins (λ c. not (is_closing c)) t

-- `acc` and the bytes of the items from here on; `more` goes on behind the first
abbrev pub items_at : Reader → (List ℕ → List ℕ → Part) → List ℕ → List ℕ → Part
items_at item more acc t = cond (goes_on t) (then (item t) (λ p. more (acc ++ p.0) p.1)) (Ok (acc, t))

-- at most `n` items; blanks may stand before each, and behind the last
abbrev pub items_by : Reader → ℕ → List ℕ → List ℕ → Part
items_by item zero acc t = Err (stopped expected.End t)
items_by item (suc n) acc t = items_at item (items_by item n) acc (skip_blanks t)

-- a text has no more items than characters, so that bound is never met
unfoldable pub items_of : Reader → Reader
items_of item t = items_by item (suc (length t)) [] t

-- items up to the bracket `close`
abbrev pub block_of : Reader → ℕ → Expected → Reader
block_of item close e t =
    then (items_of item t) (λ p.
    then (ok_or (behind close p.1) (stopped e p.1)) (λ rest.
    ended p.0 rest))

abbrev pub single_or_multiple : List ℕ → ℕ × List ℕ → Option (List ℕ) → Option (List ℕ) → Part
single_or_multiple t n (Some v) inside = packed Resource n.0 t (value_of v)
single_or_multiple t n None (Some inside) =
    packed MultipleResource n.0 t (block_of element_of 93 expected.ClosingBracket inside)
single_or_multiple t n None None = Err (stopped expected.ColonOrBracket n.1)

-- number ":" value, or number "[" elements "]"
abbrev pub resource_of : List ℕ → Part
resource_of t = then (numbered_of t) (λ n. single_or_multiple t n (behind 58 n.1) (behind 91 n.1))

-- an Object Instance, behind its "@": number "{" resources "}"
abbrev pub instance_of : List ℕ → Part
instance_of t =
    then (numbered_of t) (λ n.
    then (ok_or (behind 123 n.1) (stopped expected.OpeningBrace n.1)) (λ inside.
    packed ObjectInstance n.0 t (block_of resource_of 125 expected.ClosingBrace inside)))

abbrev pub instance_or_resource : List ℕ → Option (List ℕ) → Part
instance_or_resource t None = resource_of t
instance_or_resource t (Some rest) = instance_of rest

abbrev pub payload_entry_of : List ℕ → Part
payload_entry_of t = instance_or_resource t (behind 64 t)

-- the entries of a payload, up to its end
abbrev pub all_read : List ℕ → List ℕ → Result (List ℕ) Misread
all_read bs rest = cond (length rest == 0) (Ok bs) (Err (stopped expected.End rest))

abbrev pub entries_of : List ℕ → Result (List ℕ) Misread
entries_of t = then (items_of payload_entry_of t) (λ p. all_read p.0 p.1)

-- a text with a mark in it is entries
abbrev pub has_mark : List ℕ → Bool
has_mark t = not (length (rest_of Unmarked t) == 0)

abbrev pub bytes_of : List ℕ → Result (List ℕ) Misread
bytes_of t = cond (same t (codes "-")) (Ok []) (cond (has_mark t) (entries_of t) (hex_of t))

-- THE BYTES OF A PAYLOAD'S TEXT, or the part of the text that is at fault. Nothing and - are no bytes.
abbrev pub payload_of : List ℕ → Result (List ℕ) BadLine
payload_of t = placed t (bytes_of t)

-- a reader in code gives such a part, with fewer than `n` bytes of text left (so no instance of `Gives`,
-- which tells of bytes alone); or its fault, or want of memory, which says nothing of the text
abbrev pub GivesPart : Result Piece (Fault Misread) → Part → ℕ → Type 0
GivesPart (Ok p) m n = (m ≡ Ok (vec_items p.bytes, p.rest.now)) × (length p.rest.now < n)
GivesPart (Err (Wrong e)) m n = m ≡ Err e
GivesPart (Err (NoMemory e)) m n = Unit {0}
