-- Payloads in shortest form.
use Rattle.std.specs.Prelude.{◌≡◌, ℕ, zero, suc, ◌+◌, ◌-◌, cond, List, [], ◌∷◌, length, replicate, Some, None, Ok, Err, Option, Result, nat_le}
use Rattle.std.specs.List.{between}
use Rattle.reason.specs.declared.Reason.TheVariants.{NoRoom}
use Rattle.tlv.specs.declared.header.Kind.{Kind}
use Rattle.tlv.specs.declared.entries.Entry.{Entry}
use Rattle.tlv.specs.declared.fault.CallFault.{CallFault}
use Rattle.tlv.specs.declared.fault.PayloadFault.{PayloadFault}
use Rattle.tlv.specs.declared.grammar.Container.{Container}
use Rattle.tlv.specs.Entries.{entries}
use Rattle.tlv.specs.Faults.{of_payload, of_reason}
use Rattle.tlv.specs.Grammar.{within, verdict}
use Rattle.tlv.specs.Header.{short_header}
use Rattle.tlv_writer.specs.Write.{padded}
use Rattle.tlv_shortest.specs.Items.{items, encoded_all}

-- the header of an entry has the bytes of the shortest header for its kind, identifier and length
abbrev pub ShortHeader : List ℕ → Entry → Type 0
ShortHeader bs e = between e.place e.from bs ≡ short_header e.kind e.id (e.to - e.from)

abbrev pub ShortInside : (ℕ → ℕ → Type 0) → Entry → Option Container → Type 0
ShortInside inner e None = Unit {0}
ShortInside inner e (Some c) = inner e.from e.to

abbrev pub EachShort : (ℕ → ℕ → Type 0) → List ℕ → List Entry → Type 0
EachShort inner bs [] = Unit {0}
EachShort inner bs (e ∷ es) = ShortHeader bs e × (ShortInside inner e (within e.kind) × EachShort inner bs es)

-- every header from `at` to `end`, so many levels deep
unfoldable pub ShortTo : ℕ → List ℕ → ℕ → ℕ → Type 0
ShortTo zero bs at end = Unit {0}
ShortTo (suc n) bs at end = EachShort (ShortTo n bs) bs (entries bs at end)

-- SHORTEST: every header of a payload, at every level
abbrev pub Shortest : List ℕ → Type 0
Shortest bs = ShortTo 3 bs 0 (length bs)

-- A payload's shortest form: the same entries, written in shortest form.
abbrev pub shortest_form : List ℕ → List ℕ
shortest_form bs = encoded_all (items bs)

-- the length of an entry in shortest form, whose value has `n` bytes
abbrev pub item_length : Kind → ℕ → ℕ → ℕ
item_length k id n = length (short_header k id n) + n

-- what writing it into a buffer of `room` bytes is answered: its length, or the refusal
abbrev pub form_answer : ℕ → List ℕ → Result (Unit {0}) PayloadFault → Result ℕ CallFault
form_answer room form (Ok u) = cond (nat_le (length form) room) (Ok (length form)) (Err (of_reason NoRoom))
form_answer room form (Err e) = Err (of_payload e)

abbrev pub shortest_answer : ℕ → List ℕ → Result ℕ CallFault
shortest_answer room bs = form_answer room (shortest_form bs) (verdict bs)

-- what it leaves in the buffer: the form and zeros behind it, or zeros alone where it is refused
abbrev pub shortest_leaves : Result ℕ CallFault → ℕ → List ℕ → List ℕ
shortest_leaves (Ok n) room bs = padded room (shortest_form bs)
shortest_leaves (Err e) room bs = replicate room 0
