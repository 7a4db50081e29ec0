-- What a payload says, whatever form its headers have: its entries with all that lies in them.
use Rattle.std.specs.Prelude.{ℕ, zero, suc, List, [], ◌∷◌, ◌++◌, length, Some, None, Option}
use Rattle.tlv.specs.declared.header.Kind.{Kind}
use Rattle.tlv.specs.declared.entries.Entry.{Entry}
use Rattle.tlv.specs.declared.grammar.Container.{Container}
use Rattle.tlv.specs.Header.{short_header}
use Rattle.tlv.specs.Entries.{entries, value_of}
use Rattle.tlv.specs.Grammar.{within}

-- The entries of a container, first to last: an entry has a kind, an identifier, and either
-- bytes for a value (`plain`) or entries of its own (`holder`).
pub data Items : Type 0 where
  none : Items
  plain : Kind → ℕ → List ℕ → Items → Items
  holder : Kind → ℕ → Items → Items → Items

-- one entry of bytes `bs`, read with what lies in it, in front of those behind it
abbrev pub item : (ℕ → ℕ → Items) → List ℕ → Entry → Option Container → Items → Items
item inner bs e None rest = plain e.kind e.id (value_of bs e) rest
item inner bs e (Some c) rest = holder e.kind e.id (inner e.from e.to) rest

abbrev pub items_of : (ℕ → ℕ → Items) → List ℕ → List Entry → Items
items_of inner bs [] = none
items_of inner bs (e ∷ es) = item inner bs e (within e.kind) (items_of inner bs es)

-- the entries from `at` to `end`, so many levels deep
unfoldable pub items_to : ℕ → List ℕ → ℕ → ℕ → Items
items_to zero bs at end = none
items_to (suc n) bs at end = items_of (items_to n bs) bs (entries bs at end)

-- the items of a list of entries, so many levels deep
abbrev pub items_from : ℕ → List ℕ → List Entry → Items
items_from zero bs es = none
items_from (suc n) bs es = items_of (items_to n bs) bs es

-- A WHOLE PAYLOAD: a payload, an Object Instance in it and a multiple Resource in that make three levels.
abbrev pub items : List ℕ → Items
items bs = items_to 3 bs 0 (length bs)

-- Entries written in shortest form: for each its shortest header, its value, and those behind it.
abbrev pub encoded_all : Items → List ℕ
encoded_all none = []
encoded_all (plain k id v rest) = short_header k id (length v) ++ (v ++ encoded_all rest)
encoded_all (holder k id inner rest) = short_header k id (length (encoded_all inner)) ++ (encoded_all inner ++ encoded_all rest)
