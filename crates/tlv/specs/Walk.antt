-- Walking the entries of a container.
use Rattle.std.specs.Prelude.{◌≡◌, ℕ, List, Option}
use Rattle.std.specs.Iterator.{YieldsFirst}
use Rattle.tlv.specs.declared.entries.Entry.{Entry}
use Rattle.tlv.specs.declared.walk.Entries.{Entries}
use Rattle.tlv.specs.Entries.{entries}

-- the bytes in which they lie
abbrev pub walked : Entries → List ℕ
walked s = s.bytes.now

-- the entries that are still to come
abbrev pub entries_left : Entries → List Entry
entries_left s = entries (walked s) s.at s.end

-- A step gives the first of the entries that were to come, of the same bytes.
abbrev pub Steps : Entries → Option Entry → Entries → Type 0
Steps s r t = YieldsFirst entries_left s r t × (walked t ≡ walked s)
