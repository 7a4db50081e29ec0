-- The entries of a container, as far as they can be read.
use Rattle.std.specs.Prelude.{◌≡◌, ℕ, zero, suc, ◌+◌, ◌-◌, ◌≤◌, cond, List, [], ◌∷◌, length, Some, None, Option, nat_le}
use Rattle.std.specs.List.{between}
use Rattle.tlv.specs.declared.header.Header.{Header}
use Rattle.tlv.specs.declared.entries.Entry.{Entry}
use Rattle.tlv.specs.Header.{read_header}

-- the entry whose header lies at `at`: its value is what follows the header
abbrev pub placed_at : ℕ → Header → Entry
placed_at at h = record { kind = h.kind; id = h.id; place = at; from = at + h.size; to = at + h.size + h.len }

-- the entry of a header at `at` in a container that ends at `end`, which its value may not pass
abbrev pub located : ℕ → ℕ → Option Header → Option Entry
located at end None = None
located at end (Some h) = cond (nat_le (at + h.size + h.len) end) (Some (placed_at at h)) None

-- the entry at `at` of bytes `bs`; its value is what lies from `from` to `to` in the same bytes
unfoldable pub entry_at : List ℕ → ℕ → ℕ → Option Entry
entry_at bs at end = cond (nat_le end (length bs)) (located at end (read_header (between at end bs))) None

abbrev pub chained : (ℕ → List Entry) → Option Entry → List Entry
chained go None = []
chained go (Some e) = e ∷ go e.to

-- an entry has two bytes or more, so the container's length is enough as the number of steps
unfoldable pub entries_by : ℕ → List ℕ → ℕ → ℕ → List Entry
entries_by zero bs at end = []
entries_by (suc n) bs at end = chained (λ next. entries_by n bs next end) (entry_at bs at end)

-- THE ENTRIES that lie from `at` to `end`, one behind the other
unfoldable pub entries : List ℕ → ℕ → ℕ → List Entry
entries bs at end = entries_by (end - at) bs at end

abbrev pub value_of : List ℕ → Entry → List ℕ
value_of bs e = between e.from e.to bs

-- what is known of an entry that was read
pub record Located (bs : List ℕ) (at end : ℕ) (e : Entry) : Type 0 where
  pub placed : e.place ≡ at
  pub headed : at + 2 ≤ e.from
  pub valued : e.from ≤ e.to
  pub inside : e.to ≤ end
  pub whole : end ≤ length bs
