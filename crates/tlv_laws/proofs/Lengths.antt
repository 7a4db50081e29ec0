-- A shortest form is no longer than what it was read from, at any depth, whether that is well formed or not.
use Rattle.std.proofs.Common.{◌≡◌, ℕ, zero, suc, ◌-◌, ◌<◌, ◌≤◌, List, ◌++◌, length, Some, None, Option, sym, refl, ap, arith, length-append}
use Rattle.std.proofs.lemmas.Grind.{common_steps}
use Rattle.std.proofs.lemmas.List.Edits.{length-between}
use Rattle.std.specs.List.{between}
use Rattle.integer.specs.Integer.{Bytes}
use Rattle.tlv.specs.declared.entries.Entry.{Entry}
use Rattle.tlv.specs.declared.grammar.Container.{Container}
use Rattle.tlv.specs.Header.{short_header}
use Rattle.tlv.specs.Entries.{entry_at, entries, value_of, Located}
use Rattle.tlv.specs.Grammar.{within}
use Rattle.tlv.proofs.Walks.{entries-more, entries_none, entry_known}
use Rattle.tlv_shortest.specs.Items.{Items, none, item, items_of, items_to, encoded_all}
use Rattle.tlv_laws.proofs.Shorts.{shorter_header}
use Rattle.tlv_laws.proofs.Headers.{heads_least}
use Rattle.tlv_laws.proofs.Regions.{entry_heads}

bytes_between : (bs : List ℕ) (at end : ℕ) → Bytes bs → Bytes (between at end bs)
bytes_between bs at end b k = grind (arith, common_steps)

-- The header of an entry is no shorter than the shortest.
pub header-least : (bs : List ℕ) (at end : ℕ) (e : Entry) → Bytes bs → entry_at bs at end ≡ Some e
    → length (short_header e.kind e.id (e.to - e.from)) ≤ e.from - at
header-least bs at end e b p =
    let k = entry_known bs at end e p in
    let h = heads_least (between at e.from bs) e.kind e.id (length (between e.from e.to bs)) (bytes_between bs at e.from b) (entry_heads bs at end e p) in
    rw (← length-between bs e.from e.to (omega arith), ← length-between bs at e.from (omega arith)) h.sized

-- where nothing can be read there are no items
pub items-none : (n : ℕ) (bs : List ℕ) (at end : ℕ) → None ≡ entry_at bs at end → items_to n bs at end ≡ none
unfolding items_to
items-none zero bs at end p = refl
items-none (suc n) bs at end p = rw (entries_none bs at end p)

module _ (bs : List ℕ) (b : Bytes bs) where
  abbrev NoLonger : ℕ → ℕ → ℕ → Type 0
  NoLonger n at end = length (encoded_all (items_to n bs at end)) ≤ end - at

  one : (m at end : ℕ) (e : Entry) → entry_at bs at end ≡ Some e → NoLonger m e.from e.to → NoLonger (suc m) e.to end → NoLonger (suc m) at end
  unfolding items_to
  one m at end e p inner rest = rw (entries-more bs at end e (sym p)) (by (within e.kind))
    where
      k : Located bs at end e
      k = entry_known bs at end e p

      others : Items
      others = items_of (items_to m bs) bs (entries bs e.to end)

      by : (o : Option Container) → length (encoded_all (item (items_to m bs) bs e o others)) ≤ end - at
      by None =
          let v = value_of bs e in
          let r = encoded_all others in
          let l = k in
          let n = length-between bs e.from e.to (omega arith) in
          omega (
            arith,
            header-least bs at end e b p,
            ap (λ (i : ℕ). length (short_header e.kind e.id i)) n,
            length-append v r,
            length-append (short_header e.kind e.id (length v)) (v ++ r),
          )
      by (Some c) =
          let x = encoded_all (items_to m bs e.from e.to) in
          let r = encoded_all others in
          let l = k in
          omega (
            arith,
            header-least bs at end e b p,
            shorter_header e.kind e.id (length x) (e.to - e.from) inner,
            length-append x r,
            length-append (short_header e.kind e.id (length x)) (x ++ r),
          )

  -- so for shorter parts, so for this one
  turn : (n at end : ℕ) (o : Option Entry) → entry_at bs at end ≡ o → ((m a z : ℕ) → z - a < end - at → NoLonger m a z) → NoLonger n at end
  unfolding items_to
  turn n at end None p ih = rw (items-none n bs at end (sym p)) (omega arith)
  turn zero at end (Some e) p ih = omega arith
  turn (suc m) at end (Some e) p ih =
      let k = entry_known bs at end e p in
      one m at end e p (ih m e.from e.to (omega arith)) (ih (suc m) e.to end (omega arith))

  by_steps : (f n at end : ℕ) → end - at ≤ f → NoLonger n at end
  by_steps zero n at end h = turn n at end (entry_at bs at end) refl (λ m a z l. absurd (omega arith))
  by_steps (suc f) n at end h = turn n at end (entry_at bs at end) refl (λ m a z l. by_steps f m a z (omega arith))

pub form_short : (n : ℕ) (bs : List ℕ) (at end : ℕ) → Bytes bs → length (encoded_all (items_to n bs at end)) ≤ end - at
form_short n bs at end b = by_steps bs b (end - at) n at end (omega arith)

-- So it is small where the bytes are few, wherever the part ends.
pub total_small : (n : ℕ) (bs : List ℕ) (at end : ℕ) → Bytes bs → length bs ≤ 4096 → length (encoded_all (items_to n bs at end)) ≤ 4096
total_small n bs at end b small = by (entry_at bs at end) refl
  where
    by : (o : Option Entry) → entry_at bs at end ≡ o → length (encoded_all (items_to n bs at end)) ≤ 4096
    by None p = rw (items-none n bs at end (sym p)) (omega arith)
    by (Some e) p = let k = entry_known bs at end e p in omega (arith, form_short n bs at end b)
