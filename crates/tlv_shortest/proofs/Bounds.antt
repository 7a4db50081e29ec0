-- A shortest form is at most three times as long as what it was read from: an entry takes two bytes or more,
-- and its shortest header six or less.
use Rattle.std.proofs.Common.{◌≡◌, ℕ, zero, suc, ◌-◌, ◌*◌, ◌<◌, ◌≤◌, List, ◌++◌, length, Some, None, Option, sym, refl, arith, length-append}
use Rattle.std.proofs.lemmas.Bool.Decides.{nat_tests}
use Rattle.std.proofs.lemmas.List.Edits.{length-between}
use Rattle.tlv.specs.declared.header.Kind.{Kind}
use Rattle.tlv.specs.declared.entries.Entry.{Entry}
use Rattle.tlv.specs.declared.grammar.Container.{Container}
use Rattle.tlv.specs.Header.{short_id, short_length, short_header}
use Rattle.tlv.specs.Entries.{entry_at, entries, value_of, Located}
use Rattle.tlv.specs.Grammar.{within}
use Rattle.tlv.proofs.Walks.{entries-more, entries_none, entry_known}
use Rattle.tlv_shortest.specs.Items.{Items, item, items_of, items_to, items, encoded_all}

header_bounded : (k : Kind) (id n : ℕ) → length (short_header k id n) ≤ 6
header_bounded k id n =
    let i : length (short_id id) ≤ 2 = grind (arith, nat_tests) in
    let l : length (short_length n) ≤ 3 = grind (arith, nat_tests) in
    omega (arith, length-append (short_id id) (short_length n))

module _ (bs : List ℕ) where
  abbrev Bounded : ℕ → ℕ → ℕ → Type 0
  Bounded n at end = length (encoded_all (items_to n bs at end)) ≤ 3 * (end - at)

  one : (m at end : ℕ) (e : Entry) → entry_at bs at end ≡ Some e → Bounded m e.from e.to → Bounded (suc m) e.to end → Bounded (suc m) at end
  unfolding items_to
  one m at end e p inner rest = rw (entries-more bs at end e (sym p)) (by (within e.kind))
    where
      k : Located bs at end e
      k = entry_known bs at end e p

      others : Items
      others = items_of (items_to m bs) bs (entries bs e.to end)

      by : (o : Option Container) → length (encoded_all (item (items_to m bs) bs e o others)) ≤ 3 * (end - at)
      by None =
          let v = value_of bs e in
          let r = encoded_all others in
          let l = k in
          omega (
            arith,
            length-between bs e.from e.to (omega arith),
            header_bounded e.kind e.id (length v),
            length-append v r,
            length-append (short_header e.kind e.id (length v)) (v ++ r),
          )
      by (Some c) =
          let x = encoded_all (items_to m bs e.from e.to) in
          let r = encoded_all others in
          let l = k in
          omega (arith, header_bounded e.kind e.id (length x), length-append x r, length-append (short_header e.kind e.id (length x)) (x ++ r))

  turn : (n at end : ℕ) (o : Option Entry) → entry_at bs at end ≡ o → ((m a z : ℕ) → z - a < end - at → Bounded m a z) → Bounded n at end
  unfolding items_to
  turn zero at end o p ih = omega arith
  turn (suc m) at end None p ih = rw (entries_none bs at end (sym p)) (omega arith)
  turn (suc m) at end (Some e) p ih =
      let k = entry_known bs at end e p in
      one m at end e p (ih m e.from e.to (omega arith)) (ih (suc m) e.to end (omega arith))

  by_steps : (f n at end : ℕ) → end - at ≤ f → Bounded n at end
  by_steps zero n at end h = turn n at end (entry_at bs at end) refl (λ m a z l. absurd (omega arith))
  by_steps (suc f) n at end h = turn n at end (entry_at bs at end) refl (λ m a z l. by_steps f m a z (omega arith))

  pub items_whole : items_of (items_to 2 bs) bs (entries bs 0 (length bs)) ≡ items bs
  unfolding items_to
  items_whole = refl

  pub items_bounded : length (encoded_all (items bs)) ≤ 3 * length bs
  items_bounded = let h = by_steps (length bs) 3 0 (length bs) (omega arith) in omega arith

pub ruleset whole_payload = (items_whole, items_bounded)
