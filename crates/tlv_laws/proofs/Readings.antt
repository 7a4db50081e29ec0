-- Bytes that fill a container, with the entries that they say: what the check accepts, and that alone.
use Rattle.std.proofs.Common.{◌≡◌, ℕ, zero, suc, ◌+◌, ◌-◌, ◌<◌, ◌≤◌, Bool, true, false, cond, List, [], ◌++◌, length, Some, None, Ok, Option, sym, refl, ap, ◌∙◌, subst, arith}
use Rattle.std.proofs.lemmas.Bool.Decides.{nat_tests}
use Rattle.std.proofs.lemmas.List.Edits.{between_none}
use Rattle.std.specs.List.{between}
use Rattle.tlv.specs.declared.header.Kind.{Kind}
use Rattle.tlv.specs.declared.entries.Entry.{Entry}
use Rattle.tlv.specs.declared.grammar.Container.{Container}
use Rattle.tlv.specs.declared.grammar.Container.TheVariants.{Payload}
use Rattle.tlv.specs.Entries.{entry_at, Located}
use Rattle.tlv.specs.Faults.{fault_at}
use Rattle.tlv.specs.Grammar.{allows, within, levels, Fault, or_else, inside, entry_fault, ends, fault, verdict}
use Rattle.tlv.proofs.Walks.{entries-more, entries_none, entry_known, entry_end}
use Rattle.tlv.proofs.Faults.{fault_filled}
use Rattle.tlv_shortest.specs.Items.{Items, none, plain, holder, items_to, items}
use Rattle.tlv_shortest.proofs.Steps.{items_inside}
use Rattle.tlv_laws.specs.Headers.{Heads}
use Rattle.tlv_laws.proofs.Regions.{Region, region_size, region_all, entry_of, value_region, rest_region, front_entry, entry_heads, entry_parts}

-- `xs` fills a container and says these entries.
pub data Reads : Container → List ℕ → Items → Type 0 where
  no_entry : {c : Container} → Reads c [] none
  of_bytes : {c : Container} (k : Kind) (id : ℕ) (hd v : List ℕ) {rest : List ℕ} {t : Items}
      → allows c k ≡ true → within k ≡ None → Heads hd k id (length v)
      → Reads c rest t → Reads c (hd ++ (v ++ rest)) (plain k id v t)
  of_entries : {c : Container} (k : Kind) (id : ℕ) (hd : List ℕ) (d : Container) {v rest : List ℕ} {i t : Items}
      → allows c k ≡ true → within k ≡ Some d → Heads hd k id (length v)
      → Reads d v i → Reads c rest t → Reads c (hd ++ (v ++ rest)) (holder k id i t)

pub record Reading (c : Container) (xs : List ℕ) : Type 0 where
  pub said : Items
  pub reads : Reads c xs said

-- The fault of a container, by its first entry.
or_assoc : (a b c : Fault) → or_else (or_else a b) c ≡ or_else a (or_else b c)
or_assoc a b c = grind arith

fault_more : (c : Container) (bs : List ℕ) (at end : ℕ) (e : Entry) → Some e ≡ entry_at bs at end
    → fault c bs at end ≡ or_else (entry_fault fault c bs e) (fault c bs e.to end)
fault_more c bs at end e p = let m = entries-more bs at end e p in grind (arith, fault_filled, or_assoc)

fault_none : (c : Container) (bs : List ℕ) (at end : ℕ) → None ≡ entry_at bs at end → fault c bs at end ≡ ends at end
fault_none c bs at end p = cc (fault_filled c bs at end, entries_none bs at end p)

-- What fills a container has no fault.
passes : {c : Container} {xs : List ℕ} {t : Items} → Reads c xs t → (bs : List ℕ) (at end : ℕ) → Region bs at end xs → fault c bs at end ≡ None
passes {c} no_entry bs at end r =
    let s = region_size bs at end [] r in
    fault_none c bs at end (sym (entry_end bs at end (omega arith))) ∙ grind (arith, nat_tests)
passes {c} (of_bytes k id hd v {rest} a w h f) bs at end r =
    let m = fault_more c bs at end (entry_of k id at hd v) (front_entry bs at end hd v rest r k id h) in
    cc (m, passes f bs (at + length hd + length v) end (rest_region bs at end hd v rest r))
passes {c} (of_entries k id hd d {v} {rest} a w h g f) bs at end r =
    let m = fault_more c bs at end (entry_of k id at hd v) (front_entry bs at end hd v rest r k id h) in
    let q = passes g bs (at + length hd) (at + length hd + length v) (value_region bs at end hd v rest r) in
    cc (m, q, passes f bs (at + length hd + length v) end (rest_region bs at end hd v rest r))

-- One level less lies inside an entry.
pub inner_levels : (c : Container) (k : Kind) (d : Container) → allows c k ≡ true → within k ≡ Some d → levels d < levels c
inner_levels c k d a w = grind arith

-- What a container says is what is read of it.
itemed : {c : Container} {xs : List ℕ} {t : Items} → Reads c xs t → (n : ℕ) (bs : List ℕ) (at end : ℕ) → Region bs at end xs → levels c ≤ n
    → items_to (suc n) bs at end ≡ t
itemed no_entry n bs at end g l =
    let s = region_size bs at end [] g in cc (items_inside (suc n) bs at end, entries_none bs at end (sym (entry_end bs at end (omega arith))))
itemed (of_bytes k id hd v {rest} {t} a w h f) n bs at end g l =
    let m = entries-more bs at end (entry_of k id at hd v) (front_entry bs at end hd v rest g k id h) in
    let q = itemed f n bs (at + length hd + length v) end (rest_region bs at end hd v rest g) l in
    cc (m, (value_region bs at end hd v rest g).lies, items_inside (suc n) bs at end, items_inside (suc n) bs (at + length hd + length v) end)
itemed {c} (of_entries k id hd d {v} {rest} {i} {t} a w h b f) n bs at end g l =
    let m = entries-more bs at end (entry_of k id at hd v) (front_entry bs at end hd v rest g k id h) in
    let s = inner_levels c k d a w in
    let z : suc (n - 1) ≡ n = omega arith in
    let p = itemed b (n - 1) bs (at + length hd) (at + length hd + length v) (value_region bs at end hd v rest g) (omega arith) in
    let q = itemed f n bs (at + length hd + length v) end (rest_region bs at end hd v rest g) l in
    cc (m, p, items_inside (suc n) bs at end, items_inside (suc n) bs (at + length hd + length v) end)

-- What has no fault fills its container: here one step, for what is shorter.
neither : (a b : Fault) → or_else a b ≡ None → (a ≡ None) × (b ≡ None)
neither a b e = grind arith

module _ (c : Container) (bs : List ℕ) (at end : ℕ) (o : at ≤ end) (w : end ≤ length bs) (p : fault c bs at end ≡ None)
    (shorter : (d : Container) (a z : ℕ) → at + 2 ≤ a → a ≤ z → z ≤ end → fault d bs a z ≡ None → Reading d (between a z bs)) where
  reading_end : None ≡ entry_at bs at end → Reading c (between at end bs)
  reading_end q =
      let f = fault_none c bs at end q in
      let s : at ≡ end = grind (arith, nat_tests) in
      subst (λ (xs : List ℕ). Reading c xs) (sym (between_none bs at) ∙ ap (λ (j : ℕ). between at j bs) s) (record { said = none; reads = no_entry })

  module _ (e : Entry) (q : entry_at bs at end ≡ Some e) (k : Located bs at end e) (z : fault c bs e.to end ≡ None) where
    abbrev whole : List ℕ
    whole = between at e.from bs ++ (between e.from e.to bs ++ between e.to end bs)

    reading_more : (b : Bool) (x : Option Container) → allows c e.kind ≡ b → within e.kind ≡ x
        → cond b (inside fault x bs e) (Some (fault_at e.place)) ≡ None → Reading c whole
    reading_more false x a n f = cc
    reading_more true None a n f =
        let r = shorter c e.to end (omega arith) (omega arith) (omega arith) z in
        record { said = plain e.kind e.id _ r.said; reads = of_bytes e.kind e.id _ _ a n (entry_heads bs at end e q) r.reads }
    reading_more true (Some d) a n f =
        let r = shorter c e.to end (omega arith) (omega arith) (omega arith) z in
        let i = shorter d e.from e.to (omega arith) (omega arith) (omega arith) f in
        record { said = holder e.kind e.id i.said r.said; reads = of_entries e.kind e.id _ d a n (entry_heads bs at end e q) i.reads r.reads }

  reading_step : (x : Option Entry) → entry_at bs at end ≡ x → Reading c (between at end bs)
  reading_step None q = reading_end (sym q)
  reading_step (Some e) q =
      let n = neither (entry_fault fault c bs e) (fault c bs e.to end) (sym (fault_more c bs at end e (sym q)) ∙ p) in
      subst (λ (xs : List ℕ). Reading c xs) (sym (entry_parts bs at end e q))
      (reading_more e q (entry_known bs at end e q) n.1 (allows c e.kind) (within e.kind) refl refl n.0)

reading_by : (n : ℕ) (c : Container) (bs : List ℕ) (at end : ℕ) → end ≤ at + n → at ≤ end → end ≤ length bs → fault c bs at end ≡ None
    → Reading c (between at end bs)
reading_by zero c bs at end s o w p =
    reading_step c bs at end o w p (λ d a z l m k q. absurd (omega arith)) (entry_at bs at end) refl
reading_by (suc n) c bs at end s o w p =
    reading_step c bs at end o w p (λ d a z l m k q. reading_by n d bs a z (omega arith) m (omega arith) q) (entry_at bs at end) refl

-- A payload that is well formed.
pub record WellFormed (bs : List ℕ) : Type 0 where
  pub short : length bs ≤ 4096
  pub said : Reads Payload bs (items bs)

pub well_formed : (bs : List ℕ) → verdict bs ≡ Ok tt → WellFormed bs
well_formed bs e =
    let q : fault Payload bs 0 (length bs) ≡ None = grind (arith, nat_tests) in
    let r = reading_by (length bs) Payload bs 0 (length bs) (omega arith) (omega arith) (omega arith) q in
    let g = region_all bs in
    let s : Reads Payload bs r.said = subst (λ (xs : List ℕ). Reads Payload xs r.said) g.lies r.reads in
    record { short = grind (arith, nat_tests); said = subst (λ (t : Items). Reads Payload bs t) (sym (itemed s 2 bs 0 (length bs) g (omega arith))) s }

pub accepts : (bs : List ℕ) (t : Items) → length bs ≤ 4096 → Reads Payload bs t → verdict bs ≡ Ok tt
accepts bs t l r =
    let f = passes r bs 0 (length bs) (region_all bs) in grind (arith, nat_tests)

pub said_items : (bs : List ℕ) (t : Items) → Reads Payload bs t → items bs ≡ t
said_items bs t r = itemed r 2 bs 0 (length bs) (region_all bs) (omega arith)
