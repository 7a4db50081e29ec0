-- Regions of bytes: an entry that lies in one, and where it lies.
use Rattle.std.proofs.Common.{◌≡◌, ℕ, ◌+◌, ◌-◌, ◌≤◌, List, ◌++◌, length, drop, Some, sym, ap, ◌∙◌, arith, length-append}
use Rattle.std.proofs.Math.Seq.{take-add}
use Rattle.std.proofs.lemmas.Bool.Decides.{nat_tests}
use Rattle.std.proofs.lemmas.List.{take-take, drop-drop, take_all}
use Rattle.std.proofs.lemmas.List.Edits.{length-between}
use Rattle.std.specs.List.{between}
use Rattle.tlv.specs.declared.header.Kind.{Kind}
use Rattle.tlv.specs.declared.entries.Entry.{Entry}
use Rattle.tlv.specs.Header.{read_header}
use Rattle.tlv.specs.Entries.{entry_at}
use Rattle.tlv.proofs.Walks.{entry_there, entry_known}
use Rattle.tlv_laws.specs.Headers.{Heads}
use Rattle.tlv_laws.proofs.Bytes.{same_parts}
use Rattle.tlv_laws.proofs.Headers.{header_same}

-- A part that is cut in two.
pub between_cut : (bs : List ℕ) (a m e : ℕ) → a ≤ m → m ≤ e → between a e bs ≡ between a m bs ++ between m e bs
between_cut bs a m e p q =
    let n : m - a + (e - m) ≡ e - a = omega arith in
    let o : a + (m - a) ≡ m = omega arith in
    cc (take-add (m - a) (e - m) (drop a bs), drop-drop (m - a) a bs)

-- `xs` is what lies in `bs` from `at` to `end`.
pub record Region (bs : List ℕ) (at end : ℕ) (xs : List ℕ) : Type 0 where
  pub ordered : at ≤ end
  pub whole : end ≤ length bs
  pub lies : between at end bs ≡ xs

pub region_size : (bs : List ℕ) (at end : ℕ) (xs : List ℕ) → Region bs at end xs → end ≡ at + length xs
region_size bs at end xs r = grind (arith, length-between)

pub region_all : (bs : List ℕ) → Region bs 0 (length bs) bs
region_all bs = record { ordered = omega arith; whole = omega arith; lies = take_all (length bs - 0) bs (omega arith) }

-- An entry of `k` and `id`, with header `hd` and value `v`, that lies at `at`.
abbrev pub entry_of : Kind → ℕ → ℕ → List ℕ → List ℕ → Entry
entry_of k id at hd v = record { kind = k; id = id; place = at; from = at + length hd; to = at + length hd + length v }

-- a region that begins with two others
cut_region : (bs : List ℕ) (at end : ℕ) (a b : List ℕ) → Region bs at end (a ++ b)
    → Region bs at (at + length a) a × Region bs (at + length a) end b
cut_region bs at end a b r =
    let s = region_size bs at end (a ++ b) r in
    let l = length-append a b in
    let w = r.whole in
    let m : at + length a ≤ end = omega arith in
    let e = sym (between_cut bs at (at + length a) end (omega arith) m) ∙ r.lies in
    let n = length-between bs at (at + length a) (omega arith) in
    let t = same_parts (between at (at + length a) bs) (between (at + length a) end bs) a b e (omega arith) in
    (record { ordered = omega arith; whole = omega arith; lies = t.0 }, record { ordered = m; whole = w; lies = t.1 })

module _ (bs : List ℕ) (at end : ℕ) (hd v rest : List ℕ) (r : Region bs at end (hd ++ (v ++ rest))) where
  pub head_region : Region bs at (at + length hd) hd
  head_region = (cut_region bs at end hd (v ++ rest) r).0

  pub value_region : Region bs (at + length hd) (at + length hd + length v) v
  value_region = (cut_region bs (at + length hd) end v rest (cut_region bs at end hd (v ++ rest) r).1).0

  pub rest_region : Region bs (at + length hd + length v) end rest
  rest_region = (cut_region bs (at + length hd) end v rest (cut_region bs at end hd (v ++ rest) r).1).1

  -- THE ENTRY that lies in front of a region
  pub front_entry : (k : Kind) (id : ℕ) → Heads hd k id (length v) → Some (entry_of k id at hd v) ≡ entry_at bs at end
  front_entry k id h =
      entry_there bs at end r.whole (record { kind = k; id = id; size = length hd; len = length v })
      (sym (ap read_header r.lies ∙ h (v ++ rest))) rest_region.ordered

-- The other way round: an entry that is read has a header of its own in front of its value.
header_read : (bs : List ℕ) (at end : ℕ) (e : Entry) → entry_at bs at end ≡ Some e
    → read_header (between at end bs) ≡ Some (record { kind = e.kind; id = e.id; size = e.from - at; len = e.to - e.from })
unfolding entry_at
header_read bs at end e p = grind (arith, nat_tests)

pub entry_heads : (bs : List ℕ) (at end : ℕ) (e : Entry) → entry_at bs at end ≡ Some e
    → Heads (between at e.from bs) e.kind e.id (length (between e.from e.to bs))
entry_heads bs at end e p ys =
    let k = entry_known bs at end e p in
    let t = take-take (e.from - at) (end - at) (drop at bs) (omega arith) in
    cc (header_same (between at end bs) ys _ (header_read bs at end e p), length-between bs at e.from (omega arith), length-between bs e.from e.to (omega arith))

-- and so what lies from there on begins with it
pub entry_parts : (bs : List ℕ) (at end : ℕ) (e : Entry) → entry_at bs at end ≡ Some e
    → between at end bs ≡ between at e.from bs ++ (between e.from e.to bs ++ between e.to end bs)
entry_parts bs at end e p =
    let k = entry_known bs at end e p in grind (arith, between_cut bs at e.from end, between_cut bs e.from e.to end)
