-- Payloads in shortest form, written again.
use Rattle.std.proofs.Common.{◌≡◌, ℕ, zero, suc, ◌+◌, ◌-◌, ◌<◌, ◌≤◌, ◌↔◌, List, [], ◌++◌, length, Some, sym, refl, ap, ◌∙◌, arith, length-append}
use Rattle.integer.specs.Integer.{Bytes}
use Rattle.tlv.specs.declared.header.Kind.{Kind}
use Rattle.tlv.specs.declared.entries.Entry.{Entry}
use Rattle.tlv.specs.declared.grammar.Container.{Container}
use Rattle.tlv.specs.Header.{short_header}
use Rattle.tlv.specs.Entries.{entry_at}
use Rattle.tlv.specs.Grammar.{within, levels}
use Rattle.tlv.proofs.Walks.{entries-more, entries_none, entry_end}
use Rattle.tlv_shortest.specs.Items.{Items, items, encoded_all}
use Rattle.tlv_shortest.specs.Shortest.{ShortHeader, ShortInside, ShortTo, Shortest}
use Rattle.tlv_laws.proofs.Shorts.{shorter_header}
use Rattle.tlv_laws.specs.Forms.{RewritesSame}
use Rattle.tlv_laws.proofs.Bytes.{same_parts, bytes_front, bytes_rest}
use Rattle.tlv_laws.proofs.Headers.{heads_least}
use Rattle.tlv_laws.proofs.Regions.{Region, region_size, region_all, entry_of, head_region, value_region, rest_region, front_entry}
use Rattle.tlv_laws.proofs.Readings.{Reads, no_entry, of_bytes, of_entries, inner_levels, WellFormed, well_formed}
use Rattle.tlv_laws.proofs.Back.{again, formed_again}

-- Shortness of a region, entry by entry.
short_nothing : (n : ℕ) (bs : List ℕ) (at end : ℕ) → end ≤ at → ShortTo (suc n) bs at end
unfolding ShortTo
short_nothing n bs at end s = rw (entries_none bs at end (sym (entry_end bs at end s))) tt

short_step : (n : ℕ) (bs : List ℕ) (at end : ℕ) (e : Entry) → Some e ≡ entry_at bs at end
    → ShortTo (suc n) bs at end ↔ (ShortHeader bs e × (ShortInside (ShortTo n bs) e (within e.kind) × ShortTo (suc n) bs e.to end))
unfolding ShortTo
short_step n bs at end e p = rw (entries-more bs at end e p) (λ s. s, λ s. s)

-- The header's part of it, by the region.
header_told : (bs : List ℕ) (at end : ℕ) (hd v rest : List ℕ) → Region bs at end (hd ++ (v ++ rest)) → (k : Kind) (id : ℕ)
    → ShortHeader bs (entry_of k id at hd v) ↔ (hd ≡ short_header k id (length v))
header_told bs at end hd v rest g k id =
    let n : at + length hd + length v - (at + length hd) ≡ length v = omega arith in
    rw ((head_region bs at end hd v rest g).lies, n) (λ s. s, λ s. s)

-- With shortest headers alone, what is written is what was read.
stays : {c : Container} {xs : List ℕ} {t : Items} → Reads c xs t → (n : ℕ) (bs : List ℕ) (at end : ℕ) → Region bs at end xs → levels c ≤ n
    → ShortTo (suc n) bs at end → encoded_all t ≡ xs
stays no_entry n bs at end g l s = refl
stays (of_bytes k id hd v {rest} {t} a w h f) n bs at end g l s =
    let m = (short_step n bs at end (entry_of k id at hd v) (front_entry bs at end hd v rest g k id h)).0 s in
    let i = (header_told bs at end hd v rest g k id).0 m.0 in
    let q = stays f n bs (at + length hd + length v) end (rest_region bs at end hd v rest g) l m.1.1 in
    cc
stays {c} (of_entries k id hd d a w h b f) zero bs at end g l s = let u = inner_levels c k d a w in absurd (omega arith)
stays {c} (of_entries k id hd d {v} {rest} {i} {t} a w h b f) (suc n) bs at end g l s =
    let m = (short_step (suc n) bs at end (entry_of k id at hd v) (front_entry bs at end hd v rest g k id h)).0 s in
    let j = (header_told bs at end hd v rest g k id).0 m.0 in
    let u = inner_levels c k d a w in
    let p = stays b n bs (at + length hd) (at + length hd + length v) (value_region bs at end hd v rest g) (omega arith) (rw w at m.1.0) in
    let q = stays f (suc n) bs (at + length hd + length v) end (rest_region bs at end hd v rest g) l m.1.1 in
    cc

-- Where what is written is what was read, every part of it is: none is longer, and so none is shorter.
same_three : (a b c hd v rest : List ℕ) → a ++ (b ++ c) ≡ hd ++ (v ++ rest) → length a ≤ length hd → length b ≤ length v → length c ≤ length rest
    → (a ≡ hd) × ((b ≡ v) × (c ≡ rest))
same_three a b c hd v rest e p q r =
    let s = ap length e in grind (arith, length-append, same_parts a (b ++ c) hd (v ++ rest), same_parts b c v rest)

shortest : {c : Container} {xs : List ℕ} {t : Items} → Reads c xs t → (n : ℕ) (bs : List ℕ) (at end : ℕ) → Region bs at end xs
    → Bytes xs → length xs < 16777216 → encoded_all t ≡ xs → levels c ≤ n → ShortTo (suc n) bs at end
shortest no_entry n bs at end g y l e z = let s = region_size bs at end [] g in short_nothing n bs at end (omega arith)
shortest (of_bytes k id hd v {rest} {t} a w h f) n bs at end g y l e z =
    let m = length-append hd (v ++ rest) in
    let u = length-append v rest in
    let yr = bytes_rest v rest (bytes_rest hd (v ++ rest) y) in
    let lr : length rest < 16777216 = omega arith in
    let i = heads_least hd k id (length v) (bytes_front hd (v ++ rest) y) h in
    let q = again f yr lr in
    let s = same_three (short_header k id (length v)) v (encoded_all t) hd v rest e i.sized (omega arith) q.no_longer in
    (short_step n bs at end (entry_of k id at hd v) (front_entry bs at end hd v rest g k id h)).1 (
      (header_told bs at end hd v rest g k id).1 (sym s.0),
      (
        rw w tt,
        shortest f n bs (at + length hd + length v) end (rest_region bs at end hd v rest g) yr lr s.1.1 z,
      ),
    )
shortest {c} (of_entries k id hd d a w h b f) zero bs at end g y l e z = let u = inner_levels c k d a w in absurd (omega arith)
shortest {c} (of_entries k id hd d {v} {rest} {i} {t} a w h b f) (suc n) bs at end g y l e z =
    let m = length-append hd (v ++ rest) in
    let u = length-append v rest in
    let yv = bytes_front v rest (bytes_rest hd (v ++ rest) y) in
    let yr = bytes_rest v rest (bytes_rest hd (v ++ rest) y) in
    let lv : length v < 16777216 = omega arith in
    let lr : length rest < 16777216 = omega arith in
    let j = heads_least hd k id (length v) (bytes_front hd (v ++ rest) y) h in
    let p = again b yv lv in
    let q = again f yr lr in
    let x = shorter_header k id (length (encoded_all i)) (length v) p.no_longer in
    let s = same_three (short_header k id (length (encoded_all i))) (encoded_all i) (encoded_all t) hd v rest e (omega (arith, j.sized)) p.no_longer q.no_longer in
    let r = inner_levels c k d a w in
    let si = shortest b n bs (at + length hd) (at + length hd + length v) (value_region bs at end hd v rest g) yv lv s.1.0 (omega arith) in
    (short_step (suc n) bs at end (entry_of k id at hd v) (front_entry bs at end hd v rest g k id h)).1 (
      (header_told bs at end hd v rest g k id).1 (sym s.0 ∙ ap (λ (ys : List ℕ). short_header k id (length ys)) s.1.0),
      (
        rw w si,
        shortest f (suc n) bs (at + length hd + length v) end (rest_region bs at end hd v rest g) yr lr s.1.1 z,
      ),
    )

stays_whole : (bs : List ℕ) → WellFormed bs → Shortest bs → encoded_all (items bs) ≡ bs
stays_whole bs p s = stays p.said 2 bs 0 (length bs) (region_all bs) (omega arith) s

pub rewrites_same : RewritesSame
rewrites_same bs b e =
    let p = well_formed bs e in
    let q = formed_again bs b p in
    let l = p.short in
    let m = q.no_longer in
    record {
      stays = stays_whole bs p;
      only = λ s. shortest p.said 2 bs 0 (length bs) (region_all bs) b (omega arith) s (omega arith);
      reached =
          shortest q.reads 2 (encoded_all (items bs)) 0 (length (encoded_all (items bs))) (region_all (encoded_all (items bs))) q.bytes (omega arith) refl (omega arith);
      one = λ cs y f i s. sym (stays_whole cs (well_formed cs f) s) ∙ ap encoded_all i;
    }
