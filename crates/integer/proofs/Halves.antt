-- Halving: what it drops, where it stops, and that it leaves the smallest width.
use Rattle.std.proofs.Common.{◌≡◌, ℕ, zero, suc, ◌+◌, ◌-◌, ◌/◌, ◌<◌, ◌≤◌, true, false, cond, List, [], ◌∷◌, length, get_or, drop, Some, sym, ap, ◌∙◌, subst, ⊎_elim, arith, length-drop}
use Rattle.std.proofs.lemmas.List.{drop-drop, get_or-drop}
use Rattle.std.proofs.lemmas.Bool.{cond-true, cond-false, cond_both, cases_lt, both_ways}
use Rattle.std.proofs.lemmas.Bool.Decides.{nat_tests}
use Rattle.integer.specs.Integer.{signed, is_width, Bytes, spare_half, halved, shortest}
use Rattle.integer.specs.Laws.{Smallest, Kept}
use Rattle.integer.proofs.Fills.{Filled, spare_tells, spare_from, spare_short, fills_same}
use Rattle.integer.proofs.Widths.{fewer_filled}

half_rest : (xs : List ℕ) → length (drop (length xs / 2) xs) ≡ length xs - length xs / 2
half_rest xs = length-drop (length xs / 2) xs

none_dropped : (n : ℕ) (xs : List ℕ) → length xs ≤ 1 → halved n xs ≡ xs
none_dropped n xs h = grind (arith, spare_short)

-- Halving as often as it goes does not depend on how often it may.
enough : (m n : ℕ) (xs : List ℕ) → length xs ≤ suc m → length xs ≤ suc n → halved m xs ≡ halved n xs
enough zero n xs p q = sym (none_dropped n xs (omega arith))
enough (suc m) zero xs p q = none_dropped (suc m) xs (omega arith)
enough (suc m) (suc n) xs p q =
    let l = half_rest xs in
    ap (λ (ys : List ℕ). cond (spare_half xs) ys xs) (enough m n (drop (length xs / 2) xs) (omega arith) (omega arith))

shortest_step : (xs : List ℕ) → shortest xs ≡ cond (spare_half xs) (shortest (drop (length xs / 2) xs)) xs
unfolding shortest
shortest_step [] = sym (cond-false (spare_half []) [] [] (spare_short [] (omega arith)))
shortest_step (x ∷ xs) =
    let l = half_rest (x ∷ xs) in
    let h = length (x ∷ xs) / 2 in
    ap (λ (ys : List ℕ). cond (spare_half (x ∷ xs)) ys (x ∷ xs))
    (enough (length xs) (length (drop h (x ∷ xs))) (drop h (x ∷ xs)) (omega arith) (omega arith))

pub spare_some : (xs : List ℕ) → spare_half xs ≡ true → 1 < length xs
spare_some xs e = (spare_tells xs e).0

pub shortest_more : (xs : List ℕ) → spare_half xs ≡ true → shortest xs ≡ shortest (drop (length xs / 2) xs)
shortest_more xs e = shortest_step xs ∙ cond-true (spare_half xs) (shortest (drop (length xs / 2) xs)) xs e

pub shortest_done : (xs : List ℕ) → spare_half xs ≡ false → shortest xs ≡ xs
shortest_done xs e = shortest_step xs ∙ cond-false (spare_half xs) (shortest (drop (length xs / 2) xs)) xs e

-- Halving of a list of any bytes: the end of the same number, not to be halved again.
pub record Halving (v r : List ℕ) : Type 0 where
  pub same : signed r ≡ signed v
  pub suffix : r ≡ drop (length v - length r) v
  pub shorter : length r ≤ length v
  pub stops : spare_half r ≡ false

halving_on : (v r : List ℕ) (m : ℕ) → m < length v → get_or v m 0 < 256 → Filled m v → Halving (drop m v) r → Halving v r
halving_on v r m h b f k =
    let n = length-drop m v in
    let s = k.shorter in
    let j : m + (length (drop m v) - length r) ≡ length v - length r = omega arith in
    record {
      same = k.same ∙ fills_same m v h b f;
      suffix = k.suffix ∙ drop-drop (length (drop m v) - length r) m v ∙ ap (λ (i : ℕ). drop i v) j;
      shorter = omega arith;
      stops = k.stops;
    }

here : (v : List ℕ) → spare_half v ≡ false → Halving v v
here v s = grind arith

drop-bytes : (m : ℕ) (xs : List ℕ) → Bytes xs → Bytes (drop m xs)
drop-bytes m xs b k = rw (get_or-drop m xs k 0) (b (m + k))

halving : (n : ℕ) (v : List ℕ) → length v ≤ suc n → 0 < length v → Bytes v → Halving v (halved n v)
halving zero v h s b = here v (spare_short v h)
halving (suc n) v h s b =
    let m = length v / 2 in
    let l = half_rest v in
    cond_both (spare_half v) (halved n (drop m v)) v (Halving v)
    (λ e. halving_on v (halved n (drop m v)) m (omega arith) (b m) (spare_tells v e).1 (halving n (drop m v) (omega arith) (omega arith) (drop-bytes m v b)))
    (here v)

pub some_width : (n : ℕ) → is_width n ≡ true → 0 < n
unfolding is_width
some_width n h = grind (arith, nat_tests)

-- A smaller width is at most half as large.
smaller_width : (m n : ℕ) → is_width m ≡ true → is_width n ≡ true → m < n → n / 2 + m ≤ n
unfolding is_width
smaller_width m n h k l = grind (arith, nat_tests)

halved-width : (n : ℕ) (v : List ℕ) → is_width (length v) ≡ true → is_width (length (halved n v)) ≡ true
unfolding is_width
halved-width zero v h = h
halved-width (suc n) v h = grind (arith, nat_tests, length-drop, halved-width n (drop (length v / 2) v))

smallest_from : (v r : List ℕ) → Bytes r → is_width (length r) ≡ true → Halving v r → Smallest (signed v) r
smallest_from v r b w h = record {
  number = h.same;
  width = w;
  bytes = b;
  least = λ ys by u e.
      ⊎_elim
      (λ l.
      let s = some_width (length ys) u in
      let m = length r / 2 in
      let f = fewer_filled r ys m b by s (smaller_width (length ys) (length r) u w l) (e ∙ sym h.same) in
      absurd (both_ways (spare_half r) h.stops (spare_from r (omega arith) f)))
      (λ l. l) (cases_lt (length ys) (length r));
  again = rw w (ap Some (shortest_done r h.stops));
}

pub shortest_kept : (v : List ℕ) → Bytes v → is_width (length v) ≡ true → Kept v (shortest v)
unfolding shortest
shortest_kept v b w =
    let s = some_width (length v) w in
    let h = halving (length v) v (omega arith) s b in
    let q : Bytes (halved (length v) v) = subst Bytes (sym h.suffix) (drop-bytes (length v - length (halved (length v) v)) v b) in
    record { suffix = h.suffix; smallest = smallest_from v (halved (length v) v) q (halved-width (length v) v w) h }

pub shortest-stops : (v : List ℕ) → Bytes v → is_width (length v) ≡ true → spare_half (shortest v) ≡ false
unfolding shortest
shortest-stops v b w = let s = some_width (length v) w in (halving (length v) v (omega arith) s b).stops
