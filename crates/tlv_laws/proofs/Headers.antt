-- Headers in any form.
use Rattle.std.proofs.Common.{◌≡◌, ℕ, zero, suc, ◌+◌, ◌*◌, ◌/◌, ◌%◌, ◌<◌, ◌≤◌, Bool, true, false, cond, eqb, List, [], ◌∷◌, ◌++◌, length, take, Some, None, sym, refl, ap, ◌∙◌, arith, length-append}
use Rattle.std.proofs.lemmas.Bool.Decides.{nat_tests}
use Rattle.std.proofs.lemmas.List.{append-nil}
use Rattle.integer.specs.Integer.{Bytes}
use Rattle.tlv.specs.declared.header.Kind.{Kind}
use Rattle.tlv.specs.declared.header.Header.{Header}
use Rattle.tlv.specs.Header.{short_id, short_length, short_header, read_header, read_length, read_wide, headed, big_endian}
use Rattle.tlv_laws.specs.Headers.{Heads, ShortestHeader}
use Rattle.tlv_laws.proofs.Shorts.{short_heads}

-- A number of `c` bytes is read alike whatever follows them.
number_same : (c : ℕ) (xs ys : List ℕ) (acc : ℕ) → c ≤ length xs → big_endian c (take c xs ++ ys) acc ≡ big_endian c xs acc
number_same zero xs ys acc l = refl
number_same (suc c) [] ys acc l = absurd (omega arith)
number_same (suc c) (x ∷ xs) ys acc l = number_same c xs ys (acc * 256 + x) (omega arith)

number_none : (c : ℕ) (xs : List ℕ) (acc : ℕ) → length xs < c → big_endian c xs acc ≡ None
number_none zero xs acc l = absurd (omega arith)
number_none (suc c) [] acc l = refl
number_none (suc c) (x ∷ xs) acc l = number_none c xs (acc * 256 + x) (omega arith)

-- So is a length field,
length_same : (t id used : ℕ) (xs ys : List ℕ) (h : Header) → read_length t id used xs ≡ Some h
    → (h.size ≡ used + t / 8 % 4) × (read_length t id used (take (t / 8 % 4) xs ++ ys) ≡ Some h)
length_same t id used xs ys h e = grind (arith, nat_tests, number_same, number_none)

-- and so a header.
header_by : (t i : ℕ) (xs ys : List ℕ) (h : Header) (b : Bool) → eqb (t / 32 % 2) 0 ≡ b
    → cond b (read_length t i 2 xs) (read_wide t i xs) ≡ Some h → read_header (take h.size (t ∷ i ∷ xs) ++ ys) ≡ Some h
header_by t i xs ys h true b e =
    let f = length_same t i 2 xs ys h e in
    let s : h.size ≡ suc (suc (t / 8 % 4)) = omega (arith, f.0) in
    ap (λ (j : ℕ). read_header (take j (t ∷ i ∷ xs) ++ ys)) s ∙ rw b f.1
header_by t i [] ys h false b e = cc
header_by t i (u ∷ xs) ys h false b e =
    let f = length_same t (i * 256 + u) 3 xs ys h e in
    let s : h.size ≡ suc (suc (suc (t / 8 % 4))) = omega (arith, f.0) in
    ap (λ (j : ℕ). read_header (take j (t ∷ i ∷ u ∷ xs) ++ ys)) s ∙ rw b f.1

pub header_same : (xs ys : List ℕ) (h : Header) → read_header xs ≡ Some h → read_header (take h.size xs ++ ys) ≡ Some h
header_same [] ys h e = cc
header_same (t ∷ []) ys h e = cc
header_same (t ∷ i ∷ xs) ys h e = header_by t i xs ys h (eqb (t / 32 % 2) 0) refl e

-- Its bytes are all there.
length_whole : (t id used : ℕ) (xs : List ℕ) (h : Header) → read_length t id used xs ≡ Some h → h.size ≤ used + length xs
length_whole t id used xs h e = grind (arith, nat_tests, number_none)

pub header_whole : (xs : List ℕ) (h : Header) → read_header xs ≡ Some h → h.size ≤ length xs
header_whole [] h e = cc
header_whole (t ∷ []) h e = cc
header_whole (t ∷ i ∷ []) h e = grind (arith, nat_tests, length_whole)
header_whole (t ∷ i ∷ u ∷ xs) h e = grind (arith, nat_tests, length_whole)

-- No form of a length field is shorter than the shortest,
least_by : (c t id used : ℕ) (xs : List ℕ) (h : Header) → t / 8 % 4 ≡ c → Bytes xs
    → headed t id (used + t / 8 % 4) (cond (eqb c 0) (Some (t % 8)) (big_endian c xs 0)) ≡ Some h
    → (h.id ≡ id) × (used + length (short_length h.len) ≤ h.size)
least_by zero t id used xs h e b r = grind (arith, nat_tests)
least_by (suc zero) t id used [] h e b r = cc
least_by (suc zero) t id used (x ∷ xs) h e b r = grind (arith, nat_tests, b 0)
least_by (suc (suc zero)) t id used [] h e b r = cc
least_by (suc (suc zero)) t id used (x ∷ []) h e b r = cc
least_by (suc (suc zero)) t id used (x ∷ y ∷ xs) h e b r = grind (arith, nat_tests, b 0, b 1)
least_by (suc (suc (suc c))) t id used xs h e b r = grind (arith, nat_tests)

-- and so no form of a header, whose identifier has 16 bits.
least_if : (t i : ℕ) (xs : List ℕ) (h : Header) (b : Bool) → i < 256 → Bytes xs → cond b (read_length t i 2 xs) (read_wide t i xs) ≡ Some h
    → (h.id < 65536) × (length (short_header h.kind h.id h.len) ≤ h.size)
least_if t i xs h true l b e =
    let f = least_by (t / 8 % 4) t i 2 xs h refl b e in
    grind (arith, nat_tests, length-append (short_id h.id) (short_length h.len))
least_if t i [] h false l b e = cc
least_if t i (u ∷ xs) h false l b e =
    let f = least_by (t / 8 % 4) t (i * 256 + u) 3 xs h refl (λ k. b (suc k)) e in
    grind (arith, nat_tests, b 0, length-append (short_id h.id) (short_length h.len))

least : (xs : List ℕ) (h : Header) → Bytes xs → read_header xs ≡ Some h → (h.id < 65536) × (length (short_header h.kind h.id h.len) ≤ h.size)
least [] h b e = cc
least (t ∷ []) h b e = cc
least (t ∷ i ∷ xs) h b e = least_if t i xs h (eqb (t / 32 % 2) 0) (b 1) (λ k. b (suc (suc k))) e

-- What a header in any form says of the shortest.
pub record LeastHeader (hd : List ℕ) (k : Kind) (id n : ℕ) : Type 0 where
  pub narrow : id < 65536
  pub sized : length (short_header k id n) ≤ length hd

pub heads_least : (hd : List ℕ) (k : Kind) (id n : ℕ) → Bytes hd → Heads hd k id n → LeastHeader hd k id n
heads_least hd k id n b h =
    let l = least hd _ b (ap read_header (sym (append-nil hd)) ∙ h []) in record { narrow = l.0; sized = l.1 }

pub shortest_header : ShortestHeader
shortest_header = record { is-header = short_heads; no_shorter = λ hd k id n b h. (heads_least hd k id n b h).sized }
