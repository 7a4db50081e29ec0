-- Bytes written one after another.
use Rattle.std.proofs.Common.{◌≡◌, ℕ, zero, suc, ◌+◌, ◌-◌, ◌<◌, ◌≤◌, List, ◌++◌, length, take, drop, replicate, Ok, Err, Result, sym, refl, ap, ◌∙◌, arith, length-append}
use Rattle.std.proofs.lemmas.List.Edits.{paste_all, paste-paste}
use Rattle.std.proofs.lemmas.List.{take_all, drop-replicate}
use Rattle.std.specs.Int.{w64, to_be_bytes, bytes_high_first}
use Rattle.std.proofs.lemmas.Bool.Decides.{nat_tests}
use Rattle.reason.specs.declared.Reason.{Reason}
use Rattle.tlv.specs.Header.{short_id, short_length}
use Rattle.tlv_writer.specs.Write.{written, append_leaves, write_leaves}

pub written_on : (old : List ℕ) (at : ℕ) (s t : List ℕ) → at ≤ length old
    → written (written old at s) (at + length s) t ≡ written old at (s ++ t)
written_on old at s t h =
    let p = paste_all old at s (length s) refl in
    let q = paste_all (written old at s) (at + length s) t (length t) refl in
    let r = paste-paste old at s t (length s) (length t) refl refl h in
    let u = paste_all old at (s ++ t) (length s + length t) (sym (length-append s t)) in
    let n = length-append s t in
    cc

-- what is written where the bytes before it end
pub written_next : (old mid new s t : List ℕ) (at next : ℕ) → mid ≡ written old at s → next ≡ at + length s → at ≤ length old
    → new ≡ written mid next t → new ≡ written old at (s ++ t)
written_next old mid new s t at next m e h n =
    n ∙ ap (λ (o : List ℕ). written o next t) m ∙ ap (λ (i : ℕ). written (written old at s) i t) e ∙ written_on old at s t h

-- the lowest bytes of a number are its last ones, high byte first
last : (j k m n : ℕ) → m ≡ j + k → drop j (bytes_high_first m n) ≡ bytes_high_first k n
last zero k m n e = ap (λ (i : ℕ). bytes_high_first i n) (omega arith)
last (suc j) k zero n e = absurd (omega arith)
last (suc j) k (suc m) n e = last j k m n (omega arith)

counted : (k n : ℕ) → length (bytes_high_first k n) ≡ k
counted zero n = refl
counted (suc k) n = let e = counted k n in omega arith

pub low_bytes : (k n : ℕ) → k ≤ 8 → take (8 - (8 - k)) (drop (8 - k) (to_be_bytes w64 n)) ≡ bytes_high_first k n
low_bytes k n h =
    ap (take (8 - (8 - k))) (last (8 - k) k 8 n (omega arith)) ∙ take_all _ (bytes_high_first k n) (omega (arith, counted k n))

-- identifier and length have as many bytes as their shortest forms
pub id_bytes : (k id : ℕ) → id < 65536 → k ≡ length (short_id id) → bytes_high_first k id ≡ short_id id
id_bytes k id h e = grind (arith, nat_tests)

pub length_bytes : (k n : ℕ) → n < 16777216 → k ≡ length (short_length n) → bytes_high_first k n ≡ short_length n
length_bytes k n h e = grind (arith, nat_tests)

-- A write to a cleared buffer leaves the bytes and zeros, or zeros alone.
pub leaves_padded : (r : Result ℕ Reason) (n : ℕ) (bs : List ℕ) → append_leaves r (replicate n 0) 0 bs ≡ write_leaves r n bs
leaves_padded (Ok end) n bs =
    let e : 0 + length bs ≡ length bs = omega arith in
    ap (λ (k : ℕ). bs ++ drop k (replicate n 0)) e ∙ ap (λ (zs : List ℕ). bs ++ zs) (drop-replicate (length bs) n 0)
leaves_padded (Err x) n bs = refl
