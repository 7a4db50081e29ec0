-- The shortest form of a payload, read back.
use Rattle.std.proofs.Common.{ℕ, ◌<◌, ◌≤◌, List, ◌++◌, length, subst, arith, length-append}
use Rattle.integer.specs.Integer.{Bytes}
use Rattle.tlv.specs.declared.grammar.Container.{Container}
use Rattle.tlv.specs.declared.grammar.Container.TheVariants.{Payload}
use Rattle.tlv.specs.Header.{short_header}
use Rattle.tlv_shortest.specs.Items.{Items, items, encoded_all}
use Rattle.tlv_laws.specs.Forms.{ReadsBack}
use Rattle.tlv_laws.proofs.Bytes.{bytes_front, bytes_rest, bytes_both}
use Rattle.tlv_laws.proofs.Shorts.{short_heads, bytes_short, shorter_header}
use Rattle.tlv_laws.proofs.Headers.{heads_least}
use Rattle.tlv_laws.proofs.Readings.{Reads, no_entry, of_bytes, of_entries, WellFormed, well_formed, accepts, said_items}

-- Entries written in shortest form: they say the same, are bytes, and no more of them.
pub record Again (c : Container) (xs : List ℕ) (t : Items) : Type 0 where
  pub reads : Reads c (encoded_all t) t
  pub bytes : Bytes (encoded_all t)
  pub no_longer : length (encoded_all t) ≤ length xs

pub again : {c : Container} {xs : List ℕ} {t : Items} → Reads c xs t → Bytes xs → length xs < 16777216 → Again c xs t
again no_entry b l = record { reads = no_entry; bytes = b; no_longer = omega arith }
again (of_bytes k id hd v {rest} {t} a w h f) b l =
    let y = bytes_rest hd (v ++ rest) b in
    let q = again f (bytes_rest v rest y) (omega (arith, length-append {A = ℕ})) in
    let i = heads_least hd k id (length v) (bytes_front hd (v ++ rest) b) h in
    let o : length v < 16777216 = omega (arith, length-append {A = ℕ}) in
    record {
      reads = of_bytes k id (short_header k id (length v)) v a w (short_heads k id (length v) i.narrow o) q.reads;
      bytes = bytes_both (short_header k id (length v)) (v ++ encoded_all t) (bytes_short k id (length v) i.narrow o) (bytes_both v (encoded_all t) (bytes_front v rest y) q.bytes);
      no_longer = omega (arith, i.sized, q.no_longer, length-append (short_header k id (length v)) (v ++ encoded_all t), length-append {A = ℕ});
    }
again (of_entries k id hd d {v} {rest} {i} {t} a w h g f) b l =
    let y = bytes_rest hd (v ++ rest) b in
    let p = again g (bytes_front v rest y) (omega (arith, length-append {A = ℕ})) in
    let q = again f (bytes_rest v rest y) (omega (arith, length-append {A = ℕ})) in
    let j = heads_least hd k id (length v) (bytes_front hd (v ++ rest) b) h in
    let o : length (encoded_all i) < 16777216 = omega (arith, p.no_longer, length-append {A = ℕ}) in
    let z = shorter_header k id (length (encoded_all i)) (length v) p.no_longer in
    record {
      reads = of_entries k id (short_header k id (length (encoded_all i))) d a w (short_heads k id (length (encoded_all i)) j.narrow o) p.reads q.reads;
      bytes = bytes_both (short_header k id (length (encoded_all i))) (encoded_all i ++ encoded_all t) (bytes_short k id (length (encoded_all i)) j.narrow o) (bytes_both (encoded_all i) (encoded_all t) p.bytes q.bytes);
      no_longer = omega (arith, j.sized, p.no_longer, q.no_longer, length-append (short_header k id (length (encoded_all i))) (encoded_all i ++ encoded_all t), length-append {A = ℕ});
    }

pub formed_again : (bs : List ℕ) → Bytes bs → WellFormed bs → Again Payload bs (items bs)
formed_again bs b p = let l = p.short in again p.said b (omega arith)

pub reads_back : ReadsBack
reads_back bs b e =
    let p = well_formed bs e in
    let q = formed_again bs b p in
    record {
      well_formed = accepts (encoded_all (items bs)) (items bs) (omega (arith, p.short, q.no_longer)) q.reads;
      same = said_items (encoded_all (items bs)) (items bs) q.reads;
      no_longer = q.no_longer;
      least = λ cs y f s. subst (λ (t : Items). length (encoded_all t) ≤ length cs) s (formed_again cs y (well_formed cs f)).no_longer;
    }
