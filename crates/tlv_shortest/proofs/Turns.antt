-- One turn of the loop that writes the shortest form.
use Rattle.std.proofs.Common.{◌≡◌, ℕ, ◌+◌, ◌≤◌, List, ◌++◌, length, replicate, Some, Ok, Result, sym, ap, ◌∙◌, append_assoc, arith, length-append}
use Rattle.reason.specs.declared.Reason.{Reason}
use Rattle.tlv.specs.Header.{short_header}
use Rattle.tlv.specs.declared.header.Tag.{Tag}
use Rattle.tlv_writer.specs.Write.{encoded, written, append_answer, append_leaves, padded}
use Rattle.tlv_writer.proofs.Writes.{written_on, leaves_padded}
use Rattle.tlv_shortest.specs.declared.level.Level.{Level}
use Rattle.tlv_shortest.specs.declared.level.Item.{Item}
use Rattle.tlv_shortest.specs.declared.level.Item.TheVariants.{Plain, Holder}
use Rattle.tlv_shortest.specs.Items.{Items, encoded_all}
use Rattle.tlv_shortest.specs.Levels.{form_of, with_item}

-- Writing one part and then the rest is writing the whole.
pub record Moved (out : List ℕ) (to : ℕ) (whole out' : List ℕ) (to' : ℕ) (rest : List ℕ) : Type 0 where
  pub forth : to ≤ to'
  pub ends : to' + length rest ≡ to + length whole
  pub writes : written out' to' rest ≡ written out to whole

pub moved : (out out' : List ℕ) (to to' : ℕ) (x rest whole : List ℕ) → whole ≡ x ++ rest → to ≤ length out
    → out' ≡ written out to x → to' ≡ to + length x → Moved out to whole out' to' rest
moved out out' to to' x rest whole e h w n =
    let l = ap length e ∙ length-append x rest in
    let m = written_on out to x rest h in
    record { forth = omega arith; ends = omega arith; writes = cc }

pub moved_on : {out out' out'' whole rest rest' : List ℕ} {to to' to'' : ℕ} → Moved out to whole out' to' rest
    → Moved out' to' rest out'' to'' rest' → Moved out to whole out'' to'' rest'
moved_on m n = record { forth = omega arith; ends = n.ends ∙ m.ends; writes = n.writes ∙ m.writes }

-- so where the part is appended
pub appended : (out out' : List ℕ) (to to' n : ℕ) (r : Result ℕ Reason) (x rest whole : List ℕ) → whole ≡ x ++ rest → to ≤ length out
    → r ≡ append_answer (length out) to n x → out' ≡ append_leaves r out to x → r ≡ Ok to' → Moved out to whole out' to' rest
appended out out' to to' n r x rest whole e h a w k =
    let q : Ok to' ≡ append_answer (length out) to n x = sym k ∙ a in
    moved out out' to to' x rest whole e h (w ∙ ap (λ (o : Result ℕ Reason). append_leaves o out to x) k) (grind arith)

-- the bytes of the first item, and those of the rest
pub plain_bytes : (whole rest : Items) (i : Item) (tag : Tag) (v : _) → whole ≡ with_item (Some i) rest → i ≡ Plain tag v
    → encoded_all whole ≡ encoded tag.kind tag.id v.now ++ encoded_all rest
plain_bytes whole rest i tag v e w =
    ap encoded_all (e ∙ ap (λ (j : Item). with_item (Some j) rest) w)
    ∙ sym (append_assoc (short_header tag.kind tag.id (length v.now)) v.now (encoded_all rest))

pub holder_bytes : (whole rest : Items) (i : Item) (tag : Tag) (l : Level) (n : ℕ) → whole ≡ with_item (Some i) rest → i ≡ Holder tag l
    → n ≡ length (form_of l)
    → encoded_all whole ≡ short_header tag.kind tag.id n ++ (form_of l ++ encoded_all rest)
holder_bytes whole rest i tag l n e w k =
    ap encoded_all (e ∙ ap (λ (j : Item). with_item (Some j) rest) w)
    ∙ ap (λ (m : ℕ). short_header tag.kind tag.id m ++ (form_of l ++ encoded_all rest)) (sym k)

-- a form at the front of a cleared buffer, and zeros behind it
pub filled : (n : ℕ) (bs : List ℕ) → written (replicate n 0) 0 bs ≡ padded n bs
filled n bs = leaves_padded (Ok 0) n bs
