-- What the laws of the entry layer say of the texts.
use Rattle.std.proofs.Common.{◌≡◌, ◌↔◌, ℕ, true, false, leb, List, length, take, Some, IsNone, Ok, Err, sym, arith, le-leb}
use Rattle.std.proofs.lemmas.Bool.Decides.{same_from_decides, Decides-like}
use Rattle.std.proofs.lemmas.Slice.Eq.{bytes_eq-Decides}
use Rattle.std.specs.Str.{bytes_eq}
use Rattle.tlv.specs.declared.fault.CallFault.{CallFault}
use Rattle.tlv.specs.Grammar.{verdict}
use Rattle.tlv_shortest.specs.Shortest.{Shortest, shortest_form, shortest_answer}
use Rattle.tlv_laws.specs.Forms.{WrittenSame}
use Rattle.integer.specs.Integer.{Bytes}
use Rattle.tlv_writer.specs.Write.{padded}
use Rattle.tlv_laws.proofs.Answered.{form_in_front}
use Rattle.tlv_laws.proofs.Back.{reads_back}
use Rattle.tlv_laws.proofs.Filled.{accepts_grammar}
use Rattle.session.specs.Printed.{hex_text}
use Rattle.session.specs.Answers.{form_text}

-- a well-formed payload has a form of at most 4,096 bytes
pub never_refused : (bs : List ℕ) (e : CallFault) → Bytes bs → verdict bs ≡ Ok tt → Err e ≡ shortest_answer 4096 bs → ⊥
never_refused bs e b v a =
    let s = (accepts_grammar bs).short v in
    let n = (reads_back bs b v).no_longer in
    let t : leb (length (shortest_form bs)) 4096 ≡ true = le-leb _ _ (omega arith) in
    let z : ◌≡◌ {A = ℕ} 0 1 = grind arith in omega arith

-- the form that was written, where the payload has another
pub other_form : (n : ℕ) (bs out : List ℕ) → Ok n ≡ shortest_answer 4096 bs → out ≡ padded 4096 (shortest_form bs)
    → WrittenSame bs → (IsNone (Some n) ↔ Shortest bs) → hex_text (take n out) ≡ form_text bs
other_form n bs out e w same told =
    let p = form_in_front 4096 n bs e out w in
    let same_bytes = bytes_eq (shortest_form bs) bs in
    let d = same_from_decides false same_bytes (λ t. told.0 (sym t), λ s. sym (told.1 s)) (Decides-like same_bytes same.only same.stays (bytes_eq-Decides (shortest_form bs) bs)) in
    grind arith

pub ruleset forms = (other_form, never_refused)
