-- What is known of a payload whose shortest form was written.
use Rattle.std.proofs.Common.{◌≡◌, ℕ, ◌-◌, Bool, eqb, List, length, take, replicate, Ok, Decides, sym, ap, ◌∙◌, arith}
use Rattle.std.specs.Cmp.Lexicographic.{pointwise}
use Rattle.std.proofs.lemmas.Bool.Decides.{nat_tests, Decides-eqb}
use Rattle.std.proofs.lemmas.List.{take_at}
use Rattle.std.proofs.lemmas.Slice.Eq.{slice_eq-Decides}
use Rattle.tlv.specs.Grammar.{verdict}
use Rattle.tlv_writer.specs.Write.{padded}
use Rattle.tlv_shortest.specs.Shortest.{Shortest, shortest_form, shortest_answer}
use Rattle.tlv_laws.specs.Forms.{ReadBack, WrittenSame}
use Rattle.integer.specs.Integer.{Bytes}
use Rattle.tlv_laws.proofs.Back.{reads_back}
use Rattle.tlv_laws.proofs.Same.{rewrites_same}
use Rattle.tlv_laws.proofs.Headers.{shortest_header}

module _ (room n : ℕ) (bs : List ℕ) (e : Ok n ≡ shortest_answer room bs) where
  well : verdict bs ≡ Ok tt
  well = grind (arith, nat_tests)

  long : length (shortest_form bs) ≡ n
  long = grind (arith, nat_tests)

  -- the front of the buffer is the form
  pub form_in_front : (out : List ℕ) → out ≡ padded room (shortest_form bs) → take n out ≡ shortest_form bs
  form_in_front out w = ap (take n) w ∙ take_at (shortest_form bs) (replicate (room - length (shortest_form bs)) 0) n long

  pub read_back : Bytes bs → ReadBack bs
  read_back b = reads_back bs b well

  pub written_same : Bytes bs → WrittenSame bs
  written_same b = rewrites_same bs b well

  -- being its own shortest form decides whether a payload is in shortest form
  pub shortest_told : (r : Bool) (out : List ℕ) → Bytes bs → out ≡ padded room (shortest_form bs) → r ≡ pointwise eqb (take n out) bs
      → Decides r (Shortest bs)
  shortest_told r out b w p =
      let s = written_same b in
      let f = form_in_front out w in
      let d = slice_eq-Decides Decides-eqb _ _ _ p in
      (λ t. s.only (sym f ∙ d.0 t), λ x. d.1 (f ∙ s.stays x))

-- what rewriting a payload tells
pub ruleset rewriting = (shortest_told, read_back, written_same, shortest_header)
