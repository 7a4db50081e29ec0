-- The shortest form of a payload says what the payload says, and is its own shortest form.
use Rattle.std.specs.Prelude.{◌≡◌, ℕ, ◌≤◌, List, length, Some, None, Ok, Err, Option, Result}
use Rattle.integer.specs.Integer.{Bytes}
use Rattle.tlv.specs.declared.fault.CallFault.{CallFault}
use Rattle.tlv.specs.Grammar.{verdict}
use Rattle.tlv_shortest.specs.Items.{items}
use Rattle.tlv_shortest.specs.Shortest.{Shortest, shortest_form}

-- READ BACK: what is written for a payload is well formed, has the same entries at every level, and is no
-- longer; no payload with these entries is shorter.
pub record ReadBack (bs : List ℕ) : Type 0 where
  pub well_formed : verdict (shortest_form bs) ≡ Ok tt
  pub same : items (shortest_form bs) ≡ items bs
  pub no_longer : length (shortest_form bs) ≤ length bs
  pub least : (cs : List ℕ) → Bytes cs → verdict cs ≡ Ok tt → items cs ≡ items bs → length (shortest_form bs) ≤ length cs

abbrev pub ReadsBack : Type 0
ReadsBack = (bs : List ℕ) → Bytes bs → verdict bs ≡ Ok tt → ReadBack bs

-- WRITTEN THE SAME: a payload is written byte for byte as it was where every header of it is shortest, and
-- only there. What is written has shortest headers alone, and is the one payload with these entries that has.
pub record WrittenSame (bs : List ℕ) : Type 0 where
  pub stays : Shortest bs → shortest_form bs ≡ bs
  pub only : shortest_form bs ≡ bs → Shortest bs
  pub reached : Shortest (shortest_form bs)
  pub one : (cs : List ℕ) → Bytes cs → verdict cs ≡ Ok tt → items cs ≡ items bs → Shortest cs → cs ≡ shortest_form bs

abbrev pub RewritesSame : Type 0
RewritesSame = (bs : List ℕ) → Bytes bs → verdict bs ≡ Ok tt → WrittenSame bs

-- the length of a payload's form, of which rewriting the payload tells only where it is another than that
abbrev pub length_of : List ℕ → Result (Option ℕ) CallFault → Result ℕ CallFault
length_of bs (Ok None) = Ok (length bs)
length_of bs (Ok (Some n)) = Ok n
length_of bs (Err e) = Err e
