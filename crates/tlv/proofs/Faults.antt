-- A container's fault, entry by entry.
use Rattle.std.proofs.Common.{◌≡◌, ℕ, List, [], ◌∷◌, refl, ap, ◌∙◌, arith}
use Rattle.tlv.specs.declared.entries.Entry.{Entry}
use Rattle.tlv.specs.Entries.{entries}
use Rattle.tlv.specs.declared.grammar.Container.{Container}
use Rattle.tlv.specs.declared.grammar.Container.TheVariants.{Payload, Instance, Multiple}
use Rattle.tlv.specs.Grammar.{Fault, or_else, first_of, reach, entry_fault, ends, filled, nothing, in_multiple, below, fault}

first_same : (f g : Entry → Fault) → ((e : Entry) → f e ≡ g e) → (at end : ℕ) (es : List Entry)
    → or_else (first_of f es) (ends (reach at es) end) ≡ or_else (first_of g es) (ends (reach at es) end)
first_same f g h at end es = ap (λ (a : Fault). or_else a (ends (reach at es) end)) (by es)
  where
    by : (es : List Entry) → first_of f es ≡ first_of g es
    by [] = refl
    by (e ∷ es) = ap (λ (a : Fault). or_else a (first_of f es)) (h e) ∙ ap (or_else (g e)) (by es)

-- So the rule is one and the same at each level: below an entry that is allowed, `fault` itself.
pub fault_filled : (c : Container) (bs : List ℕ) (at end : ℕ) → fault c bs at end ≡ filled fault c bs at end (entries bs at end)
unfolding fault
fault_filled Payload bs at end = first_same (entry_fault below Payload bs) (entry_fault fault Payload bs) (λ e. grind arith) at end (entries bs at end)
fault_filled Instance bs at end = first_same (entry_fault in_multiple Instance bs) (entry_fault fault Instance bs) (λ e. grind arith) at end (entries bs at end)
fault_filled Multiple bs at end = first_same (entry_fault nothing Multiple bs) (entry_fault fault Multiple bs) (λ e. grind arith) at end (entries bs at end)
