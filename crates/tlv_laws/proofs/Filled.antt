-- The grammar, and what is accepted.
use Rattle.std.proofs.Common.{◌≡◌, ℕ, false, leb, List, length, arith}
use Rattle.std.proofs.lemmas.Bool.Decides.{nat_tests}
use Rattle.tlv.specs.declared.grammar.Container.{Container}
use Rattle.tlv_shortest.specs.Items.{Items, none, plain, holder}
use Rattle.tlv_laws.specs.Fills.{Fills, none as no-fill, leaf, node, AcceptsGrammar}
use Rattle.tlv_laws.proofs.Readings.{Reads, no_entry, of_bytes, of_entries, Reading, well_formed, accepts}

fills : {c : Container} {xs : List ℕ} {t : Items} → Reads c xs t → Fills c xs
fills no_entry = no-fill
fills (of_bytes k id hd v a w h f) = leaf k id hd v a w h (fills f)
fills (of_entries k id hd d a w h b f) = node k id hd d a w h (fills b) (fills f)

says : {c : Container} {xs : List ℕ} → Fills c xs → Reading c xs
says no-fill = record { said = none; reads = no_entry }
says (leaf k id hd v a w h f) =
    let r = says f in record { said = plain k id v r.said; reads = of_bytes k id hd v a w h r.reads }
says (node k id hd d a w h b f) =
    let i = says b in
    let r = says f in
    record { said = holder k id i.said r.said; reads = of_entries k id hd d a w h i.reads r.reads }

pub accepts_grammar : AcceptsGrammar
accepts_grammar bs =
    record {
      all = λ l f. let r = says f in accepts bs r.said l r.reads;
      short = λ e. (well_formed bs e).short;
      only = λ e. fills (well_formed bs e).said;
      long = λ l. let s : leb (length bs) 4096 ≡ false = grind (arith, nat_tests) in cc;
    }
