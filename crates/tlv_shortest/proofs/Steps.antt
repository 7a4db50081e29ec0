-- Reading the items of a container, one by one.
use Rattle.std.proofs.Common.{◌≡◌, ℕ, zero, suc, ◌+◌, ◌-◌, ◌<◌, ◌≤◌, List, ◌∷◌, length, refl, ap, ◌∙◌, arith, length-append}
use Rattle.tlv.specs.declared.entries.Entry.{Entry}
use Rattle.tlv.specs.Entries.{entries}
use Rattle.tlv.specs.Grammar.{within}
use Rattle.tlv_shortest.specs.Items.{item, items_to, items_from}

pub items_first : (n : ℕ) (bs : List ℕ) (e : Entry) (rest : List Entry) → 0 < n
    → items_from n bs (e ∷ rest) ≡ item (items_to (n - 1) bs) bs e (within e.kind) (items_from n bs rest)
items_first zero bs e rest h = absurd (omega arith)
items_first (suc n) bs e rest h =
    let q : n ≡ suc n - 1 = omega arith in
    ap (λ (m : ℕ). item (items_to m bs) bs e (within e.kind) (items_from (suc n) bs rest)) q

pub items_inside : (n : ℕ) (bs : List ℕ) (at end : ℕ) → items_to n bs at end ≡ items_from n bs (entries bs at end)
unfolding items_to
items_inside zero bs at end = refl
items_inside (suc n) bs at end = refl

pub ruleset reading = (items_first, items_inside, length-append)
