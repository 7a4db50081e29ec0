use Rattle.std.proofs.Common.{◌≡◌, ℕ, ◌/◌, eqb, length, get_or, take, rules, tests}
use Rattle.std.specs.List.{list_all}
use Rattle.std.proofs.lemmas.Iterator.{YieldsList-from_slice}
use Rattle.std.proofs.lemmas.Iterator.Search.{all_from_yields_List}
use Rattle.integer.specs.Integer.{fill_of, spare_half}
use Rattle.integer.proofs.halving.spare_half.Goals as goal

pub returns-then-not-is_empty : goal.returns-then-not-is_empty
unfolding spare_half
returns-then-not-is_empty c =
    let v = c.args.v.now in
    let test = λ (x : ℕ). eqb x (fill_of (get_or v (length v / 2) 0)) in
    let e : c.all.result ≡ list_all test (take (length v / 2) v)
    = all_from_yields_List test _ _ c.all.result c.all.ensures.ran (YieldsList-from_slice (take (length v / 2) v) (search rules)) (λ x b q k. search (rules, tests)) in
    search (rules, e)
