use Rattle.std.proofs.Common.{◌≡◌, take, drop, rules, tests, ap, ◌∙◌, arith}
use Rattle.std.specs.List.{prefix_len}
use Rattle.std.proofs.lemmas.Iterator.{YieldsList-from_slice}
use Rattle.std.proofs.lemmas.Iterator.Consumers.{count_from_yields_List}
use Rattle.std.proofs.lemmas.Iterator.Search.{YieldsList-from_take_while}
use Rattle.std.proofs.lemmas.List.Folds.{length-prefix_len}
use Rattle.lexer.specs.Chars.{in_class, front_of, rest_of}
use Rattle.lexer.proofs.chars.split.Goals as goal

pub returns : goal.returns
unfolding front_of rest_of
returns c =
    let t = c.args.text.now in
    let n : c.count-n.result ≡ prefix_len (in_class c.args.class) t =
    count_from_yields_List c.take_while.result _ c.count-n.ensures.ran
    (YieldsList-from_take_while _ (in_class c.args.class) (YieldsList-from_slice t cc) c.take_while.ensures.closure c.take_while.ensures.done (λ x b q k. search (rules, tests)))
    ∙ length-prefix_len (in_class c.args.class) t in
    record {
      front = c.split_at.ensures.front ∙ ap (λ k. take k t) n;
      rest = c.split_at.ensures.back ∙ ap (λ k. drop k t) n;
      whole = omega (arith, c.split_at.ensures.front_len, c.split_at.ensures.back_len);
    }
