use Rattle.std.proofs.Common.{sym, ◌∙◌, arith}
use Rattle.std.proofs.lemmas.List.{at_drop_all}
use Rattle.lexer.specs.Lines.{plain_from}
use Rattle.lexer.proofs.Bodies.{plain_more, plain-stops}
use Rattle.lexer.proofs.line.is_plain.Goals as goal

pub returns-then-not-plain_after : goal.returns-then-not-plain_after
returns-then-not-plain_after c =
    sym (plain-stops c.loop-c.previous c.args.line.now c.loop-c.c-index c.loop-c-test.true (sym c.if-not-plain_after.ensures))
    ∙ c.loop-c.invariant

pub loop-c-preserved : goal.loop-c-preserved
loop-c-preserved c =
    sym (plain_more c.loop-c.previous c.args.line.now c.loop-c.c-index c.loop-c-test.true (sym c.if-not-plain_after.ensures))
    ∙ c.loop-c.invariant

pub returns : goal.returns
returns c = sym (at_drop_all (plain_from c.loop-c.previous) c.args.line.now c.loop-c.c-index (omega arith)) ∙ c.loop-c.invariant
