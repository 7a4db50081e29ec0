use Rattle.std.proofs.Common.{◌+◌, drop, sym, ap, ◌∙◌, arith}
use Rattle.std.proofs.lemmas.List.{at_drop_all}
use Rattle.std.proofs.lemmas.Bool.Decides.{nat_tests}
use Rattle.lexer.specs.Numbers.{at_most, digits_on}
use Rattle.lexer.proofs.Reading.{too_large, digits_more, digits_stop}
use Rattle.lexer.proofs.numbers.digits.Goals as goal

pub returns-then-not-holds : goal.returns-then-not-holds
returns-then-not-holds c =
    record {
      says =
          ap (at_most c.args.most) (sym (digits_stop c.loop-c.n c.args.text.now c.loop-c.c-index c.loop-c-test.true (sym c.if-not-holds.ensures)))
          ∙ c.loop-c.invariant.1;
      small = tt;
    }

pub returns-then-next-most : goal.returns-then-next-most
returns-then-next-most c =
    record {
      says =
          sym (too_large c.args.most _ (drop (c.loop-c.c-index + 1) c.args.text.now) c.if-next-most.true)
          ∙ (ap (at_most c.args.most) (sym (digits_more c.loop-c.n c.args.text.now c.loop-c.c-index c.loop-c-test.true (sym c.if-not-holds.ensures)))
          ∙ c.loop-c.invariant.1);
      small = tt;
    }

pub loop-c-preserved : goal.loop-c-preserved
loop-c-preserved c = (
  c.if-next-most.false,
  ap (at_most c.args.most) (sym (digits_more c.loop-c.n c.args.text.now c.loop-c.c-index c.loop-c-test.true (sym c.if-not-holds.ensures)))
      ∙ c.loop-c.invariant.1,
)

pub returns : goal.returns
unfolding digits_on
returns c =
    let e = ap (at_most c.args.most) (at_drop_all (digits_on c.loop-c.n) c.args.text.now c.loop-c.c-index (omega arith)) in
    let i = c.loop-c.invariant in
    record { says = grind (arith, nat_tests); small = i.0 }
