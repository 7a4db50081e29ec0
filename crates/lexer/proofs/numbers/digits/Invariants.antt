use Rattle.std.proofs.Common.{◌≡◌, ◌≤◌, drop}
use Rattle.lexer.specs.Numbers.{at_most, digits_on}
use Rattle.lexer.proofs.numbers.digits.Given as goal

abbrev pub invariant-loop-c : goal.invariant-loop-c
invariant-loop-c l =
    (l.n ≤ l.most)
    × (at_most l.most (digits_on l.n (drop l.c-index l.text)) ≡ at_most l.most (digits_on 0 l.text))
