use Rattle.std.proofs.Common.{◌≡◌, drop}
use Rattle.lexer.specs.Lines.{plain_from}
use Rattle.lexer.proofs.line.is_plain.Given as goal

abbrev pub invariant-loop-c : goal.invariant-loop-c
invariant-loop-c l = plain_from l.previous (drop l.c-index l.line) ≡ plain_from 0 l.line
