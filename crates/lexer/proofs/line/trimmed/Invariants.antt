use Rattle.std.proofs.Common.{◌≡◌, length}
use Rattle.lexer.specs.Lines.{trimmed_of}
use Rattle.lexer.proofs.line.trimmed.Given as goal

abbrev pub invariant-loop-text : goal.invariant-loop-text
invariant-loop-text l = trimmed_of l.text ≡ trimmed_of l.fn.text

abbrev pub decreases-loop-text : goal.decreases-loop-text
decreases-loop-text l = length l.text
