use Rattle.std.proofs.Common.{◌≡◌, ◌+◌, false, drop}
use Rattle.lexer.specs.Lines.{comment_at}
use Rattle.lexer.proofs.line.without_comment.Given as goal

abbrev pub invariant-loop-n : goal.invariant-loop-n
invariant-loop-n l = l.n + comment_at l.quoted (drop l.n l.line) ≡ comment_at false l.line
