-- A line is printed first, and then obeyed.
use Rattle.std.proofs.Common.{ℕ, List, Ok, Err, Result, append_assoc, arith}
use Rattle.std.specs.declared.alloc.AllocError.{AllocError}
use Rattle.lexer.specs.declared.fault.BadLine.{BadLine}
use Rattle.scenario.specs.declared.step.Step.{Step}
use Rattle.scenario.specs.Steps.{meant, Reads}
use Rattle.session.specs.declared.running.Session.{Session}
use Rattle.session.specs.Runs.{next, Echoed, Obeyed, Ran}

pub ran : (s : Session) (line old mid new : List ℕ) (q : Result Step BadLine) (r : Result (Unit {0}) AllocError) (s' : Session) (u : Unit {0})
    → Echoed s.echo line old (Ok u) mid → Reads line q → Obeyed (next s) line (meant q) mid r new s' → Ran s line old r new s'
ran s line old mid new q (Err e) s' u first reads then = record { long = λ h. tt; other = λ h n. tt; read = λ h t. tt }
ran s line old mid new q (Ok v) s' u first reads then =
    record {
      long = λ h. let e = reads.long h in let o = first.other (λ k. absurd (let n = k.0 in omega arith)) in grind (arith, append_assoc);
      other = λ h n. let e = reads.other h n in let o = first.other (λ k. n k.1) in grind (arith, append_assoc);
      read = λ h t. let e = reads.read h t in let o = first.read (h, t) in grind (arith, append_assoc);
    }
