use Rattle.std.proofs.Common.{◌≡◌}
use Rattle.tlv.specs.Walk.{entries_left}
use Rattle.tlv.specs.Grammar.{levels, fault, filled}
use Rattle.tlv.proofs.grammar.+check.Given as goal

abbrev pub decreases-check : goal.decreases-check
decreases-check l = levels l.c

-- What is left of the container has the fault of the whole.
abbrev pub invariant-loop-e : goal.invariant-loop-e
invariant-loop-e l = record {
  narrowed : l.guard.limit.now ≡ l.end;
  same_fault : fault l.c l.bytes l.start l.end ≡ filled fault l.c l.bytes l.reached l.end (entries_left l.e-iterator);
}
