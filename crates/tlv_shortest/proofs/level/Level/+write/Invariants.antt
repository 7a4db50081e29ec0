use Rattle.std.proofs.Common.{length}
use Rattle.tlv_shortest.specs.Levels.{form_of}
use Rattle.tlv_shortest.proofs.Turns.{Moved}
use Rattle.tlv_shortest.proofs.level.Level.+write.Given as goal

abbrev pub decreases-write : goal.decreases-write
decreases-write l = length (form_of l.self)

-- Writing what is left where the last one ended gives the whole.
abbrev pub invariant-loop-item : goal.invariant-loop-item
invariant-loop-item l = Moved l.initial.out l.from (form_of l.fn.self) l.out l.to (form_of l.item-iterator)
