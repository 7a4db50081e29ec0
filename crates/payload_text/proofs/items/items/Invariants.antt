use Rattle.std.proofs.Common.{length, vec_items}
use Rattle.payload_text.proofs.Ahead.{Ahead}
use Rattle.payload_text.proofs.items.items.Given as goal

abbrev pub invariant-loop-heap : goal.invariant-loop-heap
invariant-loop-heap g l = Ahead g.I.Item.meaning l.text (vec_items l.bytes) l.rest

abbrev pub decreases-loop-heap : goal.decreases-loop-heap
decreases-loop-heap g l = length l.rest
