use Rattle.std.proofs.Common.{◌≡◌, true, arith}
use Rattle.std.proofs.lemmas.Grind.{common_steps}
use Rattle.payload_text.specs.Notation.{goes_on}
use Rattle.payload_text.proofs.Ahead.{ahead_more}
use Rattle.payload_text.proofs.items.items.Goals as goal

-- one item on; by hand, because the turns that are left are a value, and no equation tells a search which
pub loop-heap-preserved : goal.loop-heap-preserved
loop-heap-preserved g c =
    let on : goes_on c.loop-heap.rest.now ≡ true = grind (arith, common_steps) in
    let item = c.in_ok-item.ensures in
    let skip = c.skip_blanks-rest-in-loop-heap.ensures in
    ahead_more c.loop-heap.invariant on item.0 item.1 c.deref.ensures.value c.in_ok-extend_from_slice.ensures.items skip.skips skip.within
