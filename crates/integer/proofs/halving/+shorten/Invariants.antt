use Rattle.std.proofs.Common.{length}
use Rattle.integer.proofs.halving.+shorten.Given as goal

abbrev pub decreases-shorten : goal.decreases-shorten
decreases-shorten l = length l.v.now
