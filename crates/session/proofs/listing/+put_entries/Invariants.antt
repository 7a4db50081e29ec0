use Rattle.std.proofs.Common.{◌≡◌, ◌++◌, vec_items}
use Rattle.tlv.specs.Walk.{entries_left, walked}
use Rattle.session.specs.Listing.{listing}
use Rattle.session.proofs.listing.+put_entries.Given as goal

abbrev pub decreases-put_entries : goal.decreases-put_entries
decreases-put_entries l = l.levels

-- What is left to print, behind what was printed, is the whole.
abbrev pub invariant-loop-e : goal.invariant-loop-e
invariant-loop-e l =
    vec_items l.out ++ listing l.levels (walked l.fn.entries) (entries_left l.e-iterator)
    ≡ vec_items l.initial.out ++ listing l.levels (walked l.fn.entries) (entries_left l.fn.entries)
