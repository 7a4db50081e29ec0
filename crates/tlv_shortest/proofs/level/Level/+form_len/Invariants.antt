use Rattle.std.proofs.Common.{◌≡◌, ◌+◌, length}
use Rattle.tlv_shortest.specs.Levels.{form_of}
use Rattle.tlv_shortest.proofs.level.Level.+form_len.Given as goal

abbrev pub decreases-form_len : goal.decreases-form_len
decreases-form_len l = length (form_of l.self)

-- What was counted, and what is left to count, make the whole.
abbrev pub invariant-loop-item : goal.invariant-loop-item
invariant-loop-item l = l.len + length (form_of l.item-iterator) ≡ length (form_of l.fn.self)
