-- Entries in their shortest form, written into a lent buffer.
use Rattle.std.specs.Prelude.{ℕ, ◌+◌, ◌-◌, cond, List, ◌++◌, length, take, drop, replicate, Ok, Err, Result, nat_le, nat_lt}
use Rattle.reason.specs.declared.Reason.{Reason}
use Rattle.reason.specs.declared.Reason.TheVariants.{DoesNotFit, NoRoom}
use Rattle.tlv.specs.declared.header.Kind.{Kind}
use Rattle.tlv.specs.Header.{short_header}

-- an entry: the shortest header for its value, and the value
abbrev pub encoded : Kind → ℕ → List ℕ → List ℕ
encoded k id v = short_header k id (length v) ++ v

-- `bs` in the place of what stood from `at` on; the other bytes are as before
abbrev pub written : List ℕ → ℕ → List ℕ → List ℕ
written old at bs = take at old ++ (bs ++ drop (at + length bs) old)

-- Putting `bs`, whose value has `n` bytes, at `at` of a buffer with `room` bytes: where it ends, or the
-- refusal: a value over 16,777,215 bytes does not fit in any header, and is told first.
abbrev pub append_answer : ℕ → ℕ → ℕ → List ℕ → Result ℕ Reason
append_answer room at n bs =
    cond (nat_lt n 16777216) (cond (nat_le (at + length bs) room) (Ok (at + length bs)) (Err NoRoom)) (Err DoesNotFit)

-- an append that is refused leaves the buffer as it was
abbrev pub append_leaves : Result ℕ Reason → List ℕ → ℕ → List ℕ → List ℕ
append_leaves (Ok end) old at bs = written old at bs
append_leaves (Err e) old at bs = old

-- a buffer of `room` bytes that holds `bs` and zeros behind it
abbrev pub padded : ℕ → List ℕ → List ℕ
padded room bs = bs ++ replicate (room - length bs) 0

-- a whole write fills the buffer: with the bytes and zeros behind them, or with zeros alone where refused
abbrev pub write_leaves : Result ℕ Reason → ℕ → List ℕ → List ℕ
write_leaves (Ok end) room bs = padded room bs
write_leaves (Err e) room bs = replicate room 0
