-- How a fault travels from the entry reader to the caller: reason and place arrive as they were found.
use Rattle.std.specs.Prelude.{ℕ, Ok, Err, Result}
use Rattle.reason.specs.declared.Reason.{Reason}
use Rattle.reason.specs.declared.Reason.TheVariants.{NotWellFormed}
use Rattle.tlv.specs.declared.fault.EntryFault.{EntryFault}
use Rattle.tlv.specs.declared.fault.PayloadFault.{PayloadFault}
use Rattle.tlv.specs.declared.fault.PayloadFault.TheVariants.{TooLong, Entry}
use Rattle.tlv.specs.declared.fault.CallFault.{CallFault}

-- an entry that passes the end of its container, or is of a kind not allowed there
abbrev pub fault_at : ℕ → EntryFault
fault_at place = record { reason = NotWellFormed; place = place }

abbrev pub of_entry : EntryFault → PayloadFault
of_entry e = Entry e

abbrev pub of_payload : PayloadFault → CallFault
of_payload TooLong = record { reason = NotWellFormed; place = 0 }
of_payload (Entry e) = record { reason = e.reason; place = e.place }

-- a reason that is not about an entry has place 0
abbrev pub of_reason : Reason → CallFault
of_reason r = record { reason = r; place = 0 }

-- a result whose fault is lifted
abbrev pub lifted : {T E F : Type 0} → (E → F) → Result T E → Result T F
lifted f (Ok x) = Ok x
lifted f (Err e) = Err (f e)
