-- Which entries may fill a container, and the first that is at fault.
use Rattle.std.specs.Prelude.{ℕ, Bool, true, false, cond, List, [], ◌∷◌, length, Some, None, Ok, Err, Option, Result, ◌==◌, nat_le}
use Rattle.tlv.specs.declared.header.Kind.{Kind}
use Rattle.tlv.specs.declared.header.Kind.TheVariants.{ObjectInstance, ResourceInstance, MultipleResource, Resource}
use Rattle.tlv.specs.declared.entries.Entry.{Entry}
use Rattle.tlv.specs.declared.fault.EntryFault.{EntryFault}
use Rattle.tlv.specs.declared.fault.PayloadFault.{PayloadFault}
use Rattle.tlv.specs.declared.fault.PayloadFault.TheVariants.{TooLong}
use Rattle.tlv.specs.declared.grammar.Container.{Container}
use Rattle.tlv.specs.declared.grammar.Container.TheVariants.{Payload, Instance, Multiple}
use Rattle.tlv.specs.Entries.{entries}
use Rattle.tlv.specs.Faults.{fault_at, of_entry, lifted}

-- A payload holds any kind, an Object Instance Resources and multiple Resources, a multiple Resource
-- Resource Instances.
abbrev pub allows : Container → Kind → Bool
allows Payload k = true
allows Instance ObjectInstance = false
allows Instance ResourceInstance = false
allows Instance MultipleResource = true
allows Instance Resource = true
allows Multiple ObjectInstance = false
allows Multiple ResourceInstance = true
allows Multiple MultipleResource = false
allows Multiple Resource = false

-- the container that the value of an entry is
abbrev pub within : Kind → Option Container
within ObjectInstance = Some Instance
within ResourceInstance = None
within MultipleResource = Some Multiple
within Resource = None

-- how many levels of containers can lie inside one
abbrev pub levels : Container → ℕ
levels Payload = 2
levels Instance = 1
levels Multiple = 0

abbrev pub Fault : Type 0
Fault = Option EntryFault

-- the first of two faults in byte order
abbrev pub or_else : Fault → Fault → Fault
or_else None g = g
or_else (Some f) g = Some f

abbrev pub first_of : (Entry → Fault) → List Entry → Fault
first_of f [] = None
first_of f (e ∷ es) = or_else (f e) (first_of f es)

-- where the entries stop
abbrev pub reach : ℕ → List Entry → ℕ
reach at [] = at
reach at (e ∷ es) = reach e.to es

-- a way to judge what lies in a container of `bs`, from an offset to an end
abbrev pub Judge : Type 0
Judge = Container → List ℕ → ℕ → ℕ → Fault

abbrev pub inside : Judge → Option Container → List ℕ → Entry → Fault
inside judge None bs e = None
inside judge (Some c) bs e = judge c bs e.from e.to

-- an entry is at fault if its kind is not allowed, else where its own entries are
abbrev pub entry_fault : Judge → Container → List ℕ → Entry → Fault
entry_fault judge c bs e = cond (allows c e.kind) (inside judge (within e.kind) bs e) (Some (fault_at e.place))

-- entries that stop before the end are followed by one that passes it
abbrev pub ends : ℕ → ℕ → Fault
ends at end = cond (at == end) None (Some (fault_at at))

-- THE RULE: the first fault of the entries, and then of where they stop
abbrev pub filled : Judge → Container → List ℕ → ℕ → ℕ → List Entry → Fault
filled judge c bs at end es = or_else (first_of (entry_fault judge c bs) es) (ends (reach at es) end)

-- The same rule one level down: nothing lies inside a Resource Instance,
abbrev pub nothing : Judge
nothing c bs at end = None

abbrev pub in_multiple : Judge
in_multiple c bs at end = filled nothing Multiple bs at end (entries bs at end)

abbrev pub in_instance : Judge
in_instance c bs at end = filled in_multiple Instance bs at end (entries bs at end)

-- and inside an entry of a payload lies what its kind says.
abbrev pub below : Judge
below Payload bs at end = None
below Instance bs at end = in_instance Instance bs at end
below Multiple bs at end = in_multiple Multiple bs at end

-- the first fault of what lies in a container from `at` to `end`
unfoldable pub fault : Judge
fault Payload bs at end = filled below Payload bs at end (entries bs at end)
fault Instance bs at end = in_instance Instance bs at end
fault Multiple bs at end = in_multiple Multiple bs at end

abbrev pub told : Fault → Result (Unit {0}) EntryFault
told None = Ok tt
told (Some f) = Err f

-- WELL FORMED: at most 4,096 bytes, filled by entries that are allowed where they stand
abbrev pub verdict : List ℕ → Result (Unit {0}) PayloadFault
verdict bs = cond (nat_le (length bs) 4096) (lifted of_entry (told (fault Payload bs 0 (length bs)))) (Err TooLong)
