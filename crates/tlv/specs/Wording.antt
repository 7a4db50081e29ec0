-- How a kind and a refusal are written.
use Rattle.std.specs.Prelude.{List, ℕ, ◌∷◌, ◌++◌, codes, decimal}
use Rattle.reason.specs.Reason.{number_of, code_of, code_text}
use Rattle.tlv.specs.declared.header.Kind.{Kind}
use Rattle.tlv.specs.declared.header.Kind.TheVariants.{ObjectInstance, ResourceInstance, MultipleResource, Resource}
use Rattle.tlv.specs.declared.fault.CallFault.{CallFault}

abbrev pub kind_text : Kind → List ℕ
kind_text ObjectInstance = codes "Object Instance"
kind_text ResourceInstance = codes "Resource Instance"
kind_text MultipleResource = codes "multiple Resource"
kind_text Resource = codes "Resource"

-- code, number of the reason, and place, a blank between them
abbrev pub fault_words : CallFault → List ℕ
fault_words f = code_text (code_of f.reason) ++ (32 ∷ (decimal (number_of f.reason) ++ (32 ∷ decimal f.place)))
