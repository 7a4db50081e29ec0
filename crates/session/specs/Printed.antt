-- What a step prints: texts, byte by byte.
use Rattle.std.specs.Prelude.{◌≡◌, ℕ, ◌+◌, ◌/◌, ◌%◌, cond, List, [], ◌∷◌, ◌++◌, Result, OnOk, nat_lt}
use Rattle.tlv.specs.declared.fault.CallFault.{CallFault}
use Rattle.tlv.specs.Wording.{fault_words}

-- `text` was written behind what stood there, unless memory was wanting
abbrev pub Wrote : {E : Type 0} → List ℕ → Result (Unit {0}) E → List ℕ → List ℕ → Type 0
Wrote old r text new = OnOk r (new ≡ old ++ text)

-- a hexadecimal digit, upper case
abbrev pub hex_digit : ℕ → ℕ
hex_digit d = cond (nat_lt d 10) (48 + d) (55 + d)

unfoldable pub hex_text : List ℕ → List ℕ
hex_text [] = []
hex_text (b ∷ bs) = hex_digit (b / 16) ∷ hex_digit (b % 16) ∷ hex_text bs

-- a refusal: code, number of the reason, place
abbrev pub fault_text : CallFault → List ℕ
fault_text f = fault_words f ++ (10 ∷ [])
