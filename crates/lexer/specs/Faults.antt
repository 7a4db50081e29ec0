-- What a reader answers: a meaning, or what was expected and how many bytes of the text were left there.
use Rattle.std.specs.Prelude.{◌≡◌, ℕ, ◌+◌, ◌-◌, cond, ◌&&◌, List, [], length, take, drop, Ok, Err, vec_items, Result, Vec, nat_le}
use Rattle.std.specs.declared.alloc.Global.{Global}
use Rattle.lexer.specs.declared.chars.Class.TheVariants.{Word}
use Rattle.lexer.specs.Chars.{front_of}
use Rattle.lexer.specs.declared.fault.Expected.{Expected}
use Rattle.lexer.specs.declared.fault.BadLine.{BadLine}
use Rattle.lexer.specs.declared.fault.Misread.{Misread}
use Rattle.lexer.specs.declared.fault.Fault.{Fault}
use Rattle.lexer.specs.declared.fault.Fault.TheVariants.{Wrong, NoMemory}

-- reading stopped where the text `t` is left
abbrev pub stopped : Expected → List ℕ → Misread
stopped e t = record { expected = e; left = length t }

-- one reader after another: the first fault counts
abbrev pub then : {X Y : Type 0} → Result X Misread → (X → Result Y Misread) → Result Y Misread
then (Ok x) f = f x
then (Err e) f = Err e

-- The part of a whole text at fault: the rest of the word at which reading stopped.
abbrev pub fault_from : List ℕ → Misread → ℕ
fault_from whole e = length whole - e.left

abbrev pub blamed : List ℕ → Misread → BadLine
blamed whole e =
    record {
      expected = e.expected;
      from = fault_from whole e;
      to = fault_from whole e + length (front_of Word (drop (fault_from whole e) whole));
    }

-- the bytes at fault in their line; none in a shorter one
abbrev pub part_of : BadLine → List ℕ → List ℕ
part_of b line = cond (nat_le b.from b.to && nat_le b.to (length line)) (take (b.to - b.from) (drop b.from line)) []

-- a meaning, or its fault told by the part of the whole text
abbrev pub placed : {M : Type 0} → List ℕ → Result M Misread → Result M BadLine
placed whole (Ok m) = Ok m
placed whole (Err e) = Err (blamed whole e)

-- A reader that allocates gives the bytes of the meaning `m`, or its fault; want of memory says nothing of
-- the text.
abbrev pub Gives : {E : Type 0} → Result (Vec ℕ Global) (Fault E) → Result (List ℕ) E → Type 0
Gives (Ok v) m = m ≡ Ok (vec_items v)
Gives (Err (Wrong e)) m = m ≡ Err e
Gives (Err (NoMemory e)) m = Unit {0}

-- what holds of that which is wrong, if something is
abbrev pub ForWrong : {E : Type 0} → Fault E → (E → Type 0) → Type 0
ForWrong (Wrong e) P = P e
ForWrong (NoMemory e) P = Unit {0}

-- the same fault, but for what is wrong, which a call turned
abbrev pub Turned : {E T : Type 0} → (E → T → Type 0) → Fault E → Fault T → Type 0
Turned P (Wrong e) (Wrong t) = P e t
Turned P (Wrong e) (NoMemory a) = ⊥
Turned P (NoMemory a) (Wrong t) = ⊥
Turned P (NoMemory a) (NoMemory b) = a ≡ b
