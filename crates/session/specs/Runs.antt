-- What running a line prints, and what it leaves.
use Rattle.std.specs.Prelude.{◌≡◌, ℕ, ◌+◌, ◌<◌, ◌≤◌, min, Bool, true, false, cond, ◌||◌, List, [], ◌∷◌, ◌++◌, length, Ok, Err, Result, OnOk}
use Rattle.std.specs.declared.alloc.AllocError.{AllocError}
use Rattle.lexer.specs.declared.fault.BadLine.{BadLine}
use Rattle.lexer.specs.declared.fault.Expected.TheVariants as expected
use Rattle.lexer.specs.Lines.{body_of, Text}
use Rattle.payload_text.specs.Notation.{payload_of}
use Rattle.scenario.specs.Steps.{Meaning, blank, echo, say, check, header, integer, reading_of, all_bad}
use Rattle.session.specs.declared.running.Session.{Session}
use Rattle.session.specs.Answers.{bad_text, meaning_text, line_text}

-- the number of the next line
abbrev pub next_number : ℕ → ℕ
next_number n = min (n + 1) 18446744073709551615

abbrev pub echoed : List ℕ → List ℕ
echoed [] = []
echoed (c ∷ cs) = 62 ∷ 32 ∷ ((c ∷ cs) ++ (10 ∷ []))

-- a line, without its comment, is printed first where that is asked for
abbrev pub echo_text : Bool → List ℕ → List ℕ
echo_text on body = cond on (echoed body) []

abbrev pub echo_after : Bool → Meaning → Bool
echo_after on blank = on
echo_after on (echo then) = then
echo_after on (say t) = on
echo_after on (check t) = on
echo_after on (header k id n) = on
echo_after on (integer z) = on

abbrev pub is_refused : Result (List ℕ) BadLine → Bool
is_refused (Ok bs) = false
is_refused (Err b) = true

-- a line whose payload cannot be read is bad, too
abbrev pub is_bad : Meaning → Bool
is_bad blank = false
is_bad (echo then) = false
is_bad (say t) = false
is_bad (check t) = is_refused (payload_of t)
is_bad (header k id n) = false
is_bad (integer z) = false

abbrev pub after : Session → Meaning → Session
after s m = record { echo = echo_after s.echo m; number = s.number; bad = s.bad || is_bad m }

abbrev pub line_after : Session → Result Meaning BadLine → Session
line_after s (Ok m) = after s m
line_after s (Err b) = record { echo = s.echo; number = s.number; bad = true }

abbrev pub next : Session → Session
next s = record { echo = s.echo; number = next_number s.number; bad = s.bad }

-- `text` was printed and `then` is left, unless memory was wanting
abbrev pub Gave : List ℕ → Result (Unit {0}) AllocError → List ℕ → Session → List ℕ → Session → Type 0
Gave old r text then new s = OnOk r ((new ≡ old ++ text) × (s ≡ then))

-- the fault of a text of the line was printed, and the session is marked
abbrev pub Refused : Session → BadLine → List ℕ → List ℕ → Result (Unit {0}) AllocError → List ℕ → Session → Type 0
Refused s bad text old r new s' = Gave old r (bad_text s.number bad text) (line_after s (Err bad)) new s'

-- what a step asks for was printed, and what it leaves is left
abbrev pub Performed : Session → Meaning → List ℕ → Result (Unit {0}) AllocError → List ℕ → Session → Type 0
Performed s m old r new s' = Gave old r (meaning_text s.number m) (after s m) new s'

-- the same for a line that was read, or could not be
abbrev pub Obeyed : Session → List ℕ → Result Meaning BadLine → List ℕ → Result (Unit {0}) AllocError → List ℕ → Session → Type 0
Obeyed s line m old r new s' = Gave old r (line_text s.number line m) (line_after s m) new s'

abbrev pub Readable : List ℕ → Type 0
Readable line = (length line ≤ 16384) × Text line

-- a line that can be read is printed first where that is asked for, and no other
pub record Echoed (on : Bool) (line old : List ℕ) (r : Result (Unit {0}) AllocError) (new : List ℕ) : Type 0 where
  pub read : Readable line → OnOk r (new ≡ old ++ echo_text on (body_of line))
  pub other : (Readable line → ⊥) → OnOk r (new ≡ old)

-- A line of bytes that are no text, or of too many, is bad, and none of it is printed.
pub record Ran (s : Session) (line old : List ℕ) (r : Result (Unit {0}) AllocError) (new : List ℕ) (s' : Session) : Type 0 where
  pub long : 16384 < length line → Obeyed (next s) line (Err (all_bad expected.ShorterLine)) old r new s'
  pub other : length line ≤ 16384 → (Text line → ⊥) → Obeyed (next s) line (Err (all_bad expected.Text)) old r new s'
  pub read : length line ≤ 16384 → Text line
      → Gave old r (echo_text s.echo (body_of line) ++ line_text (next s).number line (reading_of line)) (line_after (next s) (reading_of line)) new s'
