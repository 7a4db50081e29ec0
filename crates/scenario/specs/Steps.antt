-- The steps of a scenario.
use Rattle.std.specs.Prelude.{◌≡◌, ℕ, ◌<◌, ◌≤◌, Bool, true, false, cond, List, length, ℤ, Some, None, Ok, Err, codes, Option, Result, ◌==◌}
use Rattle.std.specs.Option.{ok_or}
use Rattle.std.specs.Result.{result_map_both}
use Rattle.tlv.specs.declared.header.Kind.{Kind}
use Rattle.tlv.specs.declared.header.Kind.TheVariants.{ObjectInstance, ResourceInstance, MultipleResource, Resource}
use Rattle.lexer.specs.declared.fault.Expected.{Expected}
use Rattle.lexer.specs.declared.fault.Expected.TheVariants as expected
use Rattle.lexer.specs.declared.fault.BadLine.{BadLine}
use Rattle.lexer.specs.declared.fault.Misread.{Misread}
use Rattle.scenario.specs.declared.step.Step.{Step}
use Rattle.scenario.specs.declared.step.Step.TheVariants as step
use Rattle.lexer.specs.Faults.{stopped, then, placed}
use Rattle.lexer.specs.Lines.{Text, body_of}
use Rattle.lexer.specs.Numbers.{number_of, decimal_of}
use Rattle.lexer.specs.Words.{same, skip_blanks, word_of, behind_word}

abbrev pub kind_named : List ℕ → Option Kind
kind_named w =
    cond (same w (codes "instance")) (Some ObjectInstance)
    (cond (same w (codes "element")) (Some ResourceInstance)
    (cond (same w (codes "multiple")) (Some MultipleResource)
    (cond (same w (codes "resource")) (Some Resource) None)))

-- what a step asks for
pub data Meaning : Type 0 where
  blank : Meaning
  echo : Bool → Meaning
  say : List ℕ → Meaning
  check : List ℕ → Meaning
  header : Kind → ℕ → ℕ → Meaning
  integer : ℤ → Meaning

abbrev pub meaning_of : Step → Meaning
meaning_of step.Blank = blank
meaning_of (step.Echo on) = echo on
meaning_of (step.Say t) = say t.now
meaning_of (step.Check t) = check t.now
meaning_of (step.Header tag n) = header tag.kind tag.id n
meaning_of (step.Integer z) = integer z

abbrev pub meant : {E : Type 0} → Result Step E → Result Meaning E
meant r = result_map_both meaning_of (λ e. e) r

-- on or off
abbrev pub echo_of : List ℕ → Result Meaning Misread
echo_of t =
    cond (same t (codes "on")) (Ok (echo true))
    (cond (same t (codes "off")) (Ok (echo false)) (Err (stopped expected.OnOrOff t)))

-- a kind, an identifier and a length
unfoldable pub header_of : List ℕ → Result Meaning Misread
header_of t =
    then (ok_or (kind_named (word_of t)) (stopped expected.Kind t)) (λ k.
    then (ok_or (number_of 65535 (word_of (behind_word t))) (stopped expected.Number (behind_word t))) (λ i.
    then (ok_or (number_of 4294967295 (behind_word (behind_word t))) (stopped expected.Length (behind_word (behind_word t)))) (λ n.
    Ok (header k i n))))

-- a signed number
unfoldable pub integer_of : List ℕ → Result Meaning Misread
integer_of t = then (ok_or (decimal_of t) (stopped expected.Decimal t)) (λ z. Ok (integer z))

-- the step of the text `t`, whose first word is `w`, with `rest` behind it; no word at all is a blank line
abbrev pub step_by_word : List ℕ → List ℕ → List ℕ → Result Meaning Misread
step_by_word w rest t =
    cond (length w == 0) (Ok blank)
    (cond (same w (codes "echo")) (echo_of rest)
    (cond (same w (codes "say")) (Ok (say rest))
    (cond (same w (codes "check")) (Ok (check rest))
    (cond (same w (codes "header")) (header_of rest)
    (cond (same w (codes "integer")) (integer_of rest)
    (Err (stopped expected.Step t)))))))

-- the step of a text that begins with no blank
abbrev pub step_of : List ℕ → Result Meaning Misread
step_of t = step_by_word (word_of t) (behind_word t) t

-- what a line that is text and not too long is read as
abbrev pub reading_of : List ℕ → Result Meaning BadLine
reading_of line = placed (body_of line) (step_of (skip_blanks (body_of line)))

-- the whole line is at fault, and no part of it is fit to be shown
abbrev pub all_bad : Expected → BadLine
all_bad e = record { expected = e; from = 0; to = 0 }

-- What a line is read as. Bytes that are no text, and more than 16,384 of them, are bad lines.
pub record Reads (line : List ℕ) (r : Result Step BadLine) : Type 0 where
  pub long : 16384 < length line → r ≡ Err (all_bad expected.ShorterLine)
  pub other : length line ≤ 16384 → (Text line → ⊥) → r ≡ Err (all_bad expected.Text)
  pub read : length line ≤ 16384 → Text line → meant r ≡ reading_of line
