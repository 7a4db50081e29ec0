-- A sequence that is read item by item.
use Rattle.std.proofs.Common.{◌≡◌, ℕ, zero, suc, ◌<◌, ◌≤◌, true, List, [], ◌++◌, length, Ok, arith}
use Rattle.payload_text.specs.Notation.{Reader, goes_on, items_at, items_by, items_of}
use Rattle.lexer.specs.Words.{skip_blanks}

-- `acc` was read, and what is ahead in `rest` makes the meaning of `text`; there are turns enough for it
pub record Ahead (item : Reader) (text acc rest : List ℕ) : Type 0 where
  pub turns : ℕ
  pub enough : length rest ≤ turns
  pub few : turns ≤ length text
  pub same : items_at item (items_by item turns) acc rest ≡ items_of item text

pub ahead_start : (item : Reader) (text acc rest : List ℕ) → acc ≡ [] → rest ≡ skip_blanks text → length rest ≤ length text → Ahead item text acc rest
unfolding items_of
ahead_start item text acc rest a r h = record { turns = length text; enough = h; few = omega arith; same = rw (a, r) }

-- one item on
pub ahead_more : {item : Reader} {text acc rest bs after slice all next : List ℕ} → Ahead item text acc rest → goes_on rest ≡ true →
    item rest ≡ Ok (bs, after) → length after < length rest → slice ≡ bs → all ≡ acc ++ slice → next ≡ skip_blanks after → length next ≤ length after →
    Ahead item text all next
ahead_more {item} {text} {acc} {rest} {bs} {after} {slice} {all} {next} a on read shorter is whole skips within = by a.turns a.enough a.few a.same
  where
    by : (n : ℕ) → length rest ≤ n → n ≤ length text → items_at item (items_by item n) acc rest ≡ items_of item text → Ahead item text all next
    by zero h f s = absurd (omega arith)
    by (suc m) h f s = record { turns = m; enough = omega arith; few = omega arith; same = rw (whole, is, skips) (rw (on, read) at s) }
