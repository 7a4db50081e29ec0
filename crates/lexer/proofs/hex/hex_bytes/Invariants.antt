use Rattle.std.proofs.Common.{◌≡◌, false, length, get_or, vec_items}
use Rattle.lexer.specs.Chars.{is_blank}
use Rattle.lexer.specs.Hex.{hex_on, hex_of}
use Rattle.lexer.proofs.hex.hex_bytes.Given as goal

abbrev pub invariant-loop-rest : goal.invariant-loop-rest
invariant-loop-rest l = record {
  reads : hex_on (vec_items l.bytes) l.rest ≡ hex_of l.text;
  begins : is_blank (get_or l.rest 0 0) ≡ false;
}

abbrev pub decreases-loop-rest : goal.decreases-loop-rest
decreases-loop-rest l = length l.rest
