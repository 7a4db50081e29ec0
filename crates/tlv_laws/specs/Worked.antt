-- Worked bytes, as one statement over the definitions.
use Rattle.std.specs.Prelude.{◌≡◌, ℕ, List, [], ◌∷◌, replicate, pos, negsuc, Ok, Err}
use Rattle.integer.specs.Integer.{kept_of}
use Rattle.tlv.specs.declared.header.Kind.TheVariants.{Resource}
use Rattle.tlv.specs.declared.fault.PayloadFault.TheVariants.{Entry, TooLong}
use Rattle.tlv.specs.Header.{short_header}
use Rattle.tlv.specs.Faults.{fault_at}
use Rattle.tlv.specs.Grammar.{verdict}
use Rattle.tlv_shortest.specs.Shortest.{Shortest}

-- An Object Instance 0 with Resource 0 of value 1, Resource 1 of value 0, multiple Resource 2 with Resource
-- Instance 1 of value 7, and Resource 3 of value 1.
abbrev pub worked : List ℕ
worked =
    0x08 ∷ 0x00 ∷ 0x0E ∷ 0xC1 ∷ 0x00 ∷ 0x01 ∷ 0xC1 ∷ 0x01 ∷ 0x00 ∷ 0x83 ∷ 0x02 ∷ 0x41 ∷ 0x01 ∷ 0x07 ∷ 0xC1 ∷ 0x03 ∷ 0x01 ∷ []

pub record WorkedBytes : Type 0 where
  -- up to 7 bytes the length stands in the type byte, from 8 on behind the identifier
  pub seven : short_header Resource 255 7 ≡ 0xC7 ∷ 0xFF ∷ []
  pub eight : short_header Resource 255 8 ≡ 0xC8 ∷ 0xFF ∷ 0x08 ∷ []
  -- from 256 on an identifier has two bytes, high byte first
  pub wide : short_header Resource 256 7 ≡ 0xE7 ∷ 0x01 ∷ 0x00 ∷ []
  -- and so has a length
  pub one_byte : short_header Resource 0 255 ≡ 0xC8 ∷ 0x00 ∷ 0xFF ∷ []
  pub two_bytes : short_header Resource 0 256 ≡ 0xD0 ∷ 0x00 ∷ 0x01 ∷ 0x00 ∷ []
  -- a payload with three levels is well formed, and in shortest form
  pub nested : verdict worked ≡ Ok tt
  pub nested-shortest : Shortest worked
  -- an entry that is cut off is told at its own type byte: at the end of the payload, inside a container,
  -- and where a header does not fit in its container though bytes follow
  pub cut : verdict (0xC1 ∷ []) ≡ Err (Entry (fault_at 0))
  pub cut_inside : verdict (0x08 ∷ 0x00 ∷ 0x03 ∷ 0xC2 ∷ 0x00 ∷ 0x01 ∷ []) ≡ Err (Entry (fault_at 3))
  pub cut-header : verdict (0x01 ∷ 0x00 ∷ 0xC8 ∷ 0x00 ∷ 0x00 ∷ []) ≡ Err (Entry (fault_at 2))
  -- 4,096 bytes are not too long, and 4,097 are
  pub longest : verdict (0xD0 ∷ 0x00 ∷ 0x0F ∷ 0xFC ∷ replicate 4092 0) ≡ Ok tt
  pub too_long : verdict (0xD0 ∷ 0x00 ∷ 0x0F ∷ 0xFD ∷ replicate 4093 0) ≡ Err TooLong
  -- integers are kept in the smallest width that holds them: 127, 128, -128 and 65,535
  pub integer_127 : kept_of (pos 127) ≡ 0x7F ∷ []
  pub integer_128 : kept_of (pos 128) ≡ 0x00 ∷ 0x80 ∷ []
  pub integer_minus_128 : kept_of (negsuc 127) ≡ 0x80 ∷ []
  pub integer_65535 : kept_of (pos 65535) ≡ 0x00 ∷ 0x00 ∷ 0xFF ∷ 0xFF ∷ []
