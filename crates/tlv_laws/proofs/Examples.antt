-- Worked bytes.
use Rattle.std.proofs.Common.{refl}
use Rattle.integer.specs.Integer.{spare_half, shortest, eight_bytes}
use Rattle.tlv.specs.Entries.{entry_at, entries_by, entries}
use Rattle.tlv.specs.Grammar.{fault}
use Rattle.tlv_shortest.specs.Shortest.{ShortTo}
use Rattle.tlv_laws.specs.Worked.{WorkedBytes}

pub worked_bytes : WorkedBytes
unfolding entry_at entries_by entries fault ShortTo spare_half shortest eight_bytes
worked_bytes =
    record {
      seven = refl;
      eight = refl;
      wide = refl;
      one_byte = refl;
      two_bytes = refl;
      nested = refl;
      nested-shortest =
          (refl, ((refl, (tt, (refl, (tt, (refl, ((refl, (tt, tt)), (refl, (tt, tt)))))))), tt));
      cut = refl;
      cut_inside = refl;
      cut-header = refl;
      longest = refl;
      too_long = refl;
      integer_127 = refl;
      integer_128 = refl;
      integer_minus_128 = refl;
      integer_65535 = refl;
    }
