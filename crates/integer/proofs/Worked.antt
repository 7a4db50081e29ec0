-- The worked integers, by computing.
use Rattle.std.proofs.Common.{refl}
use Rattle.integer.specs.Integer.{signed, is_width, spare_half, shortest, eight_bytes}
use Rattle.integer.specs.Worked.{WorkedIntegers}

pub worked : WorkedIntegers
unfolding signed is_width spare_half shortest eight_bytes
worked = record {
  kept_127 = refl;
  form_127 = refl;
  read_127 = refl;
  kept_128 = refl;
  form_128 = refl;
  read_128 = refl;
  kept_minus_128 = refl;
  form_minus_128 = refl;
  read_minus_128 = refl;
  kept_65535 = refl;
  form_65535 = refl;
  read_65535 = refl;
  form_three = refl;
}
