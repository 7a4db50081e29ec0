-- What the kept form is, in terms of the number alone.
use Rattle.std.specs.Prelude.{◌≡◌, ℕ, ◌-◌, ◌≤◌, true, List, length, drop, ℤ, Some}
use Rattle.integer.specs.Integer.{Bytes, is_width, kept_form, kept_of, number_of, signed}

-- r stands for z in one of the widths, no bytes of a smaller width do, and r is its own kept form.
pub record Smallest (z : ℤ) (r : List ℕ) : Type 0 where
  pub number : signed r ≡ z
  pub width : is_width (length r) ≡ true
  pub bytes : Bytes r
  pub least : (ys : List ℕ) → Bytes ys → is_width (length ys) ≡ true → signed ys ≡ z → length r ≤ length ys
  pub again : kept_form r ≡ Some r

-- r is the end of v, and the smallest form of the number of v.
pub record Kept (v r : List ℕ) : Type 0 where
  pub suffix : r ≡ drop (length v - length r) v
  pub smallest : Smallest (signed v) r

-- r is the kept form of the number z, from which z is read again.
pub record KeptNumber (z : ℤ) (r : List ℕ) : Type 0 where
  pub form : r ≡ kept_of z
  pub read : number_of (kept_of z) ≡ Some z
  pub smallest : Smallest z (kept_of z)
