-- Worked integers: numbers, their bytes and their kept forms.
use Rattle.std.specs.Prelude.{◌≡◌, [], ◌∷◌, pos, negsuc, Some, None}
use Rattle.integer.specs.Integer.{signed, kept_form, kept_of}

pub record WorkedIntegers : Type 0 where
  -- 127 is 7F.
  pub kept_127 : kept_of (pos 127) ≡ 0x7F ∷ []
  pub form_127 : kept_form (0x00 ∷ 0x00 ∷ 0x00 ∷ 0x7F ∷ []) ≡ Some (0x7F ∷ [])
  pub read_127 : signed (0x7F ∷ []) ≡ pos 127
  -- 128 is 00 80.
  pub kept_128 : kept_of (pos 128) ≡ 0x00 ∷ 0x80 ∷ []
  pub form_128 : kept_form (0x00 ∷ 0x00 ∷ 0x00 ∷ 0x80 ∷ []) ≡ Some (0x00 ∷ 0x80 ∷ [])
  pub read_128 : signed (0x00 ∷ 0x80 ∷ []) ≡ pos 128
  -- -128 is 80.
  pub kept_minus_128 : kept_of (negsuc 127) ≡ 0x80 ∷ []
  pub form_minus_128 : kept_form (0xFF ∷ 0x80 ∷ []) ≡ Some (0x80 ∷ [])
  pub read_minus_128 : signed (0x80 ∷ []) ≡ negsuc 127
  -- 65535 is 00 00 FF FF.
  pub kept_65535 : kept_of (pos 65535) ≡ 0x00 ∷ 0x00 ∷ 0xFF ∷ 0xFF ∷ []
  pub form_65535 : kept_form (0x00 ∷ 0x00 ∷ 0x00 ∷ 0x00 ∷ 0x00 ∷ 0x00 ∷ 0xFF ∷ 0xFF ∷ []) ≡ Some (0x00 ∷ 0x00 ∷ 0xFF ∷ 0xFF ∷ [])
  pub read_65535 : signed (0x00 ∷ 0x00 ∷ 0xFF ∷ 0xFF ∷ []) ≡ pos 65535
  -- Three bytes are no integer.
  pub form_three : kept_form (0x00 ∷ 0x00 ∷ 0x7F ∷ []) ≡ None
