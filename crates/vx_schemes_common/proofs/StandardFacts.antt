-- Worked values, counted by hand, so that a wrong rule in the definitions does not check.
use Rattle.std.specs.Prelude.{◌≡◌, [], ◌∷◌, refl}
use Rattle.vx_base.specs.declared.ptype.PType.TheVariants.{U8, U16}
use Rattle.vx_base.specs.declared.dtype.Nullability.TheVariants.{NonNullable}
use Rattle.vx_base.specs.PlainType as types
use Rattle.vx_schemes_common.specs.Narrowed.{narrowed_numbers}

-- 255 takes a byte, as no number does; 256 takes two
pub narrowed-bytes :
    ((narrowed_numbers (255 ∷ [])).dtype ≡ types.primitive U8 NonNullable) × ((narrowed_numbers (256 ∷ [])).dtype ≡ types.primitive U16 NonNullable) × ((narrowed_numbers []).dtype ≡ types.primitive U8 NonNullable)
narrowed-bytes = (refl, refl, refl)
