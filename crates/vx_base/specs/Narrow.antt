-- The narrowest integer type for a range of whole numbers.
use Rattle.std.specs.Prelude.{◌&&◌, ℤ, pos, negsuc, [], ◌∷◌, Option, find}
use Rattle.vx_base.specs.declared.ptype.PType.{PType}
use Rattle.vx_base.specs.declared.ptype.PType.TheVariants.{U8, U16, U32, U64, I8, I16, I32, I64}
use Rattle.vx_base.specs.Integers.{lies_in}

-- the narrowest type that holds both ends of a range: an unsigned one where the least number is not negative, else a signed
-- one; None where 64 bits are too few
abbrev pub narrow_of : ℤ → ℤ → Option PType
narrow_of (pos n) greatest = find (λ p. lies_in p greatest) (U8 ∷ U16 ∷ U32 ∷ U64 ∷ [])
narrow_of (negsuc n) greatest = find (λ p. lies_in p (negsuc n) && lies_in p greatest) (I8 ∷ I16 ∷ I32 ∷ I64 ∷ [])
