-- Worked metadata, so that a wrong rule in specs doesn't check.
use Rattle.std.proofs.Common.{◌≡◌, pos, [], ◌∷◌, Some, None, refl}
use Rattle.std.specs.Prelude.{map, negsuc}
use Rattle.vx_base.specs.declared.error.VortexError.TheVariants.{BadMetadata}
use Rattle.vx_base.specs.declared.ptype.PType.TheVariants.{U8, U16, U32, U64, I8, I16, I32, I64}
use Rattle.vx_metadata.specs.Numbers.{numbers, three}
use Rattle.vx_datetime.specs.Metadata.{by_numbers, of_ptypes, spelling, spelling_refusal}

-- I64 thrice, U8 thrice, and the types in their order
pub spelled-ptypes :
    (spelling (of_ptypes I64 I64 I64) ≡ 0x08 ∷ 0x07 ∷ 0x10 ∷ 0x07 ∷ 0x18 ∷ 0x07 ∷ [])
    × (spelling (of_ptypes U8 U8 U8) ≡ [])
    × (map (λ p. spelling (of_ptypes U8 p U8)) (U16 ∷ U32 ∷ U64 ∷ I8 ∷ I16 ∷ I32 ∷ [])
    ≡ (0x10 ∷ 0x01 ∷ []) ∷ (0x10 ∷ 0x02 ∷ []) ∷ (0x10 ∷ 0x03 ∷ []) ∷ (0x10 ∷ 0x04 ∷ []) ∷ (0x10 ∷ 0x05 ∷ []) ∷ (0x10 ∷ 0x06 ∷ []) ∷ [])
spelled-ptypes = (refl, refl, refl)

-- a number that is 0 and written, a number in two bytes, fields in another order, a field twice, and a fourth one
pub read-others :
    (numbers.parse (0x08 ∷ 0x00 ∷ []) ≡ None)
    × (numbers.parse (0x08 ∷ 0x87 ∷ 0x00 ∷ []) ≡ None)
    × (numbers.parse (0x10 ∷ 0x07 ∷ 0x08 ∷ 0x07 ∷ []) ≡ None)
    × (numbers.parse (0x08 ∷ 0x07 ∷ 0x08 ∷ 0x07 ∷ []) ≡ None)
    × (numbers.parse (0x08 ∷ 0x07 ∷ 0x20 ∷ 0x07 ∷ []) ≡ None)
read-others = (refl, refl, refl, refl, refl)

-- a number that is that of no integer type
pub read-outside :
    (numbers.parse (0x08 ∷ 0x08 ∷ []) ≡ Some (three 8 0 0))
    × (spelling_refusal (by_numbers (pos 8) (pos 0) (pos 0)) ≡ Some BadMetadata)
    × (spelling_refusal (by_numbers (pos 7) (pos 0) (negsuc 0)) ≡ Some BadMetadata)
read-outside = (refl, refl, refl)
