-- Worked values of frames of reference, counted by hand, so that a wrong rule in the definitions does not check.
use Rattle.std.specs.Prelude.{◌≡◌, ℤ, true, false, [], ◌∷◌, Some, None, pos, negsuc, refl}
use Rattle.vx_base.specs.declared.ptype.PType.TheVariants.{U8, U64, I8, I32, I64}
use Rattle.vx_base.specs.declared.dtype.Nullability.TheVariants.{NonNullable, Nullable}
use Rattle.vx_base.specs.Packed.{bytes_in}
use Rattle.vx_base.specs.PlainScalar.{scalar}
use Rattle.vx_base.specs.PlainType as types
use Rattle.vx_base.specs.PlainValue.{null, int}
use Rattle.vx_model.specs.Column.{column}
use Rattle.vx_model.specs.Site.{fresh}
use Rattle.vx_model.specs.Tree.{primitive, plain_packed, packed_of, frame_of_reference}
use Rattle.vx_scheme.specs.Contexts.{leaf_site}
use Rattle.vx_scheme.specs.Scores.{ratio_of}
use Rattle.vx_stats.specs.Stats.{Extremes}
use Rattle.vx_scheme.specs.declared.estimate.EstimateVerdict.TheVariants.{Skip}
use Rattle.vx_schemes.specs.FrameOfReference.Tree.{least_value, differences, for_made}
use Rattle.vx_schemes.specs.FrameOfReference.Meaning.{for_verdict, for_estimate}
use Rattle.vx_schemes.specs.Widths.{widths_of, first_least}

-- -128, null and 127: from the least, 0 and 255
pub differences-far :
    (least_value (int (pos 127) ∷ null ∷ int (negsuc 127) ∷ []) ≡ Some (negsuc 127))
    × (differences (column (types.primitive I8 Nullable) (int (pos 127) ∷ null ∷ int (negsuc 127) ∷ [])) (negsuc 127) ≡ column (types.primitive U8 Nullable) (int (pos 255) ∷ null ∷ int (pos 0) ∷ []))
differences-far = (refl, refl)

-- the ends of i64 lie 2^64 - 1 apart
pub differences-ends :
    (least_value (int (negsuc 9223372036854775807) ∷ int (pos 9223372036854775807) ∷ []) ≡ Some (negsuc 9223372036854775807))
    × (differences (column (types.primitive I64 NonNullable) (int (negsuc 9223372036854775807) ∷ int (pos 9223372036854775807) ∷ [])) (negsuc 9223372036854775807) ≡ column (types.primitive U64 NonNullable) (int (pos 0) ∷ int (pos 18446744073709551615) ∷ []))
differences-ends = (refl, refl)

-- the top of u64 is as far from 0
pub differences-top : differences (column (types.primitive U64 NonNullable) (int (pos 18446744073709551615) ∷ int (pos 0) ∷ [])) (pos 0) ≡ column (types.primitive U64 NonNullable) (int (pos 18446744073709551615) ∷ int (pos 0) ∷ [])
differences-top = refl

-- a column without a value has no reference
pub for_made-nulls : (for_made (column (types.primitive I32 Nullable) (null ∷ null ∷ [])) ≡ None) × (for_made (column (types.primitive I32 NonNullable) []) ≡ None)
for_made-nulls = (refl, refl)

-- values that are all equal are 0 from the reference, at no bits
pub for_made-equal :
    for_made (column (types.primitive I8 NonNullable) (int (negsuc 6) ∷ int (negsuc 6) ∷ []))
    ≡ Some (frame_of_reference (packed_of (plain_packed U8 0 [] 2 None NonNullable) None) (scalar (types.primitive I8 NonNullable) (int (negsuc 6))))
unfolding first_least widths_of bytes_in lib.Count.count_leading_zeros
for_made-equal = refl

-- nulls stay, with 0 beneath; differences that take all bits stay plain
pub for_made-ends :
    for_made (column (types.primitive I8 Nullable) (int (pos 127) ∷ null ∷ int (negsuc 127) ∷ int (pos 127) ∷ []))
    ≡ Some (frame_of_reference (primitive U8 (pos 255 ∷ pos 0 ∷ pos 0 ∷ pos 255 ∷ []) (Some (true ∷ false ∷ true ∷ true ∷ [])) Nullable) (scalar (types.primitive I8 NonNullable) (int (negsuc 127))))
unfolding first_least widths_of bytes_in lib.Count.count_leading_zeros
for_made-ends = refl

-- ---- verdicts

abbrev extremes : ℤ → ℤ → Extremes
extremes low high = record { least = low; greatest = high }

-- 1000 to 1009, and -3 to 5: 4 digits; -1 to 0: 1 digit; 6 to 9: 2 digits where the values have 4
pub for_verdict-gains :
    (for_verdict 32 (extremes (pos 1000) (pos 1009)) ≡ ratio_of 32 4) × (for_verdict 32 (extremes (negsuc 2) (pos 5)) ≡ ratio_of 32 4)
    × (for_verdict 8 (extremes (negsuc 0) (pos 0)) ≡ ratio_of 8 1) × (for_verdict 8 (extremes (pos 6) (pos 9)) ≡ ratio_of 8 2)
unfolding lib.Count.count_leading_zeros
for_verdict-gains = (refl, refl, refl, refl)

-- from 0 on, all equal, and 1 to 3, whose span has 2 digits as they have
pub for_verdict-skips : (for_verdict 32 (extremes (pos 0) (pos 9)) ≡ Skip) × (for_verdict 32 (extremes (negsuc 6) (negsuc 6)) ≡ Skip) × (for_verdict 32 (extremes (pos 1) (pos 3)) ≡ Skip)
unfolding lib.Count.count_leading_zeros
for_verdict-skips = (refl, refl, refl)

-- the ends of i64 take all 64 bits, which is no gain and no skip
pub for_verdict-ends : for_verdict 64 (extremes (negsuc 9223372036854775807) (pos 9223372036854775807)) ≡ ratio_of 64 64
unfolding lib.Count.count_leading_zeros
for_verdict-ends = refl

-- the verdict is the column's, where some scheme may follow
pub for_estimate-site :
    (for_estimate (column (types.primitive I32 Nullable) (int (pos 1007) ∷ null ∷ int (pos 1000) ∷ [])) fresh ≡ ratio_of 32 3)
    × (for_estimate (column (types.primitive I32 Nullable) (int (pos 1007) ∷ null ∷ int (pos 1000) ∷ [])) (leaf_site fresh) ≡ Skip)
unfolding lib.Count.count_leading_zeros
for_estimate-site = (refl, refl)
