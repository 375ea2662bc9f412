-- Worked values of quick packing, counted by hand, so that a wrong rule in the definitions does not check.
use Rattle.std.specs.Prelude.{◌≡◌, ℕ, ℤ, List, [], ◌∷◌, ◌++◌, replicate, Option, Some, option_map, codes, pos, negsuc, refl}
use Rattle.vx_base.specs.declared.ptype.PType.TheVariants.{U8, U16, I8, I32}
use Rattle.vx_base.specs.declared.dtype.Nullability.TheVariants.{NonNullable, Nullable}
use Rattle.vx_base.specs.Packed.{bytes_in}
use Rattle.vx_base.specs.PlainType as types
use Rattle.vx_base.specs.PlainValue.{null, int}
use Rattle.vx_model.specs.Column.{Column, column}
use Rattle.vx_model.specs.Site.{fresh}
use Rattle.vx_scheme.specs.Scores.{ratio_of}
use Rattle.vx_stats.specs.Stats.{Extremes}
use Rattle.vx_scheme.specs.declared.estimate.EstimateVerdict.TheVariants.{Skip}
use Rattle.vx_schemes.specs.Widths.{first_least, widths_of}
use Rattle.vx_compressor.specs.Cascade.{choice, plain_parts}
use Rattle.vx_examples.specs.QuickPacking.{quick_verdict, quick_estimate, with_quick_packing}

abbrev extremes : ℤ → ℤ → Extremes
extremes low high = record { least = low; greatest = high }

-- 7 has 3 digits and 8 has 4, wherever the least lies; the top of u64 takes all 64
pub quick_verdict-ratios : (quick_verdict 32 (extremes (pos 0) (pos 7)) ≡ ratio_of 32 3) × (quick_verdict 32 (extremes (pos 7) (pos 8)) ≡ ratio_of 32 4)
    × (quick_verdict 64 (extremes (pos 1) (pos 18446744073709551615)) ≡ ratio_of 64 64)
unfolding lib.Count.count_leading_zeros
quick_verdict-ratios = (refl, refl, refl)

-- with -1, and where all are 0
pub quick_verdict-skips : (quick_verdict 8 (extremes (negsuc 0) (pos 7)) ≡ Skip) × (quick_verdict 8 (extremes (pos 0) (pos 0)) ≡ Skip)
unfolding lib.Count.count_leading_zeros
quick_verdict-skips = (refl, refl)

-- all bits of the type count, also of a signed one; a null has no value
pub quick_estimate-bits : (quick_estimate (column (types.primitive I8 Nullable) (int (pos 5) ∷ null ∷ int (pos 3) ∷ [])) ≡ ratio_of 8 3)
    × (quick_estimate (column (types.primitive I32 NonNullable) (int (pos 5) ∷ int (negsuc 2) ∷ [])) ≡ Skip)
unfolding lib.Count.count_leading_zeros
quick_estimate-bits = (refl, refl)

-- ---- the choice among the shipped schemes and this one

abbrev chosen : Column → Option (List ℕ)
chosen c = option_map (λ m. m.name) (choice plain_parts (record { schemes = with_quick_packing; words = 0 ∷ [] }) c fresh)

-- 1 and 3: nothing is gained by a frame, and a block of 1,024 rows is more than two bytes
pub alone : chosen (column (types.primitive U8 NonNullable) (int (pos 1) ∷ int (pos 3) ∷ [])) ≡ Some (codes "example.int.quickpacking")
unfolding first_least widths_of bytes_in lib.Count.count_leading_zeros
alone = refl

-- 6 and 9: 8 by 2 digits of the span are more than 8 by 4
pub frame_greater : chosen (column (types.primitive U8 NonNullable) (int (pos 6) ∷ int (pos 9) ∷ [])) ≡ Some (codes "vortex.int.for")
unfolding first_least widths_of bytes_in lib.Count.count_leading_zeros
frame_greater = refl

-- two nulls, 200 and three zeros: 13 bytes become 5 by a patch, more than 16 by 8 digits
pub trial_greater : chosen (column (types.primitive U16 Nullable) (null ∷ null ∷ int (pos 200) ∷ replicate 3 (int (pos 0)))) ≡ Some (codes "vortex.int.bitpacking")
unfolding first_least widths_of bytes_in lib.Count.count_leading_zeros
trial_greater = refl

-- five nulls, 15 and five zeros: 24 bytes become 6, as 16 by 4 digits: the verdict is judged before the trial, so it stands
pub verdict_first : chosen (column (types.primitive U16 Nullable) (replicate 5 null ++ int (pos 15) ∷ replicate 5 (int (pos 0)))) ≡ Some (codes "example.int.quickpacking")
unfolding first_least widths_of bytes_in lib.Count.count_leading_zeros
verdict_first = refl
