-- Worked values of differences from row to row.
use Rattle.std.proofs.Common.{zero-lt-suc}
use Rattle.std.specs.Prelude.{◌≡◌, ◌*◌, [], ◌∷◌, pos, negsuc, Some, None, refl}
use Rattle.vx_base.specs.declared.fraction.Fraction.{Fraction}
use Rattle.vx_base.specs.declared.ptype.PType.TheVariants.{I32}
use Rattle.vx_base.specs.declared.dtype.Nullability.TheVariants.{NonNullable, Nullable}
use Rattle.vx_base.specs.PlainType as types
use Rattle.vx_base.specs.PlainValue.{null, int}
use Rattle.vx_model.specs.Column.{column}
use Rattle.vx_scheme.specs.Scores.{ratio_of}
use Rattle.vx_scheme.specs.declared.estimate.EstimateVerdict.TheVariants.{Skip}
use Rattle.vx_schemes_runs.specs.Delta.Meaning.{spread, spread_within, padded, delta_verdict}
use Rattle.vx_schemes_runs.specs.Delta.Tree.{filled_rows, delta_bases}

-- 5/4
abbrev default_ratio : Fraction
default_ratio = record { num = 5; den = 4; positive = zero-lt-suc 3 }

-- the squares of 2,048 numbers have differences from 0 to 4,093, of 12 digits
pub delta_verdict-squares : delta_verdict default_ratio 2048 64 4093 ≡ ratio_of (95 * 2048 * 64) (100 * 2048 * 13)
unfolding lib.Count.count_leading_zeros
delta_verdict-squares = refl

-- Skip where all differences are 0; for a block of 8-bit rows the ratio is 760/600 at 5 digits, and 760/700 at 6, which isn't above 5/4
pub delta_verdict-least : (delta_verdict default_ratio 1024 64 0 ≡ Skip) × (delta_verdict default_ratio 1024 8 31 ≡ ratio_of (95 * 1024 * 8) (100 * 1024 * 6)) × (delta_verdict default_ratio 1024 8 32 ≡ Skip)
unfolding lib.Count.count_leading_zeros
delta_verdict-least = (refl, refl, refl)

-- from -3 to 2; 0 for one number and for none
pub spread-five : (spread (pos 0 ∷ pos 2 ∷ negsuc 2 ∷ []) ≡ 5) × (spread (pos 7 ∷ []) ≡ 0) × (spread [] ≡ 0)
spread-five = (refl, refl, refl)

-- the spread up to its own bound, and None for a lower one
pub spread_within-five : (spread_within 5 (pos 0 ∷ pos 2 ∷ negsuc 2 ∷ []) ≡ Some 5) × (spread_within 4 (pos 0 ∷ pos 2 ∷ negsuc 2 ∷ []) ≡ None)
spread_within-five = (refl, refl)

-- whole blocks of 1,024
pub padded-blocks : (padded 1024 ≡ 1024) × (padded 1025 ≡ 2048)
padded-blocks = (refl, refl)

-- a null takes the value before it, and 0 at first; the base is the first row, not null
pub delta_bases-nulls :
    (filled_rows (column (types.primitive I32 Nullable) (null ∷ int (pos 7) ∷ null ∷ int (pos 9) ∷ [])) ≡ pos 0 ∷ pos 7 ∷ pos 7 ∷ pos 9 ∷ [])
    × (delta_bases (column (types.primitive I32 Nullable) (int (pos 5) ∷ null ∷ int (pos 7) ∷ [])) ≡ column (types.primitive I32 NonNullable) (int (pos 5) ∷ []))
delta_bases-nulls = (refl, refl)
