-- Runs of columns, counted by hand.
use Rattle.std.specs.Prelude.{◌≡◌, ◌++◌, [], ◌∷◌, replicate, false, pos, refl}
use Rattle.vx_base.specs.declared.ptype.PType.TheVariants.{U8, U32, I32}
use Rattle.vx_base.specs.declared.dtype.Nullability.TheVariants.{NonNullable, Nullable}
use Rattle.vx_base.specs.PlainType as types
use Rattle.vx_base.specs.PlainValue.{null, int}
use Rattle.vx_model.specs.Column.{column}
use Rattle.vx_model.specs.Site.{fresh}
use Rattle.vx_scheme.specs.declared.estimate.CompressionEstimate.TheVariants.{Verdict, Deferred}
use Rattle.vx_scheme.specs.declared.estimate.DeferredEstimate.TheVariants.{Sample}
use Rattle.vx_scheme.specs.declared.estimate.EstimateVerdict.TheVariants.{Skip}
use Rattle.vx_schemes_runs.specs.RunEnd.Meaning.{runs_estimate}
use Rattle.vx_schemes_runs.specs.RunEnd.Tree.{run_values, narrowed_ends}
use Rattle.vx_schemes_runs.specs.RunLength.Meaning.{rle_estimate}
use Rattle.vx_schemes_runs.specs.RunLength.Tree.{head_values, narrowed_run_numbers, narrowed_offsets}

-- 0 in 50 rows, then 7 in 50 rows
pub run_ends-fifties :
    (run_values (column (types.primitive U32 NonNullable) (replicate 50 (int (pos 0)) ++ replicate 50 (int (pos 7)))) ≡ column (types.primitive U32 NonNullable) (int (pos 0) ∷ int (pos 7) ∷ []))
    × (narrowed_ends (column (types.primitive U32 NonNullable) (replicate 50 (int (pos 0)) ++ replicate 50 (int (pos 7)))) ≡ column (types.primitive U8 NonNullable) (int (pos 50) ∷ int (pos 100) ∷ []))
run_ends-fifties = (refl, refl)

-- a null equals a null, and ends the run of a value
pub run_ends-nulls :
    (run_values (column (types.primitive I32 Nullable) (int (pos 5) ∷ null ∷ null ∷ int (pos 5) ∷ [])) ≡ column (types.primitive I32 Nullable) (int (pos 5) ∷ null ∷ int (pos 5) ∷ []))
    × (narrowed_ends (column (types.primitive I32 Nullable) (int (pos 5) ∷ null ∷ null ∷ int (pos 5) ∷ [])) ≡ column (types.primitive U8 NonNullable) (int (pos 1) ∷ int (pos 3) ∷ int (pos 4) ∷ []))
run_ends-nulls = (refl, refl)

-- in a block the runs of these rows are numbered 0, 1 and 2, and the padding has 0
pub blocks-nulls :
    (head_values (column (types.primitive I32 Nullable) (int (pos 5) ∷ null ∷ null ∷ int (pos 5) ∷ [])) ≡ column (types.primitive I32 Nullable) (int (pos 5) ∷ null ∷ int (pos 5) ∷ []))
    × (narrowed_run_numbers (column (types.primitive I32 Nullable) (int (pos 5) ∷ null ∷ null ∷ int (pos 5) ∷ []))
    ≡ column (types.primitive U8 NonNullable) (int (pos 0) ∷ int (pos 1) ∷ int (pos 1) ∷ int (pos 2) ∷ replicate 1020 (int (pos 0))))
    × (narrowed_offsets (column (types.primitive I32 Nullable) (int (pos 5) ∷ null ∷ null ∷ int (pos 5) ∷ [])) ≡ column (types.primitive U8 NonNullable) (int (pos 0) ∷ []))
blocks-nulls = (refl, refl, refl)

-- an average run length of 4 is tried, one of 3 is not; in blocks none at budget 0
pub runs-lengths :
    (runs_estimate (column (types.primitive U8 NonNullable) (replicate 4 (int (pos 1)))) ≡ Deferred Sample)
    × (runs_estimate (column (types.primitive U8 NonNullable) (replicate 3 (int (pos 1)))) ≡ Verdict Skip)
    × (rle_estimate (column (types.primitive U8 NonNullable) (replicate 4 (int (pos 1)))) fresh ≡ Deferred Sample)
    × (rle_estimate (column (types.primitive U8 NonNullable) (replicate 4 (int (pos 1)))) (record { budget = 0; sampled = false; history = [] }) ≡ Verdict Skip)
runs-lengths = (refl, refl, refl, refl)
