-- Worked fills, runs, sequences and differences, counted by hand, so that a wrong rule in the definitions does not check.
use Rattle.std.specs.Prelude.{◌≡◌, ◌-◌, ℤ, pos, negsuc, true, false, List, [], ◌∷◌, ◌++◌, length, map, Some, None, replicate, refl}
use Rattle.vx_base.specs.Packed.{block_count}
use Rattle.vx_base.specs.declared.ptype.PType.TheVariants.{U8, U16, I8}
use Rattle.vx_base.specs.declared.dtype.Nullability.TheVariants.{NonNullable, Nullable}
use Rattle.vx_base.specs.declared.error.VortexError.TheVariants.{MismatchedTypes, LengthMismatch, OutOfBounds}
use Rattle.vx_base.specs.PlainType as types
use Rattle.vx_base.specs.PlainScalar.{PlainScalar, scalar}
use Rattle.vx_base.specs.PlainValue.{null, int}
use Rattle.vx_model.specs.Tree.{Tree, Validity, patches, primitive, sparse, run_end, rle, sequence, delta}
use Rattle.vx_model.specs.Rows.{rows, rle_place, summed_up}
use Rattle.vx_model.specs.TreeType.{tree_type}
use Rattle.vx_model.specs.Size.{size}
use Rattle.vx_model.specs.Extents.{extents}
use Rattle.vx_model.specs.Refusals.{sparse_refusal, run_end_refusal, rle_refusal, sequence_refusal, delta_refusal}

abbrev numbers : List ℤ → Tree
numbers xs = primitive U16 xs None NonNullable

-- 7 and a null
abbrev seven_or_null : Tree
seven_or_null = primitive U8 (pos 7 ∷ pos 0 ∷ []) (Some (true ∷ false ∷ [])) Nullable

-- ---- a fill and patches

abbrev no_byte : PlainScalar
no_byte = scalar (types.primitive U8 Nullable) null

-- 9 at row 1 of four, else null: two bytes of an index, one of a value, and one of the fill
abbrev one_patch : Tree
one_patch = sparse 4 10 (numbers (pos 11 ∷ [])) (primitive U8 (pos 9 ∷ []) None Nullable) no_byte

pub rows-one_patch : (rows one_patch ≡ null ∷ int (pos 9) ∷ null ∷ null ∷ []) × (tree_type one_patch ≡ types.primitive U8 Nullable) × (size one_patch ≡ 4) × (extents one_patch ≡ 4 ∷ [])
rows-one_patch = (refl, refl, refl, refl)

-- patches are as nullable as the fill
pub refused_fills : map (λ n. sparse_refusal (patches 4 10 (numbers (pos 11 ∷ [])) (primitive U8 (pos 9 ∷ []) None n)) no_byte) (Nullable ∷ NonNullable ∷ []) ≡ None ∷ Some MismatchedTypes ∷ []
refused_fills = refl

-- ---- runs by their ends

-- two rows of 7, then three of null: two bytes of each end, one of each value, and one of validity
abbrev two_runs : Tree
two_runs = run_end (numbers (pos 2 ∷ pos 5 ∷ [])) seven_or_null

pub rows-two_runs : (rows two_runs ≡ int (pos 7) ∷ int (pos 7) ∷ null ∷ null ∷ null ∷ []) × (tree_type two_runs ≡ types.primitive U8 Nullable) × (size two_runs ≡ 7) × (extents two_runs ≡ 5 ∷ [])
rows-two_runs = (refl, refl, refl, refl)

pub rows-no_runs : rows (run_end (numbers []) (numbers [])) ≡ []
rows-no_runs = refl

-- the first end is above 0, each next one above that, and each has a value
pub refused_runs : map (λ xs. run_end_refusal (numbers xs) seven_or_null) ((pos 1 ∷ pos 2 ∷ []) ∷ (pos 0 ∷ pos 2 ∷ []) ∷ (pos 2 ∷ pos 2 ∷ []) ∷ (pos 2 ∷ []) ∷ []) ≡ None ∷ Some OutOfBounds ∷ Some OutOfBounds ∷ Some LengthMismatch ∷ []
refused_runs = refl

-- ends have no nulls
pub refused_ends : run_end_refusal seven_or_null seven_or_null ≡ Some MismatchedTypes
refused_ends = refl

-- ---- sequences

-- as great a step as there is
pub rows-bytes : (rows (sequence U8 NonNullable (pos 0) (pos 255) 2) ≡ int (pos 0) ∷ int (pos 255) ∷ []) × (size (sequence U8 NonNullable (pos 0) (pos 255) 2) ≡ 0) × (extents (sequence U8 NonNullable (pos 0) (pos 255) 2) ≡ 2 ∷ [])
rows-bytes = (refl, refl, refl)

pub rows-falling : rows (sequence I8 Nullable (pos 1) (negsuc 1) 3) ≡ int (pos 1) ∷ int (negsuc 0) ∷ int (negsuc 2) ∷ []
rows-falling = refl

-- the last row lies in the type, and without rows the step alone has to
pub refused_sequences :
    (map (sequence_refusal U8 (pos 0) (pos 255)) (0 ∷ 2 ∷ 3 ∷ []) ≡ None ∷ None ∷ Some OutOfBounds ∷ [])
    × (map (sequence_refusal U8 (pos 256) (pos 1)) (0 ∷ 1 ∷ []) ≡ None ∷ Some OutOfBounds ∷ [])
    × (sequence_refusal U8 (pos 5) (negsuc 0) 2 ≡ Some OutOfBounds)
    × (sequence_refusal I8 (negsuc 127) (pos 85) 4 ≡ None)
refused_sequences = (refl, refl, refl, refl)

-- ---- blocks

-- no row, one, 1,024 and 1,025
pub block_counts : map block_count (0 ∷ 1 ∷ 1_024 ∷ 1_025 ∷ []) ≡ 0 ∷ 1 ∷ 1 ∷ 2 ∷ []
block_counts = refl

-- a block that begins so, and has 0 behind
abbrev block : List ℤ → List ℤ
block xs = xs ++ replicate (1_024 - length xs) (pos 0)

-- a null, then two rows of 7; the number behind them picks nothing
abbrev one_block : Tree
one_block = rle seven_or_null (numbers (block (pos 1 ∷ pos 0 ∷ pos 0 ∷ pos 9 ∷ []))) (numbers (pos 0 ∷ [])) 3

pub rows-one_block : (rows one_block ≡ null ∷ int (pos 7) ∷ int (pos 7) ∷ []) × (tree_type one_block ≡ types.primitive U8 Nullable) × (size one_block ≡ 2_053) × (extents one_block ≡ 3 ∷ [])
rows-one_block = (refl, refl, refl, refl)

-- the second block's values begin at its own offset
pub place-second_block : map (rle_place (rows (numbers (pos 0 ∷ pos 1 ∷ []))) (rows (numbers (block [] ++ block (pos 2 ∷ []))))) (1_023 ∷ 1_024 ∷ 1_025 ∷ []) ≡ int (pos 0) ∷ int (pos 3) ∷ int (pos 1) ∷ []
place-second_block = refl

-- 2 is no place of two values; fewer indices than a block has, and an offset too many
pub refused_blocks :
    (map (λ len. rle_refusal seven_or_null (numbers (block (pos 1 ∷ pos 2 ∷ []))) (numbers (pos 0 ∷ [])) len) (1 ∷ 2 ∷ []) ≡ None ∷ Some OutOfBounds ∷ [])
    × (rle_refusal seven_or_null (numbers (pos 1 ∷ [])) (numbers (pos 0 ∷ [])) 1 ≡ Some LengthMismatch)
    × (rle_refusal seven_or_null (numbers (block [])) (numbers (pos 0 ∷ pos 0 ∷ [])) 1 ≡ Some LengthMismatch)
    × (rle_refusal seven_or_null (numbers []) seven_or_null 0 ≡ Some MismatchedTypes)
refused_blocks = (refl, refl, refl, refl)

-- a u8 for each number
abbrev bytes : List ℤ → Tree
bytes xs = primitive U8 xs None NonNullable

-- 5, and differences 0, 1 and 2
abbrev three_steps : Validity → Tree
three_steps valid = delta (bytes (pos 5 ∷ [])) (bytes (block (pos 0 ∷ pos 1 ∷ pos 2 ∷ []))) 3 valid Nullable

pub rows-three_steps : (rows (three_steps None) ≡ int (pos 5) ∷ int (pos 6) ∷ int (pos 8) ∷ [])
    × (rows (three_steps (Some (true ∷ false ∷ true ∷ []))) ≡ int (pos 5) ∷ null ∷ int (pos 8) ∷ [])
    × (tree_type (three_steps None) ≡ types.primitive U8 Nullable)
    × (size (three_steps (Some (true ∷ false ∷ true ∷ []))) ≡ 1_026) × (extents (three_steps None) ≡ 3 ∷ [])
rows-three_steps = (refl, refl, refl, refl, refl)

-- a sum that leaves the type comes in again
pub rows-over_the_end : rows (delta (bytes (pos 250 ∷ [])) (bytes (block (pos 0 ∷ pos 10 ∷ []))) 3 None NonNullable) ≡ int (pos 250) ∷ int (pos 4) ∷ int (pos 4) ∷ []
rows-over_the_end = refl

-- the second block begins at its own base
pub sum-second_block : map (summed_up U8 (rows (bytes (pos 5 ∷ pos 100 ∷ []))) (rows (bytes (block (pos 1 ∷ []) ++ block (pos 3 ∷ pos 4 ∷ []))))) (1_023 ∷ 1_024 ∷ 1_025 ∷ []) ≡ int (pos 6) ∷ int (pos 103) ∷ int (pos 107) ∷ []
sum-second_block = refl

-- a base for a block, 1,024 differences for a base, all of one type without nulls
pub refused_differences :
    (map (λ len. delta_refusal (bytes (pos 5 ∷ [])) (bytes (block [])) len None NonNullable) (0 ∷ 1 ∷ 1_024 ∷ 1_025 ∷ []) ≡ Some LengthMismatch ∷ None ∷ None ∷ Some LengthMismatch ∷ [])
    × (delta_refusal (bytes (pos 5 ∷ [])) (bytes (pos 0 ∷ [])) 1 None NonNullable ≡ Some LengthMismatch)
    × (delta_refusal (bytes []) (numbers []) 0 None NonNullable ≡ Some MismatchedTypes)
    × (delta_refusal seven_or_null seven_or_null 2 None Nullable ≡ Some MismatchedTypes)
    × (delta_refusal (bytes (pos 5 ∷ [])) (bytes (block [])) 1 (Some (false ∷ [])) NonNullable ≡ Some MismatchedTypes)
refused_differences = (refl, refl, refl, refl, refl)
