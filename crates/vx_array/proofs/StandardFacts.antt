-- Worked values, so that a wrong rule in the definitions does not check.
use Rattle.std.specs.Prelude.{◌≡◌, pos, negsuc, true, false, None, Some, List, [], ◌∷◌, ◌++◌, map, replicate, refl}
use Rattle.vx_base.specs.declared.dtype.Nullability.TheVariants.{NonNullable}
use Rattle.vx_base.specs.declared.ptype.PType.TheVariants.{U8, U16}
use Rattle.vx_base.specs.PlainScalar.{PlainScalar}
use Rattle.vx_base.specs.PlainType as types
use Rattle.vx_base.specs.PlainValue.{PlainValue, null, int}
use Rattle.vx_model.specs.Rows.{rows}
use Rattle.vx_model.specs.Tree.{Tree, chunked, primitive, zig_zag, dict, nulls, sparse, sparse_chunked, run_end, rle, sequence, delta}
use Rattle.vx_model.specs.WellFormed.{searched, are_chunk_offsets}
use Rattle.vx_array.specs.HasRuns.{has_runs}
use Rattle.vx_array.specs.Sums.{sum_before}

-- ---- differences

-- 3, -2 and 4 in the first block, and zeros behind them; then 6 and 1 in the second
abbrev differences : List PlainValue
differences = int (pos 3) ∷ int (negsuc 1) ∷ int (pos 4) ∷ replicate 1021 (int (pos 0)) ++ int (pos 6) ∷ int (pos 1) ∷ []

-- row 2 sums all three, and before its own the first two
pub sum_before-first : (sum_before (pos 5) differences 2 0 ≡ pos 5) × (sum_before (pos 5) differences 2 2 ≡ pos 6) × (sum_before (pos 5) differences 2 3 ≡ pos 10)
sum_before-first = (refl, refl, refl)

-- a row of the second block sums those of its own block alone
pub sum_before-second : (sum_before (pos 5) differences 1025 1024 ≡ pos 5) × (sum_before (pos 5) differences 1025 1025 ≡ pos 11) × (sum_before (pos 5) differences 1025 1026 ≡ pos 12)
sum_before-second = (refl, refl, refl)

-- ---- roots

abbrev numbers : Tree
numbers = primitive U8 (pos 1 ∷ []) None NonNullable

abbrev no_value : PlainScalar
no_value = record { dtype = types.null_type; value = null }

pub has_runs-some : map has_runs (sparse 1 0 numbers numbers no_value ∷ sparse_chunked 1 0 numbers numbers numbers no_value ∷ run_end numbers numbers ∷ rle numbers numbers numbers 1 ∷ sequence U8 NonNullable (pos 0) (pos 1) 1 ∷ delta numbers numbers 1 None NonNullable ∷ [])
    ≡ true ∷ true ∷ true ∷ true ∷ true ∷ true ∷ []
has_runs-some = refl

-- what stands below the root doesn't count
pub has_runs-others : map has_runs (numbers ∷ nulls 1 ∷ dict numbers (run_end numbers numbers) ∷ zig_zag (run_end numbers numbers) ∷ []) ≡ false ∷ false ∷ false ∷ false ∷ []
has_runs-others = refl

-- ---- a search by chunks

-- indices of an array of 3,000 rows, in three chunks: two, one and one
abbrev spread : Tree
spread = primitive U16 (pos 5 ∷ pos 1023 ∷ pos 1024 ∷ pos 2100 ∷ []) None NonNullable

abbrev counts : Tree
counts = primitive U8 (pos 0 ∷ pos 2 ∷ pos 3 ∷ []) None NonNullable

-- it looks through all of them without chunk offsets, and else through those of the row's chunk
pub searched-all : (searched (chunked 3000 0 spread numbers None) 7 ≡ 4) × (searched (chunked 3000 0 spread numbers None) 2500 ≡ 4)
searched-all = (refl, refl)

pub searched-chunk : (searched (chunked 3000 0 spread numbers (Some counts)) 7 ≡ 2) × (searched (chunked 3000 0 spread numbers (Some counts)) 1024 ≡ 1) × (searched (chunked 3000 0 spread numbers (Some counts)) 2500 ≡ 1)
searched-chunk = (refl, refl, refl)

-- a chunk offset counts the indices before the chunk, and not the chunk's first
pub counts-pass : are_chunk_offsets (rows spread) (int (pos 0) ∷ int (pos 2) ∷ int (pos 3) ∷ []) ≡ true
counts-pass = refl

pub counts-fail : (are_chunk_offsets (rows spread) (int (pos 0) ∷ int (pos 3) ∷ int (pos 3) ∷ []) ≡ false) × (are_chunk_offsets (rows spread) (int (pos 1) ∷ int (pos 2) ∷ int (pos 3) ∷ []) ≡ false)
counts-fail = (refl, refl)
