-- Worked casts and fills, so that a wrong rule in the definitions does not check.
use Rattle.std.specs.Prelude.{◌≡◌, negsuc, [], ◌∷◌, map, Option, None, Some, refl}
use Rattle.vx_base.specs.declared.dtype.Nullability.TheVariants.{NonNullable, Nullable}
use Rattle.vx_base.specs.declared.error.VortexError.{VortexError}
use Rattle.vx_base.specs.declared.error.VortexError.TheVariants.{MismatchedTypes, CastRefused}
use Rattle.vx_base.specs.declared.ptype.PType.TheVariants.{U8, U64, I8, I64}
use Rattle.vx_base.specs.PlainScalar.{scalar}
use Rattle.vx_base.specs.PlainType.{PlainType}
use Rattle.vx_base.specs.PlainType as types
use Rattle.vx_base.specs.PlainValue.{PlainValue, null, int, items, of_list}
use Rattle.vx_model.specs.Column.{column, column_of}
use Rattle.vx_rules.specs.Conversions.{cast_refusal, casted, fill_null_refusal, null_filled}
use Rattle.vx_rules.proofs.Samples.{S, T, i32, lists, maybe_i32, minus_one, mostly_null, sparse_of, text, u8, whole, wholes, zoned, seconds}

-- ---- cast

pub casts_of_integers :
    (casted S (types.primitive I8 NonNullable) ≡ column (types.primitive I8 NonNullable) (wholes (1 ∷ 10 ∷ 1 ∷ 20 ∷ 1 ∷ 30 ∷ 1 ∷ 1 ∷ [])))
    × (cast_refusal S (types.primitive I8 NonNullable) ≡ None) × (cast_refusal S text ≡ Some MismatchedTypes) × (cast_refusal (column u8 (whole 7 ∷ [])) text ≡ Some MismatchedTypes)
casts_of_integers = (refl, refl, refl, refl)

abbrev cast_of : PlainValue → PlainType → Option VortexError
cast_of v t = cast_refusal (column maybe_i32 (v ∷ [])) t

-- 300, -1 and null are no u8; nothing wraps
pub refused_values : map (λ v. cast_of v u8) (whole 255 ∷ whole 300 ∷ minus_one ∷ null ∷ []) ≡ None ∷ Some CastRefused ∷ Some CastRefused ∷ Some CastRefused ∷ []
refused_values = refl

-- the bounds of i64 are no u64 and no i32
pub refused_bounds :
    let least : PlainValue = int (negsuc 9_223_372_036_854_775_807) in
    let greatest : PlainValue = whole 9_223_372_036_854_775_807 in
    (map (cast_of greatest) (types.primitive U64 NonNullable ∷ i32 ∷ []) ≡ None ∷ Some CastRefused ∷ [])
    × (map (cast_of least) (types.primitive U64 NonNullable ∷ types.primitive I64 NonNullable ∷ []) ≡ Some CastRefused ∷ None ∷ [])
refused_bounds = (refl, refl)

-- to the same type of the other nullability: with a null only to the nullable one
pub casts_of_stamps :
    (cast_refusal (column (zoned Nullable) (whole 86_400 ∷ null ∷ [])) (zoned NonNullable) ≡ Some CastRefused)
    × (cast_refusal (column (zoned Nullable) (whole 86_400 ∷ null ∷ [])) (types.boolean NonNullable) ≡ Some MismatchedTypes)
    × (cast_refusal (column (zoned Nullable) (whole 86_400 ∷ [])) (zoned NonNullable) ≡ None)
    × (casted (column (zoned Nullable) (whole 86_400 ∷ [])) (zoned NonNullable) ≡ column (zoned NonNullable) (whole 86_400 ∷ []))
    × (cast_refusal T (types.timestamp seconds Nullable) ≡ None) × (casted T (types.timestamp seconds Nullable) ≡ column (types.timestamp seconds Nullable) (minus_one ∷ whole 86_400 ∷ []))
casts_of_stamps = (refl, refl, refl, refl, refl, refl)

-- another unit or zone is another type; so are other fields, and items of another nullability
pub other_types :
    (cast_refusal T (zoned NonNullable) ≡ Some MismatchedTypes) × (cast_refusal T (types.primitive I64 NonNullable) ≡ Some MismatchedTypes)
    × (cast_refusal (column lists []) (types.list (types.primitive U8 Nullable) Nullable) ≡ Some MismatchedTypes)
    × (cast_refusal (column lists (items (of_list []) ∷ [])) (types.list u8 NonNullable) ≡ None) × (cast_refusal (column lists (null ∷ [])) (types.list u8 NonNullable) ≡ Some CastRefused)
other_types = (refl, refl, refl, refl, refl)

-- a null fill is no obstacle where every row has a patch
pub casts_of_sparse :
    (cast_refusal (column_of (sparse_of maybe_i32 (0 ∷ 1 ∷ []) (wholes (5 ∷ 6 ∷ [])) null 2)) i32 ≡ None)
    × (cast_refusal (column_of (sparse_of maybe_i32 (0 ∷ 1 ∷ []) (wholes (5 ∷ 6 ∷ [])) null 3)) i32 ≡ Some CastRefused)
casts_of_sparse = (refl, refl)

-- ---- fill_null

-- a non-nullable fill leaves a non-nullable column
pub fills :
    (null_filled mostly_null (scalar i32 (whole 0)) ≡ column i32 (wholes (0 ∷ 10 ∷ 0 ∷ 20 ∷ 0 ∷ 0 ∷ 0 ∷ 0 ∷ [])))
    × (null_filled (column_of (sparse_of maybe_i32 (0 ∷ 2 ∷ []) (whole 7 ∷ null ∷ []) (whole 1) 4)) (scalar i32 (whole 0)) ≡ column i32 (wholes (7 ∷ 1 ∷ 0 ∷ 1 ∷ [])))
    × (null_filled (column_of (sparse_of maybe_i32 (1 ∷ 3 ∷ 5 ∷ []) (whole 10 ∷ null ∷ whole 30 ∷ []) null 8)) (scalar i32 (whole 0))
    ≡ column i32 (wholes (0 ∷ 10 ∷ 0 ∷ 0 ∷ 0 ∷ 30 ∷ 0 ∷ 0 ∷ [])))
fills = (refl, refl, refl)

-- a nullable fill leaves a nullable column, also where it replaces nothing
pub nullable_fill : null_filled (column i32 (whole 5 ∷ [])) (scalar maybe_i32 (whole 0)) ≡ column maybe_i32 (whole 5 ∷ [])
nullable_fill = refl

-- the fill is of the column's type up to nullability, and no null; so there is none of the null type
pub refused_fills :
    (map (fill_null_refusal mostly_null) (scalar i32 (whole 0) ∷ scalar maybe_i32 (whole 0) ∷ scalar maybe_i32 null ∷ scalar (types.primitive I64 NonNullable) (whole 0) ∷ [])
    ≡ None ∷ None ∷ Some MismatchedTypes ∷ Some MismatchedTypes ∷ [])
    × (fill_null_refusal (column types.null_type (null ∷ [])) (scalar types.null_type null) ≡ Some MismatchedTypes)
refused_fills = (refl, refl)
