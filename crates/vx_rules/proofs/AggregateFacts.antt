-- Worked aggregates, so that a wrong rule in the definitions does not check.
use Rattle.std.specs.Prelude.{◌≡◌, pos, negsuc, true, false, List, [], ◌∷◌, map, replicate, codes, Option, None, Some, refl}
use Rattle.vx_base.specs.declared.dtype.Nullability.TheVariants.{NonNullable, Nullable}
use Rattle.vx_base.specs.declared.error.VortexError.TheVariants.{MismatchedTypes}
use Rattle.vx_base.specs.declared.ptype.PType.TheVariants.{U64, I8, I32, I64}
use Rattle.vx_base.specs.PlainScalar.{PlainScalar, scalar}
use Rattle.vx_base.specs.PlainType.{PlainType}
use Rattle.vx_base.specs.PlainType as types
use Rattle.vx_base.specs.PlainValue.{PlainValue, null, truth, int, bytes, items, of_list}
use Rattle.vx_model.specs.Column.{column, column_of}
use Rattle.vx_model.specs.Tree.{datetime_parts, primitive}
use Rattle.vx_rules.specs.Aggregates.{null_count, is_constant, min_max_refusal, min_max, sum_refusal, sum}
use Rattle.vx_rules.proofs.Samples.{S, T, bools, i32, lists, maybe_bools, maybe_i32, minus_one, mostly_999, mostly_null, seconds, sparse_of, text, u8, whole, wholes, with_fill}

-- ---- null_count

pub null_counts : map null_count (S ∷ mostly_null ∷ column i32 [] ∷ column types.null_type (replicate 3 null) ∷ column lists (items (of_list []) ∷ null ∷ []) ∷ []) ≡ 0 ∷ 6 ∷ 0 ∷ 3 ∷ 1 ∷ []
null_counts = refl

-- ---- is_constant

-- four 5s as the patches of all four rows over 99; three 7s over 7; two 9s over 7
pub sparse_constants :
    map is_constant
    (column_of (sparse_of i32 (0 ∷ 1 ∷ 2 ∷ 3 ∷ []) (replicate 4 (whole 5)) (whole 99) 4) ∷ column_of (sparse_of i32 (0 ∷ 1 ∷ 2 ∷ []) (replicate 3 (whole 7)) (whole 7) 10)
    ∷ column_of (sparse_of i32 (0 ∷ 1 ∷ []) (replicate 2 (whole 9)) (whole 7) 5) ∷ S ∷ T ∷ [])
    ≡ true ∷ true ∷ false ∷ false ∷ false ∷ []
sparse_constants = refl

-- nulls are equal to one another and to nothing else; no rows are not constant
pub constant_nulls : map is_constant (column maybe_i32 (null ∷ null ∷ []) ∷ column maybe_i32 (null ∷ whole 0 ∷ []) ∷ column maybe_i32 [] ∷ column types.null_type (null ∷ []) ∷ []) ≡ true ∷ false ∷ false ∷ true ∷ []
constant_nulls = refl

-- lists are equal item by item
pub constant_lists :
    map is_constant
    (column lists (items (of_list (whole 1 ∷ [])) ∷ items (of_list (whole 1 ∷ [])) ∷ []) ∷ column lists (items (of_list (whole 1 ∷ [])) ∷ items (of_list (whole 1 ∷ whole 1 ∷ [])) ∷ [])
    ∷ column lists (items (of_list []) ∷ null ∷ []) ∷ [])
    ≡ true ∷ false ∷ false ∷ []
constant_lists = refl

-- days that are null make null rows, whatever the seconds are
pub constant_null_days :
    is_constant (column_of (datetime_parts seconds Nullable (primitive I32 (pos 0 ∷ pos 0 ∷ []) (Some (false ∷ false ∷ [])) Nullable) (primitive I32 (pos 1 ∷ pos 2 ∷ []) None NonNullable)
    (primitive I32 (pos 0 ∷ pos 0 ∷ []) None NonNullable))) ≡ true
constant_null_days = refl

-- ---- min_max

abbrev found : PlainType → PlainValue → PlainValue → Option (PlainScalar × PlainScalar)
found t v w = Some (scalar t v, scalar t w)

-- over the fills 1, 99 and 15; and with a patch in every row, where the fill is no value
pub sparse_extremes :
    (min_max S ≡ found i32 (whole 1) (whole 30)) × (min_max (column_of (with_fill 99)) ≡ found i32 (whole 10) (whole 99)) × (min_max (column_of (with_fill 15)) ≡ found i32 (whole 10) (whole 30))
    × (min_max (column_of (sparse_of i32 (0 ∷ 1 ∷ 2 ∷ []) (wholes (7 ∷ 3 ∷ 9 ∷ [])) (whole 99) 3)) ≡ found i32 (whole 3) (whole 9))
sparse_extremes = (refl, refl, refl, refl)

-- nulls don't count, and there may be no other value
pub extremes_beside_nulls :
    (min_max (column maybe_i32 (null ∷ whole 2 ∷ minus_one ∷ null ∷ [])) ≡ found maybe_i32 minus_one (whole 2)) × (min_max (column maybe_i32 (null ∷ [])) ≡ None) × (min_max (column i32 []) ≡ None)
extremes_beside_nulls = (refl, refl, refl)

-- false below true, and texts by their bytes
pub other_extremes :
    (min_max (bools (truth true ∷ truth false ∷ [])) ≡ found (types.boolean NonNullable) (truth false) (truth true))
    × (min_max (column text (bytes (codes "ab") ∷ bytes (codes "b") ∷ bytes (codes "a") ∷ [])) ≡ found text (bytes (codes "a")) (bytes (codes "b")))
other_extremes = (refl, refl)

pub refused_extremes : map min_max_refusal (S ∷ T ∷ column lists [] ∷ column types.null_type [] ∷ []) ≡ None ∷ None ∷ Some MismatchedTypes ∷ Some MismatchedTypes ∷ []
refused_extremes = refl

-- ---- sum

abbrev unsigned_sum : PlainValue → PlainScalar
unsigned_sum v = scalar (types.primitive U64 Nullable) v

abbrev signed_sum : PlainValue → PlainScalar
signed_sum v = scalar (types.primitive I64 Nullable) v

-- 1,000 rows of a u64; truth values are counted; i8 and u8 add up in 64 bits; nulls and no rows give 0
pub sums :
    (sum S ≡ signed_sum (whole 65)) × (sum mostly_999 ≡ unsigned_sum (whole 998_001)) × (sum (maybe_bools (truth true ∷ null ∷ truth false ∷ truth true ∷ [])) ≡ unsigned_sum (whole 2))
    × (sum (column (types.primitive I8 NonNullable) (replicate 3 (whole 127))) ≡ signed_sum (whole 381)) × (sum (column u8 (wholes (255 ∷ 255 ∷ []))) ≡ unsigned_sum (whole 510))
    × (sum (column maybe_i32 (null ∷ [])) ≡ signed_sum (whole 0)) × (sum (column u8 []) ≡ unsigned_sum (whole 0))
sums = (refl, refl, refl, refl, refl, refl, refl)

abbrev of_u64 : List PlainValue → PlainScalar
of_u64 vs = sum (column (types.primitive U64 NonNullable) vs)

abbrev of_i64 : List PlainValue → PlainScalar
of_i64 vs = sum (column (types.primitive I64 NonNullable) vs)

abbrev greatest_i64 : PlainValue
greatest_i64 = whole 9_223_372_036_854_775_807

-- a sum out of range is null; one that passes the range and comes back isn't
pub sums_out_of_range :
    (of_u64 (whole 18_446_744_073_709_551_615 ∷ []) ≡ unsigned_sum (whole 18_446_744_073_709_551_615)) × (of_u64 (whole 18_446_744_073_709_551_615 ∷ whole 1 ∷ []) ≡ unsigned_sum null)
    × (of_i64 (greatest_i64 ∷ whole 1 ∷ []) ≡ signed_sum null) × (of_i64 (greatest_i64 ∷ whole 1 ∷ minus_one ∷ []) ≡ signed_sum greatest_i64)
    × (of_i64 (int (negsuc 9_223_372_036_854_775_807) ∷ minus_one ∷ []) ≡ signed_sum null)
sums_out_of_range = (refl, refl, refl, refl, refl)

pub refused_sums : map sum_refusal (S ∷ bools [] ∷ T ∷ column text [] ∷ column types.null_type [] ∷ []) ≡ None ∷ None ∷ Some MismatchedTypes ∷ Some MismatchedTypes ∷ Some MismatchedTypes ∷ []
refused_sums = refl
