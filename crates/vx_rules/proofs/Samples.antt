-- Columns that the worked values are about.
use Rattle.std.specs.Prelude.{ℕ, ℤ, pos, negsuc, Bool, List, [], ◌∷◌, map, replicate, None, Some}
use Rattle.vx_base.specs.declared.dtype.Nullability.{Nullability}
use Rattle.vx_base.specs.declared.dtype.Nullability.TheVariants.{NonNullable, Nullable}
use Rattle.vx_base.specs.declared.ptype.PType.TheVariants.{U8, U64, I32}
use Rattle.vx_base.specs.declared.timestamp.TimeUnit.TheVariants.{Seconds, Milliseconds}
use Rattle.vx_base.specs.PlainScalar.{scalar}
use Rattle.vx_base.specs.PlainType.{PlainType}
use Rattle.vx_base.specs.PlainType as types
use Rattle.vx_base.specs.PlainValue.{PlainValue, null, truth, int}
use Rattle.vx_base.specs.Timestamps.{PlainTimestamp, kind}
use Rattle.vx_model.specs.Column.{Column, column, column_of}
use Rattle.vx_model.specs.Plain.{plain}
use Rattle.vx_model.specs.Tree.{Tree, constant, datetime_parts, primitive, sparse, sparse_chunked}

-- ---- values and types

abbrev pub whole : ℕ → PlainValue
whole n = int (pos n)

abbrev pub wholes : List ℕ → List PlainValue
wholes ns = map whole ns

-- -1
abbrev pub minus_one : PlainValue
minus_one = int (negsuc 0)

abbrev pub truths : List Bool → List PlainValue
truths bs = map truth bs

abbrev pub i32 : PlainType
i32 = types.primitive I32 NonNullable

abbrev pub maybe_i32 : PlainType
maybe_i32 = types.primitive I32 Nullable

abbrev pub u8 : PlainType
u8 = types.primitive U8 NonNullable

abbrev pub text : PlainType
text = types.utf8 NonNullable

abbrev pub maybe_text : PlainType
maybe_text = types.utf8 Nullable

-- lists of u8
abbrev pub lists : PlainType
lists = types.list u8 Nullable

-- truth values of rows that are never null, and of rows that may be
abbrev pub bools : List PlainValue → Column
bools vs = column (types.boolean NonNullable) vs

abbrev pub maybe_bools : List PlainValue → Column
maybe_bools vs = column (types.boolean Nullable) vs

-- a value in each of `len` rows
abbrev pub all_rows : PlainType → PlainValue → ℕ → Column
all_rows t v len = column t (replicate len v)

-- ---- sparse columns

abbrev pub indices : List ℕ → Tree
indices ns = plain (column (types.primitive U64 NonNullable) (wholes ns))

-- patches of a type at indices, over a fill
abbrev pub sparse_of : PlainType → List ℕ → List PlainValue → PlainValue → ℕ → Tree
sparse_of t at patches fill len = sparse len 0 (indices at) (plain (column t patches)) (scalar t fill)

-- the same with chunk offsets, of one chunk
abbrev pub chunked_of : PlainType → List ℕ → List PlainValue → PlainValue → ℕ → Tree
chunked_of t at patches fill len = sparse_chunked len 0 (indices at) (plain (column t patches)) (indices (0 ∷ [])) (scalar t fill)

-- 1, 10, 1, 20, 1, 30, 1, 1: patches at 1, 3 and 5 over the fill 1
abbrev pub with_fill : ℕ → Tree
with_fill n = sparse_of i32 (1 ∷ 3 ∷ 5 ∷ []) (wholes (10 ∷ 20 ∷ 30 ∷ [])) (whole n) 8

abbrev pub S : Column
S = column_of (with_fill 1)

-- null, 10, null, 20, then nulls
abbrev pub mostly_null : Column
mostly_null = column_of (sparse_of maybe_i32 (1 ∷ 3 ∷ []) (wholes (10 ∷ 20 ∷ [])) null 8)

-- 0, then 999 in 999 rows
abbrev pub mostly_999 : Column
mostly_999 = column_of (sparse_of (types.primitive U64 NonNullable) (0 ∷ []) (wholes (0 ∷ [])) (whole 999) 1_000)

-- ---- timestamps

abbrev pub seconds : PlainTimestamp
seconds = kind Seconds None

-- in milliseconds, of the zone UTC
abbrev pub zoned : Nullability → PlainType
zoned n = types.timestamp (kind Milliseconds (Some (85 ∷ 84 ∷ 67 ∷ []))) n

abbrev pub stamps : PlainType
stamps = types.timestamp seconds NonNullable

abbrev parts_of : List ℤ → Tree
parts_of zs = primitive I32 zs None NonNullable

-- -1 and 86400 seconds, in parts: the days 0 and 1, the seconds -1 and 0
abbrev pub T : Column
T = column_of (datetime_parts seconds NonNullable (parts_of (pos 0 ∷ pos 1 ∷ [])) (parts_of (negsuc 0 ∷ pos 0 ∷ [])) (constant (scalar i32 (whole 0)) 2))

-- the starts of the days 0, 1 and 2
abbrev pub day_starts : Column
day_starts = column_of (datetime_parts seconds NonNullable (parts_of (pos 0 ∷ pos 1 ∷ pos 2 ∷ [])) (constant (scalar u8 (whole 0)) 3) (constant (scalar u8 (whole 0)) 3))
