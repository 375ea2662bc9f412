-- What `encode` answers, by the column and the fill that may be requested.
use Rattle.std.specs.Prelude.{◌≡◌, ◌^◌, ◌==◌, ◌-◌, Bool, true, not, nat_lt, if◌then◌else◌, length, Option, None, Some, Result, Ok, Err}
use Rattle.std.specs.List.{list_all}
use Rattle.vx_base.specs.Answers.{Answers}
use Rattle.vx_base.specs.declared.error.VortexError.{VortexError}
use Rattle.vx_base.specs.declared.error.VortexError.TheVariants.{MismatchedTypes, TooManyRows, CastRefused}
use Rattle.vx_base.specs.declared.ptype.PType.TheVariants.{U32, U64}
use Rattle.vx_base.specs.PlainScalar.{PlainScalar, scalar, fits}
use Rattle.vx_base.specs.PlainType.{PlainType, is_integer, same_base}
use Rattle.vx_base.specs.PlainValue.{PlainValue, null, int, is_null}
use Rattle.vx_model.specs.Column.{Column}
use Rattle.vx_model.specs.Plain.{plain}
use Rattle.vx_model.specs.Tree.{Tree, constant}
use Rattle.vx_stats.specs.Stats.{most_frequent}
use Rattle.vx_sparse_array.specs.Filling.{value_filling, null_filling, is_mostly_null, filled_tree}

-- a requested fill is of the type of the column, up to nullability
abbrev pub is_fill_of : PlainType → Option PlainScalar → Bool
is_fill_of t None = true
is_fill_of t (Some fill) = same_base fill.dtype t

-- the fill: the requested value, refused where the type of the column doesn't hold it; else the most frequent integer
abbrev pub fill_for : Column → Option PlainScalar → Result PlainValue VortexError
fill_for c (Some fill) = if fits c.dtype fill.value then Ok fill.value else Err CastRefused
fill_for c None = if is_integer c.dtype then Ok (int (most_frequent c.values).0) else Err MismatchedTypes

-- the sparse tree over that fill
abbrev pub filled_by : Column → Result PlainValue VortexError → Result Tree VortexError
filled_by c (Ok fill) = Ok (filled_tree U64 (value_filling fill) c)
filled_by c (Err e) = Err e

-- Of a column with rows, by the first that applies: all rows null, a Constant; more than 9 of 10 rows null, the null fill, whatever
-- fill was requested; else the fill.
abbrev pub encoded_rows : Column → Option PlainScalar → Result Tree VortexError
encoded_rows c fill =
    if list_all is_null c.values then Ok (constant (scalar c.dtype null) (length c.values))
    else (if is_mostly_null c.values then Ok (filled_tree U32 null_filling c)
    else filled_by c (fill_for c fill))

-- By the first that applies: a fill of another base; more than 2^32 - 1 rows; no row, the plain tree; else by the rows.
abbrev pub encoded : Column → Option PlainScalar → Result Tree VortexError
encoded c fill =
    if not (is_fill_of c.dtype fill) then Err MismatchedTypes
    else (if nat_lt (2 ^ 32 - 1) (length c.values) then Err TooManyRows
    else (if length c.values == 0 then Ok (plain c)
    else encoded_rows c fill))

-- a call answers as defined: exactly the refusal, or the value unless memory runs out
abbrev pub AnswersAs : {A : Type 0} → Result A VortexError → Result A VortexError → Type 0
AnswersAs (Ok x) result = Answers result x
AnswersAs (Err e) result = result ≡ Err e
