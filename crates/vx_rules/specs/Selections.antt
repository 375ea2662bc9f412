-- The functions that choose rows by position: slice, filter, mask, take, and a single row.
use Rattle.std.specs.Prelude.{ℕ, Bool, ◌==◌, nat_lt, if◌then◌else◌, List, [], ◌∷◌, map, length, Option, None}
use Rattle.std.specs.List.{list_all}
use Rattle.vx_base.specs.declared.error.VortexError.{VortexError}
use Rattle.vx_base.specs.declared.error.VortexError.TheVariants.{MismatchedTypes, LengthMismatch, OutOfBounds}
use Rattle.vx_base.specs.declared.dtype.Nullability.TheVariants.{Nullable}
use Rattle.vx_base.specs.Answers.{unless}
use Rattle.vx_base.specs.Masks.{rows_between, is_part}
use Rattle.vx_base.specs.PlainScalar.{PlainScalar, scalar}
use Rattle.vx_base.specs.PlainType.{is_integer, with_nullability}
use Rattle.vx_model.specs.Column.{Column, column}
use Rattle.vx_model.specs.Rows.{masked_rows, looked_up, row_at}
use Rattle.vx_model.specs.TreeType.{dict_type}
use Rattle.vx_model.specs.WellFormed.{is_place}

-- ---- slice

-- why a slice is refused: OutOfBounds unless start ≤ end ≤ length
abbrev pub slice_refusal : Column → ℕ → ℕ → Option VortexError
slice_refusal c start end = unless (is_part (length c.values) start end) OutOfBounds None

-- the rows `start` to `end - 1`
abbrev pub sliced : Column → ℕ → ℕ → Column
sliced c start end = column c.dtype (rows_between c.values start end)

-- ---- filter and mask

-- why a mask is refused: LengthMismatch unless it has a bit for each row
abbrev pub mask_refusal : Column → List Bool → Option VortexError
mask_refusal c keep = unless (length keep == length c.values) LengthMismatch None

-- the items whose bit is true
abbrev pub kept_items : {A : Type 0} → List Bool → List A → List A
kept_items [] xs = []
kept_items (bit ∷ bits) [] = []
kept_items (bit ∷ bits) (x ∷ xs) = if bit then x ∷ kept_items bits xs else kept_items bits xs

-- filter: the rows whose bit is true
abbrev pub filtered : Column → List Bool → Column
filtered c keep = column c.dtype (kept_items keep c.values)

-- mask: all rows, null where the bit is false. The type is nullable even if every bit is true, so that it doesn't depend on the bits
abbrev pub masked : Column → List Bool → Column
masked c keep = column (with_nullability c.dtype Nullable) (masked_rows keep c.values)

-- ---- take

-- why indices are refused: MismatchedTypes unless they are integers, then OutOfBounds unless each is null or the number of a row
abbrev pub take_refusal : Column → Column → Option VortexError
take_refusal c indices =
    unless (is_integer indices.dtype) MismatchedTypes (unless (list_all (is_place (length c.values)) indices.values) OutOfBounds None)

-- the row with each index as its number, null at a null index; nullable where the column or the indices are, as a dictionary is
abbrev pub taken : Column → Column → Column
taken c indices = column (dict_type indices.dtype c.dtype) (map (looked_up c.values) indices.values)

-- ---- a single row

-- why a row is refused: OutOfBounds unless its number is below the length
abbrev pub row_refusal : Column → ℕ → Option VortexError
row_refusal c i = unless (nat_lt i (length c.values)) OutOfBounds None

-- row i, as a scalar of the column's type
abbrev pub row_scalar : Column → ℕ → PlainScalar
row_scalar c i = scalar c.dtype (row_at c.values i)
