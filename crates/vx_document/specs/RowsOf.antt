-- The rows of a document, each read by the column's type.
use Rattle.std.specs.Prelude.{◌≡◌, ◌==◌, ℤ, ℕ, List, [], ◌∷◌, map, Option, Some, None, option_map}
use Rattle.std.specs.Result.{result_ok}
use Rattle.hex.specs.Hex.{decode_of}
use Rattle.serde_json.specs.Data.{Data, Items, no_items, item, number, string, array, object}
use Rattle.serde_json.specs.Data as json
use Rattle.serde_json.specs.Events.{items_len}
use Rattle.serde_json.specs.Find.{as_bool, as_number, as_str, as_array, as_integer}
use Rattle.vx_base.specs.declared.dtype.Nullability.{Nullability}
use Rattle.vx_base.specs.declared.dtype.Nullability.TheVariants.{NonNullable, Nullable}
use Rattle.vx_base.specs.Defaults.{or_default}
use Rattle.vx_base.specs.PlainType.{PlainType, PlainFields, boolean, primitive, utf8, binary, timestamp, structure, list, fixed_size_list}
use Rattle.vx_base.specs.PlainType as types
use Rattle.vx_base.specs.PlainValue.{PlainValue, PlainValues, null, truth, int, bytes, items}
use Rattle.vx_base.specs.PlainValue as vals
use Rattle.vx_base.specs.PlainScalar.{fits}
use Rattle.vx_model.specs.Tree.{Tree, Validity}
use Rattle.vx_model.specs.Plain.{valid_bits, plain_of}
use Rattle.vx_model.specs.Rows.{list_value}
use Rattle.vx_document.specs.Reading.{◌>>=◌, when, all_by}

-- a whole number. The reader of JSON holds `-0`, `1.0` and what exceeds 64 bits as floats, which are none
abbrev pub whole_of : Data → Option ℤ
whole_of d = as_number d >>= as_integer

-- the bytes that a text writes in hexadecimal, with digits of either case
abbrev pub bytes_of_digits : List ℕ → Option (List ℕ)
bytes_of_digits text = result_ok (decode_of text)

-- a value that isn't null, of a type without values within
abbrev pub some_of : PlainType → Data → Option PlainValue
some_of (boolean n) d = option_map truth (as_bool d)
some_of (primitive p n) d = option_map int (whole_of d)
some_of (utf8 n) d = option_map bytes (as_str d)
some_of (binary n) d = option_map bytes (as_str d >>= bytes_of_digits)
some_of (timestamp k n) d = option_map int (whole_of d)
some_of _ d = None

-- a value or null: for a struct a list of one value for each field, for lists a list of values
abbrev mutual
  pub cell_of : PlainType → Data → Option PlainValue
  cell_of t json.null = Some null
  cell_of (structure fs n) (array ds) = option_map items (field_cells fs ds)
  cell_of (list t n) (array ds) = option_map items (item_cells t ds)
  cell_of (fixed_size_list t size n) (array ds) = option_map items (item_cells t ds)
  cell_of t (json.boolean b) = some_of t (json.boolean b)
  cell_of t (number n) = some_of t (number n)
  cell_of t (string s) = some_of t (string s)
  cell_of t (array ds) = None
  cell_of t (object ms) = None

  -- a value for each field, by its type
  pub field_cells : PlainFields → Items → Option PlainValues
  field_cells types.none no_items = Some vals.none
  field_cells (types.more name t fs) (item d ds) = cell_of t d >>= (λ v. option_map (vals.more v) (field_cells fs ds))
  field_cells _ _ = None

  -- values of one type
  pub item_cells : PlainType → Items → Option PlainValues
  item_cells t no_items = Some vals.none
  item_cells t (item d ds) = cell_of t d >>= (λ v. option_map (vals.more v) (item_cells t ds))

-- a value that fits the type: within the type's range, null only where it is nullable, lists of a fixed size of that size
unfoldable pub row_of : PlainType → Data → Option PlainValue
row_of t d = do
  value ← cell_of t d
  _ ← when (fits t value)
  Some value

-- a list of rows of the type
unfoldable pub rows_of : PlainType → Data → Option (List PlainValue)
rows_of t d = as_array d >>= all_by (row_of t)

-- the plain tree of the rows
abbrev pub plain_rows : PlainType → Items → Option Tree
plain_rows t ds = option_map (plain_of t) (all_by (row_of t) ds)

-- ---- as the readers hold them

-- the validity of values: a truth value for each, true where it isn't null; None where the type has no null
abbrev pub bits_of : Nullability → List PlainValue → Validity
bits_of NonNullable values = None
bits_of Nullable values = Some (valid_bits values)

-- a reader holds these items and this validity for the values: the default beneath each null
abbrev pub AreReadRows : PlainValue → Nullability → List PlainValue → Validity → List PlainValue → Type 0
AreReadRows default n held valid values = (held ≡ map (or_default default) values) × (valid ≡ bits_of n values)

-- a row for each field, by its type
abbrev pub field_rows : List (List ℕ × PlainType) → Items → Option (List PlainValue)
field_rows [] no_items = Some []
field_rows (f ∷ fs) (item d ds) = row_of f.1 d >>= (λ v. option_map (λ vs. v ∷ vs) (field_rows fs ds))
field_rows _ _ = None

-- a struct, of a list of one row for each field
abbrev pub struct_row : List (List ℕ × PlainType) → Data → Option PlainValue
struct_row fs d = as_array d >>= (λ ds. option_map list_value (field_rows fs ds))

-- a list of rows
abbrev pub list_row : PlainType → Data → Option PlainValue
list_row t d = as_array d >>= (λ ds. option_map list_value (all_by (row_of t) ds))

-- a list of `size` rows
abbrev pub fixed_list_row : PlainType → ℕ → Data → Option PlainValue
fixed_list_row t size d = as_array d >>= (λ ds. when (items_len ds == size) >>= (λ u. option_map list_value (all_by (row_of t) ds)))
