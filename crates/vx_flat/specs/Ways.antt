-- The columns nested in a column, each by the way there. Words of the walks in vx_flat and vx_array alone: what is counted is
-- said by `counts` and `extents` of vx_model.
use Rattle.std.specs.Prelude.{ℕ, zero, suc, ◌*◌, Bool, nat_le, List, [], map, length, Option, Some, None}
use denote.Bor.{Bor}
use Rattle.std.specs.List.{list_all}
use Rattle.vx_base.specs.PlainType.{PlainType, PlainFields}
use Rattle.vx_base.specs.PlainType as types
use Rattle.vx_base.specs.PlainValue.{PlainValue, PlainValues, null}
use Rattle.vx_base.specs.TypeOf.{value_of}
use Rattle.vx_base.specs.declared.value.Value.{Value}
use Rattle.vx_model.specs.Column.{Column, column}
use Rattle.vx_model.specs.Extents.{counts, field_counts, row_limit}
use Rattle.vx_model.specs.Nested.{first_within, rest_within, struct_rows, elements, fixed_elements}
use Rattle.vx_flat.specs.declared.counting.Way.{Way, fold-Way}
use Rattle.vx_flat.specs.declared.counting.Way.TheOpen.{Way-F}

-- to the column itself; or first into a field of structs, or into the items of lists, and on from there
pub data PlainWay : Type 0 where
  here : PlainWay
  field : ℕ → PlainWay → PlainWay
  inside : PlainWay → PlainWay

-- the plain data of a way from that of the way on
abbrev pub way_step : Way-F PlainWay → PlainWay
way_step Way-F.Here = here
way_step (Way-F.Field i w) = field i w.now
way_step (Way-F.Items w) = inside w.now

-- the plain data of a way
abbrev pub way_of : Way → PlainWay
way_of = fold-Way PlainWay way_step

-- how many steps a way has
abbrev pub way_length : PlainWay → ℕ
way_length here = 0
way_length (field i w) = suc (way_length w)
way_length (inside w) = suc (way_length w)

-- the type of the field at a place in a list of fields
abbrev pub type_in : ℕ → PlainFields → Option PlainType
type_in i types.none = None
type_in zero (types.more name t fs) = Some t
type_in (suc i) (types.more name t fs) = type_in i fs

-- the type of the field at a place of structs
abbrev pub field_type : ℕ → PlainType → Option PlainType
field_type i (types.structure fs n) = type_in i fs
field_type i _ = None

-- the type of the items of lists
abbrev pub items_type : PlainType → Option PlainType
items_type (types.list t n) = Some t
items_type (types.fixed_size_list t size n) = Some t
items_type _ = None

-- how many items stand beneath a null: the size of fixed-size lists, else none
abbrev pub items_of_null : PlainType → ℕ
items_of_null (types.fixed_size_list t size n) = size
items_of_null _ = 0

-- a borrowed value, null where there is none
abbrev pub value_in : Option (Bor Value) → PlainValue
value_in None = null
value_in (Some v) = value_of v.now

-- where a way ends that doesn't fit the type: no rows
abbrev pub nowhere : Column
nowhere = column types.null_type []

-- the column of the field at a place, from the rows of structs
abbrev pub field_in : ℕ → PlainFields → List PlainValues → Column
field_in i types.none rows = nowhere
field_in zero (types.more name t fs) rows = column t (map first_within rows)
field_in (suc i) (types.more name t fs) rows = field_in i fs (map rest_within rows)

-- the column of the field at a place, from a column's type and values
abbrev pub field_column : ℕ → PlainType → List PlainValue → Column
field_column i (types.structure fs n) vs = field_in i fs (struct_rows fs vs)
field_column i _ vs = nowhere

-- the column of the items, from a column's type and values
abbrev pub items_column : PlainType → List PlainValue → Column
items_column (types.list t n) vs = column t (elements vs)
items_column (types.fixed_size_list t size n) vs = column t (fixed_elements t size vs)
items_column _ vs = nowhere

-- the column at the end of a way
abbrev pub reached : PlainWay → Column → Column
reached here c = c
reached (field i w) c = reached w (field_column i c.dtype c.values)
reached (inside w) c = reached w (items_column c.dtype c.values)

-- the rows of the column at the end of a way
abbrev pub count_at : PlainWay → PlainType → List PlainValue → ℕ
count_at w t vs = length (reached w (column t vs)).values

-- a reversed way, its last step outermost, turned round and followed by another way
abbrev pub turned : PlainWay → PlainWay → PlainWay
turned here w = w
turned (field i a) w = turned a (field i w)
turned (inside a) w = turned a (inside w)

-- the column at the end of a reversed way
abbrev pub column_at : PlainWay → Column → Column
column_at here c = c
column_at (field i a) c = let d = column_at a c in field_column i d.dtype d.values
column_at (inside a) c = let d = column_at a c in items_column d.dtype d.values

-- the counts of the columns nested in a column, without its own rows
abbrev pub inner_counts : PlainType → List PlainValue → List ℕ
inner_counts (types.structure fs n) vs = field_counts fs (struct_rows fs vs)
inner_counts (types.list t n) vs = counts t (elements vs)
inner_counts (types.fixed_size_list t size n) vs = counts t (fixed_elements t size vs)
inner_counts _ vs = []

-- whether `times * count` is within the row limit for each count
abbrev pub are_few : ℕ → List ℕ → Bool
are_few times counts = list_all (λ count. nat_le (times * count) row_limit) counts
