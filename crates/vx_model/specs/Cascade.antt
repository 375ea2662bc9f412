-- The tree of a column, by its type, over any way to make the tree of a leaf column at a site.
use Rattle.std.specs.Prelude.{Bool, true, false, not, ◌&&◌, ◌||◌, nat_lt, if◌then◌else◌, ℕ, List, [], ◌∷◌, ◌++◌, map, length, sum_by, codes}
use Rattle.vx_base.specs.declared.ptype.PType.TheVariants.{I64}
use Rattle.vx_base.specs.declared.dtype.Nullability.TheVariants.{NonNullable}
use Rattle.vx_base.specs.PlainType.{PlainType, PlainFields, boolean, primitive, utf8, binary}
use Rattle.vx_base.specs.PlainType as types
use Rattle.vx_base.specs.PlainValue.{PlainValue, PlainValues}
use Rattle.vx_base.specs.Storable.{same}
use Rattle.vx_model.specs.Tree.{Tree, Trees, constant, masked, timestamp, nulls, structure, list, fixed_size_list}
use Rattle.vx_model.specs.Tree as trees
use Rattle.vx_model.specs.Nested.{first_within, rest_within, struct_rows, names_of, list_rows, elements, fixed_elements, offsets_type}
use Rattle.vx_model.specs.Offsets.{offset_values}
use Rattle.vx_model.specs.TreeCode.{stored_tree}
use Rattle.vx_model.specs.Column.{Column, column}
use Rattle.vx_model.specs.Plain.{plain, validity}
use Rattle.vx_model.specs.Site.{Site, fresh, down}
use Rattle.vx_model.specs.Size.{size}

-- a way to make the tree of a leaf column at a site
abbrev pub Leaves : Type 0
Leaves = Column → Site → Tree

-- whether a tree is a constant, masked or not
abbrev pub is_one_value : Tree → Bool
is_one_value (constant s len) = true
is_one_value (masked child valid) = true
is_one_value _ = false

-- whether a scheme's tree was chosen, and is smaller than another tree
abbrev pub is_better : Column → Tree → Tree → Bool
is_better c made other = not (same stored_tree made (plain c)) && nat_lt (size made) (size other)

-- the tree made of timestamps themselves where it is a constant, or smaller than a Timestamp over their compressed storage; else
-- the latter
abbrev pub site_or_storage : Column → Tree → Tree → Tree
site_or_storage c made storage = if is_one_value made || is_better c made storage then made else storage

-- the name that stands for the root in a history
abbrev pub root_name : List ℕ
root_name = codes "vortex.compressor.root"

-- the site of a list's offsets: one level below the root, as its child 1, so that fewer schemes may nest there
abbrev pub offsets_site : Site
offsets_site = down fresh root_name 1

-- the offsets of lists, in the narrowest unsigned type with all of them in range
abbrev pub narrow_offsets : List (List PlainValue) → Column
narrow_offsets rows = column (primitive (offsets_type (sum_by length rows)) NonNullable) (offset_values rows)

-- Columns of a leaf type are judged at the fresh site, and so are timestamps and their storage. Each field of a struct and the
-- elements of a list are columns of their own; the offsets of a list are a leaf column below the root.
abbrev mutual
  pub cascade_of : Leaves → PlainType → List PlainValue → Tree
  cascade_of leaves types.null_type values = nulls (length values)
  cascade_of leaves (boolean n) values = leaves (column (boolean n) values) fresh
  cascade_of leaves (primitive p n) values = leaves (column (primitive p n) values) fresh
  cascade_of leaves (utf8 n) values = leaves (column (utf8 n) values) fresh
  cascade_of leaves (binary n) values = leaves (column (binary n) values) fresh
  cascade_of leaves (types.timestamp k n) values =
      let c = column (types.timestamp k n) values in
      site_or_storage c (leaves c fresh) (timestamp (leaves (column (primitive I64 n) values) fresh) k)
  cascade_of leaves (types.structure fs n) values =
      structure (names_of fs) (cascade_fields leaves fs (struct_rows fs values)) (length values) (validity values) n
  cascade_of leaves (types.list t n) values =
      list (cascade_of leaves t (elements values)) (leaves (narrow_offsets (list_rows values)) offsets_site) (validity values) n
  cascade_of leaves (types.fixed_size_list t size n) values =
      fixed_size_list (cascade_of leaves t (fixed_elements t size values)) size (length values) (validity values) n

  -- a tree for each field
  pub cascade_fields : Leaves → PlainFields → List PlainValues → Trees
  cascade_fields leaves types.none rows = trees.none
  cascade_fields leaves (types.more name t fs) rows =
      trees.more (cascade_of leaves t (map first_within rows)) (cascade_fields leaves fs (map rest_within rows))

-- the tree of a column, by its type
abbrev pub cascade : Leaves → Column → Tree
cascade leaves c = cascade_of leaves c.dtype c.values

-- ---- the columns within a column that are judged, each with the site at which it begins

abbrev mutual
  pub beginnings : PlainType → List PlainValue → List (Column × Site)
  beginnings types.null_type values = []
  beginnings (boolean n) values = (column (boolean n) values, fresh) ∷ []
  beginnings (primitive p n) values = (column (primitive p n) values, fresh) ∷ []
  beginnings (utf8 n) values = (column (utf8 n) values, fresh) ∷ []
  beginnings (binary n) values = (column (binary n) values, fresh) ∷ []
  beginnings (types.timestamp k n) values = (column (types.timestamp k n) values, fresh) ∷ (column (primitive I64 n) values, fresh) ∷ []
  beginnings (types.structure fs n) values = field_beginnings fs (struct_rows fs values)
  beginnings (types.list t n) values = (narrow_offsets (list_rows values), offsets_site) ∷ beginnings t (elements values)
  beginnings (types.fixed_size_list t size n) values = beginnings t (fixed_elements t size values)

  -- those of each field
  pub field_beginnings : PlainFields → List PlainValues → List (Column × Site)
  field_beginnings types.none rows = []
  field_beginnings (types.more name t fs) rows = beginnings t (map first_within rows) ++ field_beginnings fs (map rest_within rows)
