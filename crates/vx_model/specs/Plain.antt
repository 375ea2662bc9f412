-- The plain tree of a column, the one without any encoding: defaults beneath nulls, list offsets as u64 from 0 on, and validity
-- bits exactly where some row is null.
use Rattle.std.specs.Prelude.{◌≡◌, ◌<◌, ◌^◌, pos, Bool, List, map, length, None, Some, not, if◌then◌else◌}
use Rattle.std.specs.List.{list_any}
use Rattle.vx_base.specs.declared.ptype.PType.TheVariants.{U64, I64}
use Rattle.vx_base.specs.declared.dtype.Nullability.TheVariants.{NonNullable}
use Rattle.vx_base.specs.PlainType.{PlainType, PlainFields}
use Rattle.vx_base.specs.PlainType as types
use Rattle.vx_base.specs.PlainValue.{PlainValue, PlainValues, is_null, truth_or_false, whole_or_zero, bytes_or_empty}
use Rattle.vx_model.specs.Tree.{Tree, Trees, Validity, bool, primitive, var_bin_view, timestamp, nulls, structure, list, fixed_size_list}
use Rattle.vx_model.specs.Tree as trees
use Rattle.vx_model.specs.Nested.{first_within, rest_within, struct_rows, names_of, list_rows, elements, fixed_elements}
use Rattle.vx_model.specs.Offsets.{offsets_of}
use Rattle.vx_model.specs.Column.{Column, column_of}

-- true where a row isn't null
abbrev pub valid_bits : List PlainValue → List Bool
valid_bits values = map (λ v. not (is_null v)) values

-- the validity bits where some row is null, else None
abbrev pub validity : List PlainValue → Validity
validity values = if list_any is_null values then Some (valid_bits values) else None

-- the offsets of lists as a plain tree of u64
abbrev pub plain_offsets : List (List PlainValue) → Tree
plain_offsets rows = primitive U64 (map pos (offsets_of rows)) None NonNullable

-- the plain tree of values, by their type
abbrev mutual
  pub plain_of : PlainType → List PlainValue → Tree
  plain_of types.null_type values = nulls (length values)
  plain_of (types.boolean n) values = bool (map truth_or_false values) (validity values) n
  plain_of (types.primitive p n) values = primitive p (map whole_or_zero values) (validity values) n
  plain_of (types.utf8 n) values = var_bin_view (map bytes_or_empty values) (validity values) (types.utf8 n)
  plain_of (types.binary n) values = var_bin_view (map bytes_or_empty values) (validity values) (types.binary n)
  plain_of (types.timestamp k n) values = timestamp (primitive I64 (map whole_or_zero values) (validity values) n) k
  plain_of (types.structure fs n) values = structure (names_of fs) (plain_fields fs (struct_rows fs values)) (length values) (validity values) n
  plain_of (types.list t n) values = list (plain_of t (elements values)) (plain_offsets (list_rows values)) (validity values) n
  plain_of (types.fixed_size_list t size n) values =
      fixed_size_list (plain_of t (fixed_elements t size values)) size (length values) (validity values) n

  -- a plain tree for each field
  pub plain_fields : PlainFields → List PlainValues → Trees
  plain_fields types.none rows = trees.none
  plain_fields (types.more name t fs) rows = trees.more (plain_of t (map first_within rows)) (plain_fields fs (map rest_within rows))

-- the plain tree of a column
abbrev pub plain : Column → Tree
plain c = plain_of c.dtype c.values

-- a tree is the plain tree of its own column
abbrev pub IsPlain : Tree → Type 0
IsPlain t = t ≡ plain (column_of t)

-- all lists of a column have fewer than 2^64 elements together, in each nested column too, so that u64 offsets hold them
abbrev mutual
  pub FewElements : PlainType → List PlainValue → Type 0
  FewElements (types.structure fs n) values = FewFieldElements fs (struct_rows fs values)
  FewElements (types.list t n) values = (length (elements values) < 2 ^ 64) × FewElements t (elements values)
  FewElements (types.fixed_size_list t size n) values = FewElements t (fixed_elements t size values)
  FewElements _ values = Unit {0}

  -- of each field
  pub FewFieldElements : PlainFields → List PlainValues → Type 0
  FewFieldElements types.none rows = Unit {0}
  FewFieldElements (types.more name t fs) rows = FewElements t (map first_within rows) × FewFieldElements fs (map rest_within rows)
