-- The tree of a nested column over any trees that stand for the columns within: it is well formed, and stands for the column.
use Rattle.std.proofs.Common.{◌≡◌, ◌+◌, ◌-◌, ◌*◌, ◌∙◌, ℕ, suc, List, map, length, true, refl, sym, ap, subst, arith}
use Rattle.std.specs.List.{list_all}
use Rattle.std.proofs.lemmas.Bool.{and_from, eq-eqb}
use Rattle.std.proofs.lemmas.Bool.Decides.{nat_tests}
use Rattle.std.proofs.lemmas.List.{length-map}
use Rattle.vx_base.specs.declared.ptype.PType.{PType}
use Rattle.vx_base.specs.declared.ptype.PType.TheVariants.{I64}
use Rattle.vx_base.specs.declared.dtype.Nullability.{Nullability}
use Rattle.vx_base.specs.declared.dtype.Nullability.TheVariants.{NonNullable}
use Rattle.vx_base.specs.Defaults.{or_default, field_defaults}
use Rattle.vx_base.specs.PlainScalar.{fits, fields_fit}
use Rattle.vx_base.specs.PlainType.{PlainType, PlainFields, primitive, is_integer, is_nullable, nullability_of}
use Rattle.vx_base.specs.PlainType as types
use Rattle.vx_base.specs.PlainValue.{PlainValue, PlainValues, items, items_or_empty}
use Rattle.vx_base.specs.Timestamps.{PlainTimestamp}
use Rattle.vx_model.specs.Column.{Column, column, column_of}
use Rattle.vx_model.specs.Nested.{within, first_within, rest_within, struct_rows, names_of, list_rows, elements, fixed_rows, fixed_elements}
use Rattle.vx_model.specs.Offsets.{offset_values}
use Rattle.vx_model.specs.Plain.{validity}
use Rattle.vx_model.specs.Rows.{rows, valid_rows, field_rows, cut_at, parts_of, each_before, list_value}
use Rattle.vx_model.specs.Tree.{Tree, Trees, nulls, timestamp, structure, list, fixed_size_list, list_of}
use Rattle.vx_model.specs.Tree as trees
use Rattle.vx_model.specs.TreeType.{tree_type, field_types}
use Rattle.vx_model.specs.WellFormed.{WellFormed, AllWellFormed, RowsFit, are_offsets, all_have_rows}
use Rattle.vx_model.proofs.JoinedLemmas.{length-offset_values, cut_joined, joined_offsets}
use Rattle.vx_model.proofs.NestedLemmas.{length-struct_rows, each_before-back, no_fields, fixed_rows-sized, length-fixed_rows, length-concatenated, parts_of-concatenated}
use Rattle.vx_model.proofs.NullsLemmas.{nulls_made}
use Rattle.vx_model.proofs.PlainLemmas.{valid_rows-items, struct-back, list-back, fixed_rows-back, nulls-back, validity-rows}

-- a well-formed tree that stands for the column
abbrev pub StandsFor : Tree → Column → Type 0
StandsFor t c = WellFormed t × (column_of t ≡ c)

-- a tree of a type's values
record IsOf (tree : Tree) (t : PlainType) (vs : List PlainValue) : Type 0 where
  types : tree_type tree ≡ t
  rows : rows tree ≡ vs

of_column : (tree : Tree) (t : PlainType) (vs : List PlainValue) → StandsFor tree (column t vs) → IsOf tree t vs
of_column tree t vs h = record { types = ap (λ c. c.dtype) h.1; rows = ap (λ c. c.values) h.1 }

rows_of-fit : (tree : Tree) (t : PlainType) (vs : List PlainValue) → IsOf tree t vs → list_all (fits t) vs ≡ true → RowsFit tree
rows_of-fit tree t vs h fit = (λ i. list_all (fits (h.types i)) (h.rows i)) ∙ fit

column_of-is : (tree : Tree) (t : PlainType) (vs : List PlainValue) → IsOf tree t vs → column_of tree ≡ column t vs
column_of-is tree t vs h = λ i. column (h.types i) (h.rows i)

-- ---- nulls, and timestamps

pub nulls-stand : (vs : List PlainValue) → list_all (fits types.null_type) vs ≡ true → StandsFor (nulls (length vs)) (column types.null_type vs)
nulls-stand vs h = (nulls_made (length vs), ap (column types.null_type) (nulls-back vs h))

-- whole numbers of 64 signed bits stand for timestamps
pub timestamp-stands : (storage : Tree) (k : PlainTimestamp) (n : Nullability) (vs : List PlainValue) → list_all (fits (types.timestamp k n)) vs ≡ true → StandsFor storage (column (primitive I64 n) vs)
    → StandsFor (timestamp storage k) (column (types.timestamp k n) vs)
timestamp-stands storage k n vs fit h =
    let own = of_column storage (primitive I64 n) vs h in
    let is : IsOf (timestamp storage k) (types.timestamp k n) vs = record { types = ap (λ t. types.timestamp k (nullability_of t)) own.types; rows = own.rows } in
    ((h.0, record { storage_type = own.types ∙ ap (λ t. primitive I64 (nullability_of t)) (sym own.types) }, rows_of-fit (timestamp storage k) (types.timestamp k n) vs is fit), column_of-is (timestamp storage k) (types.timestamp k n) vs is)

-- ---- structs

-- trees of a struct's fields
pub record FieldsStand (ts : Trees) (fs : PlainFields) (rs : List PlainValues) : Type 0 where
  pub well_formed : AllWellFormed ts
  pub types : field_types (names_of fs) ts ≡ fs
  pub named : length (names_of fs) ≡ length (list_of ts)
  pub lengths : all_have_rows (length rs) ts ≡ true
  pub rows : field_rows ts (length rs) ≡ rs

pub no_fields-stand : (rs : List PlainValues) → list_all (fields_fit types.none) rs ≡ true → FieldsStand trees.none types.none rs
no_fields-stand rs h = record { well_formed = tt; types = refl; named = refl; lengths = refl; rows = no_fields rs h }

pub field-stands : (name : List ℕ) (t : PlainType) (fs : PlainFields) (rs : List PlainValues) (tree : Tree) (ts : Trees) → list_all (fields_fit (types.more name t fs)) rs ≡ true
    → StandsFor tree (column t (map first_within rs)) → FieldsStand ts fs (map rest_within rs) → FieldsStand (trees.more tree ts) (types.more name t fs) rs
field-stands name t fs rs tree ts fit h others =
    let own = of_column tree t (map first_within rs) h in
    let count = length-map rs rest_within in
    record {
      well_formed = (h.0, others.well_formed);
      types = λ i. types.more name (own.types i) (others.types i);
      named = ap suc others.named;
      lengths = and_from _ _ (eq-eqb _ _ (ap length own.rows ∙ length-map rs first_within)) (subst (λ len. all_have_rows len ts ≡ true) count others.lengths);
      rows = (λ i. each_before (own.rows i) ((ap (field_rows ts) (sym count) ∙ others.rows) i)) ∙ each_before-back name t fs rs fit;
    }

pub structure-stands : (fs : PlainFields) (n : Nullability) (vs : List PlainValue) (ts : Trees) → list_all (fits (types.structure fs n)) vs ≡ true → FieldsStand ts fs (struct_rows fs vs)
    → StandsFor (structure (names_of fs) ts (length vs) (validity vs) n) (column (types.structure fs n) vs)
structure-stands fs n vs ts fit h =
    let count = length-struct_rows fs vs in
    let own = subst (λ len. field_rows ts len ≡ struct_rows fs vs) count h.rows in
    let back = valid_rows-items (types.structure fs n) (λ v. within (or_default (items (field_defaults fs)) v)) items (struct-back fs n) vs fit in
    let tree = structure (names_of fs) ts (length vs) (validity vs) n in
    let is : IsOf tree (types.structure fs n) vs = record { types = ap (λ gs. types.structure gs n) h.types; rows = ap (λ rs. valid_rows (validity vs) (map items rs)) own ∙ back } in
    let lengths = subst (λ len. all_have_rows len ts ≡ true) count h.lengths in
    ((h.well_formed, record { named = h.named; lengths = lengths; validity = validity-rows (types.structure fs n) vs (length vs) fit refl }, rows_of-fit tree (types.structure fs n) vs is fit), column_of-is tree (types.structure fs n) vs is)

-- ---- lists

pub list-stands : (t : PlainType) (n : Nullability) (vs : List PlainValue) (p : PType) (inside offsets : Tree) → list_all (fits (types.list t n)) vs ≡ true → StandsFor inside (column t (elements vs))
    → StandsFor offsets (column (primitive p NonNullable) (offset_values (list_rows vs))) → StandsFor (list inside offsets (validity vs) n) (column (types.list t n) vs)
list-stands t n vs p inside offsets fit h k =
    let own = of_column inside t (elements vs) h in
    let between = of_column offsets (primitive p NonNullable) (offset_values (list_rows vs)) k in
    let tree = list inside offsets (validity vs) n in
    let cut = (λ i. cut_at (between.rows i) (own.rows i)) ∙ cut_joined (list_rows vs) in
    let back = valid_rows-items (types.list t n) items_or_empty list_value (list-back t n) vs fit in
    let is : IsOf tree (types.list t n) vs = record { types = ap (λ s. types.list s n) own.types; rows = ap (λ rs. valid_rows (validity vs) (map list_value rs)) cut ∙ back } in
    let count = ap length between.rows ∙ length-offset_values (list_rows vs) ∙ ap (λ len. len + 1) (length-map vs items_or_empty) in
    let one_less : length vs ≡ length (rows offsets) - 1 = omega arith in (
      (
        h.0,
        k.0,
        record {
          offsets_type = ap is_integer between.types;
          not_null = ap is_nullable between.types;
          some = rw count (grind (arith, nat_tests));
          ends = (λ i. are_offsets (length (own.rows i)) (between.rows i)) ∙ joined_offsets (list_rows vs);
          validity = validity-rows (types.list t n) vs (length (rows offsets) - 1) fit one_less;
        },
        rows_of-fit tree (types.list t n) vs is fit,
      ),
      column_of-is tree (types.list t n) vs is,
    )

pub fixed_size_list-stands : (t : PlainType) (size : ℕ) (n : Nullability) (vs : List PlainValue) (inside : Tree) → list_all (fits (types.fixed_size_list t size n)) vs ≡ true → StandsFor inside (column t (fixed_elements t size vs))
    → StandsFor (fixed_size_list inside size (length vs) (validity vs) n) (column (types.fixed_size_list t size n) vs)
fixed_size_list-stands t size n vs inside fit h =
    let own = of_column inside t (fixed_elements t size vs) h in
    let tree = fixed_size_list inside size (length vs) (validity vs) n in
    let count = length-fixed_rows t size vs in
    let sized = fixed_rows-sized t size n vs fit in
    let parts = ap (parts_of size (length vs)) own.rows ∙ ap (λ len. parts_of size len (fixed_elements t size vs)) (sym count) ∙ parts_of-concatenated size (list_rows (fixed_rows t size vs)) sized in
    let is : IsOf tree (types.fixed_size_list t size n) vs =
    record { types = ap (λ s. types.fixed_size_list s size n) own.types; rows = ap (λ rs. valid_rows (validity vs) (map list_value rs)) parts ∙ fixed_rows-back t size n vs fit } in
    let lengths = ap length own.rows ∙ length-concatenated size (list_rows (fixed_rows t size vs)) sized ∙ ap (λ len. len * size) count in
    ((h.0, record { lengths = lengths; validity = validity-rows (types.fixed_size_list t size n) vs (length vs) fit refl }, rows_of-fit tree (types.fixed_size_list t size n) vs is fit), column_of-is tree (types.fixed_size_list t size n) vs is)
