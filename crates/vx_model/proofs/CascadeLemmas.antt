-- The cascade of a column of any type stands for the column, where the trees of leaf columns, timestamps and offsets do.
use Rattle.std.proofs.Common.{◌≡◌, ◌<◌, ◌≤◌, ◌+◌, ◌^◌, ◌∙◌, ℕ, ℤ, pos, List, [], ◌∷◌, map, length, true, Some, refl, sym, ap, arith}
use Rattle.std.specs.Prelude.{IsTrue, ◌||◌, nat_le, unwrap_or, sum_by}
use Rattle.std.specs.List.{list_all, find}
use Rattle.std.proofs.lemmas.Bool.{and_parts, cond_both, leb-true, lt-ltb}
use Rattle.std.proofs.lemmas.List.{length-append, length-map}
use Rattle.std.proofs.lemmas.List.Folds.{list_all-append}
use Rattle.std.proofs.lemmas.List.Sums.{sum_by-cons}
use Rattle.vx_base.specs.declared.ptype.PType.{PType}
use Rattle.vx_base.specs.declared.ptype.PType.TheVariants.{U8, U16, U32, U64, I64}
use Rattle.vx_base.specs.declared.dtype.Nullability.TheVariants.{NonNullable}
use Rattle.vx_base.specs.Integers.{lies_in}
use Rattle.vx_base.specs.PlainScalar.{fits, fields_fit}
use Rattle.vx_base.specs.PlainType.{PlainType, PlainFields, boolean, primitive, utf8, binary, is_flat, is_integer}
use Rattle.vx_base.specs.PlainType as types
use Rattle.vx_base.specs.PlainValue.{PlainValue, PlainValues, items_or_empty}
use Rattle.vx_model.specs.Cascade.{Leaves, cascade, cascade_of, cascade_fields, is_one_value, is_better, narrow_offsets, offsets_site}
use Rattle.vx_model.specs.Column.{Column, column, IsColumn}
use Rattle.vx_model.specs.Extents.{counts, field_counts, row_limit}
use Rattle.vx_model.specs.Nested.{first_within, rest_within, struct_rows, list_rows, concatenated, elements, fixed_elements, offsets_type}
use Rattle.vx_model.specs.Offsets.{offsets_of}
use Rattle.vx_model.specs.Site.{fresh}
use Rattle.vx_model.specs.Tree.{timestamp}
use Rattle.vx_model.proofs.CountLemmas.{rows-few}
use Rattle.vx_model.proofs.JoinedLemmas.{length-offset_values, offsets_lie}
use Rattle.vx_model.proofs.MadeLemmas.{ints_fit}
use Rattle.vx_model.proofs.NestedLemmas.{struct_rows-fit, firsts-fit, rests-fit, elements-fit, fixed_elements-fit}
use Rattle.vx_model.proofs.NestedTreeLemmas.{StandsFor, FieldsStand, nulls-stand, timestamp-stands, no_fields-stand, field-stands, structure-stands, list-stands, fixed_size_list-stands}
use Rattle.vx_model.proofs.PlainLemmas.{stamps_fit}

-- no count of a column is above the limit of rows
abbrev pub AreFew : List ℕ → Type 0
AreFew ns = IsTrue (list_all (λ count. nat_le count row_limit) ns)

-- what is asked of the trees that leaf columns become: where leaf types and timestamps begin, and where the offsets of lists do
pub record LeavesStand (leaves : Leaves) : Type 0 where
  pub at_fresh : (c : Column) → is_flat c.dtype ≡ true → IsColumn c → length c.values ≤ row_limit → StandsFor (leaves c fresh) c
  pub at_offsets : (c : Column) → is_integer c.dtype ≡ true → IsColumn c → length c.values ≤ row_limit + 1 → StandsFor (leaves c offsets_site) c

-- ---- the offsets of lists fit the narrowed type

pub length-joined_by : {A : Type 0} (rows : List (List A)) → sum_by length rows ≡ length (concatenated rows)
length-joined_by [] = refl
length-joined_by (row ∷ rows) = sum_by-cons length row rows ∙ ap (λ n. length row + n) (length-joined_by rows) ∙ sym (length-append row (concatenated rows))

-- each number below 2^64 lies in its narrowest unsigned type
found-lies : (z : ℤ) (ps : List PType) → lies_in U64 z ≡ true → lies_in (unwrap_or (find (λ p. lies_in p z) ps) U64) z ≡ true
found-lies z [] h = h
found-lies z (p ∷ ps) h = cond_both (lies_in p z) (Some p) (find (λ p. lies_in p z) ps) (λ o. lies_in (unwrap_or o U64) z ≡ true) (λ e. e) (λ e. found-lies z ps h)

pub narrowed-lies : (end : ℕ) → end < 2 ^ 64 → lies_in (offsets_type end) (pos end) ≡ true
narrowed-lies end l = found-lies (pos end) (U8 ∷ U16 ∷ U32 ∷ U64 ∷ []) (lt-ltb _ _ l)

pub narrow_offsets-fit : (rows : List (List PlainValue)) → length (concatenated rows) < 2 ^ 64 → IsColumn (narrow_offsets rows)
narrow_offsets-fit rows l =
    let end = sum_by length rows in
    let same = length-joined_by rows in
    ints_fit (offsets_type end) NonNullable (map pos (offsets_of rows)) (offsets_lie (offsets_type end) end 0 rows (omega arith) (narrowed-lies end (omega arith)))

-- ---- by the type

module _ (leaves : Leaves) (stand : LeavesStand leaves) where
  mutual
    stands : (t : PlainType) (vs : List PlainValue) → list_all (fits t) vs ≡ true → AreFew (counts t vs) → StandsFor (cascade_of leaves t vs) (column t vs)
    stands types.null_type vs fit few = nulls-stand vs fit
    stands (boolean n) vs fit few = stand.at_fresh (column (boolean n) vs) refl fit (rows-few (boolean n) vs row_limit few)
    stands (primitive p n) vs fit few = stand.at_fresh (column (primitive p n) vs) refl fit (rows-few (primitive p n) vs row_limit few)
    stands (utf8 n) vs fit few = stand.at_fresh (column (utf8 n) vs) refl fit (rows-few (utf8 n) vs row_limit few)
    stands (binary n) vs fit few = stand.at_fresh (column (binary n) vs) refl fit (rows-few (binary n) vs row_limit few)
    stands (types.timestamp k n) vs fit few =
        let own = column (types.timestamp k n) vs in
        let least = rows-few (types.timestamp k n) vs row_limit few in
        let storage = leaves (column (primitive I64 n) vs) fresh in
        cond_both (is_one_value (leaves own fresh) || is_better own (leaves own fresh) (timestamp storage k)) _ _ (λ t. StandsFor t own)
        (λ site. stand.at_fresh own refl fit least)
        (λ other. timestamp-stands storage k n vs fit (stand.at_fresh (column (primitive I64 n) vs) refl (stamps_fit k n vs fit) least))
    stands (types.structure fs n) vs fit few =
        let b = and_parts (nat_le (length vs) row_limit) (list_all (λ count. nat_le count row_limit) (field_counts fs (struct_rows fs vs))) few in
        structure-stands fs n vs (cascade_fields leaves fs (struct_rows fs vs)) fit (fields-stand fs (struct_rows fs vs) (struct_rows-fit fs n vs fit) b.1)
    stands (types.list t n) vs fit few =
        let b = and_parts (nat_le (length vs) row_limit) (list_all (λ count. nat_le count row_limit) (counts t (elements vs))) few in
        let most = leb-true (length vs) row_limit b.0 in
        let inside = rows-few t (elements vs) row_limit b.1 in
        let os = narrow_offsets (list_rows vs) in
        let count = length-offset_values (list_rows vs) in
        let own = length-map vs items_or_empty in
        list-stands t n vs (offsets_type (sum_by length (list_rows vs))) (cascade_of leaves t (elements vs)) (leaves os offsets_site) fit (stands t (elements vs) (elements-fit t n vs fit) b.1)
        (stand.at_offsets os refl (narrow_offsets-fit (list_rows vs) (omega arith)) (omega arith))
    stands (types.fixed_size_list t size n) vs fit few =
        let b = and_parts (nat_le (length vs) row_limit) (list_all (λ count. nat_le count row_limit) (counts t (fixed_elements t size vs))) few in
        fixed_size_list-stands t size n vs (cascade_of leaves t (fixed_elements t size vs)) fit (stands t (fixed_elements t size vs) (fixed_elements-fit t size n vs fit) b.1)

    fields-stand : (fs : PlainFields) (rs : List PlainValues) → list_all (fields_fit fs) rs ≡ true → AreFew (field_counts fs rs) → FieldsStand (cascade_fields leaves fs rs) fs rs
    fields-stand types.none rs fit few = no_fields-stand rs fit
    fields-stand (types.more name t fs) rs fit few =
        let firsts = map first_within rs in
        let rests = map rest_within rs in
        let b = and_parts (list_all (λ count. nat_le count row_limit) (counts t firsts)) (list_all (λ count. nat_le count row_limit) (field_counts fs rests)) (sym (list_all-append (λ count. nat_le count row_limit) (counts t firsts) (field_counts fs rests)) ∙ few) in
        field-stands name t fs rs (cascade_of leaves t firsts) (cascade_fields leaves fs rests) fit (stands t firsts (firsts-fit name t fs rs fit) b.0) (fields-stand fs rests (rests-fit name t fs rs fit) b.1)

  pub cascade-stands : (c : Column) → IsColumn c → AreFew (counts c.dtype c.values) → StandsFor (cascade leaves c) c
  cascade-stands c fit few = stands c.dtype c.values fit few
