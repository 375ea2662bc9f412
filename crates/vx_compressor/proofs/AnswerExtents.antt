-- The extents of the tree of a column are the counts of the column: a tree that cascades make counts no row twice, and none beneath
-- a null.
use Rattle.std.proofs.Common.{◌≡◌, ◌≤◌, ◌+◌, ◌-◌, ◌*◌, ◌++◌, ◌∙◌, ℕ, pos, List, [], ◌∷◌, map, length, true, refl, sym, ap, subst, arith}
use Rattle.std.specs.Prelude.{◌||◌, ◌+ℤ◌, ◌*ℤ◌, nat_le}
use Rattle.std.specs.List.{list_all}
use Rattle.std.proofs.lemmas.Bool.{and_parts, cond_both, leb-true}
use Rattle.std.proofs.lemmas.List.{length-map}
use Rattle.std.proofs.lemmas.List.Folds.{list_all-append}
use Rattle.vx_base.specs.declared.dtype.Nullability.{Nullability}
use Rattle.vx_base.specs.declared.ptype.PType.TheVariants.{I64}
use Rattle.vx_base.specs.PlainScalar.{PlainScalar, fits, fields_fit}
use Rattle.vx_base.specs.PlainType.{PlainType, PlainFields, boolean, primitive, utf8, binary, is_flat, is_integer, integer_of, nullability_of}
use Rattle.vx_base.specs.PlainType as types
use Rattle.vx_base.specs.PlainValue.{PlainValue, PlainValues, truth, int, bytes, items_or_empty}
use Rattle.vx_model.specs.Cascade.{Leaves, cascade, cascade_of, cascade_fields, is_one_value, is_better, narrow_offsets, offsets_site}
use Rattle.vx_model.specs.Column.{Column, IsColumn, column}
use Rattle.vx_model.specs.Extents.{counts, field_counts, extents, all_extents, both, repeated, row_limit}
use Rattle.vx_model.specs.Nested.{first_within, rest_within, struct_rows, list_rows, elements, fixed_elements}
use Rattle.vx_model.specs.Rows.{rows, valid_rows, below, patched, packed_at, moved, unzigzagged, looked_up, cut_at, offset_at, run_value, rle_place, summed_up, combined_at, packed_in_block, moved_in_block}
use Rattle.vx_model.specs.Site.{fresh}
use Rattle.vx_model.specs.Tree.{Tree, Validity, bool, var_bin_view, var_bin, timestamp, constant, masked, bit_packed, bit_packed_with, frame_of_reference, zig_zag, dict, nulls, structure, list, fixed_size_list, sparse, sparse_chunked, run_end, rle, sequence, delta, datetime_parts, bit_packed_v2, bit_packed_v2_with, frame_of_reference_v2}
use Rattle.vx_model.specs.Tree as trees
use Rattle.vx_model.specs.TreeType.{tree_type}
use Rattle.vx_model.specs.WellFormed.{WellFormed, IsPatches, IsValidityOf}
use Rattle.vx_model.proofs.CascadeLemmas.{AreFew, LeavesStand, narrow_offsets-fit}
use Rattle.vx_model.proofs.CountLemmas.{counts-flat, rows-few}
use Rattle.vx_model.proofs.FlatTypeLemmas.{integer-flat}
use Rattle.vx_model.proofs.JoinedLemmas.{length-offset_values}
use Rattle.vx_model.proofs.NestedLemmas.{struct_rows-fit, firsts-fit, rests-fit, elements-fit, fixed_elements-fit}
use Rattle.vx_model.proofs.NestedTreeLemmas.{StandsFor}
use Rattle.vx_model.proofs.PackedLemmas.{length-below}
use Rattle.vx_model.proofs.PlainLemmas.{stamps_fit}
use Rattle.vx_model.proofs.RowLemmas.{length-valid_rows, length-primitive, length-constant, length-masked}
use Rattle.vx_model.proofs.SparseCountLemmas.{ascend-few}
use Rattle.vx_model.proofs.VarBinLemmas.{length-cut_at}
use Rattle.vx_time.specs.PartsOf.{units_per_second}

-- ---- a tree whose values hold no others has its rows as its one extent

-- as many as there are before validity
valid-count : (valid : Validity) (rs : List PlainValue) (len : ℕ) (n : Nullability) → IsValidityOf valid len n → length rs ≡ len → len ∷ [] ≡ length (valid_rows valid rs) ∷ []
valid-count valid rs len n v e = ap (λ k. k ∷ []) (sym (length-valid_rows valid rs n (subst (λ k. IsValidityOf valid k n) (sym e) v) ∙ e))

-- a row for each number below a length
below-count : (f : ℕ → PlainValue) (len : ℕ) → len ∷ [] ≡ length (below f len) ∷ []
below-count f len = ap (λ k. k ∷ []) (sym (length-below f len))

-- patches and the fill of all other rows
sparse-count : (t : PlainType) (n len : ℕ) (es rest : List ℕ) → n ≤ len → es ≡ n ∷ [] → rest ≡ (len - n) ∷ [] → both es rest ≡ len ∷ []
sparse-count t n len es rest few e r = (λ i. both (e i) (r i)) ∙ ap (λ k. k ∷ []) (let whole : n + (len - n) ≡ len = omega arith in whole)

copies-count : (t : PlainType) (v : PlainValue) (len : ℕ) → is_flat t ≡ true → map (λ count. len * count) (counts t (v ∷ [])) ≡ len ∷ []
copies-count t v len f = ap (map (λ count. len * count)) (counts-flat t (v ∷ []) f) ∙ ap (λ k. k ∷ []) (let own : len * 1 ≡ len = omega arith in own)

-- of patches that stand in the rows of a fill
patched-count : (len offset : ℕ) (indices values : Tree) (fill : PlainScalar) → IsPatches len offset indices values → extents values ≡ length (rows values) ∷ [] → is_flat fill.dtype ≡ true
    → both (extents values) (repeated (len - length (rows values)) fill) ≡ length (below (λ i. patched (rows indices) (rows values) fill.value (offset + i)) len) ∷ []
patched-count len offset indices values fill p inside f =
    let few = ascend-few offset (offset + len) (rows indices) p.ascending (omega arith) in
    let n = length (rows values) in
    let lengths = p.lengths in
    let most : n ≤ len = omega (arith, few, lengths) in
    sparse-count fill.dtype n len (extents values) (repeated (len - n) fill) most inside (copies-count fill.dtype fill.value (len - n) f)
    ∙ below-count (λ i. patched (rows indices) (rows values) fill.value (offset + i)) len

pub extents-flat : (t : Tree) → WellFormed t → is_flat (tree_type t) ≡ true → extents t ≡ length (rows t) ∷ []
extents-flat (trees.primitive p xs valid n) w f = ap (λ k. k ∷ []) (sym (length-primitive p xs valid n w))
extents-flat (bool bs valid n) w f = valid-count valid (map truth bs) (length bs) n w.0 (length-map bs truth)
extents-flat (var_bin_view vs valid t) w f = valid-count valid (map bytes vs) (length vs) (nullability_of t) w.0.validity (length-map vs bytes)
extents-flat (var_bin offsets bs valid t) w f =
    let cut = cut_at (rows offsets) bs in
    let count = length-cut_at (rows offsets) bs in
    valid-count valid (map bytes cut) (length (rows offsets) - 1) (nullability_of t) (subst (λ k. IsValidityOf valid k (nullability_of t)) count w.1.values.validity) (length-map cut bytes ∙ count)
extents-flat (timestamp storage k) w f = extents-flat storage w.0 (ap is_flat w.1.storage_type)
extents-flat (constant s len) w f = copies-count s.dtype s.value len f ∙ ap (λ k. k ∷ []) (sym (length-constant s len))
extents-flat (masked child valid) w f = extents-flat child w.0 f ∙ ap (λ k. k ∷ []) (sym (length-masked child valid w))
extents-flat (bit_packed k) w f = valid-count k.valid (below (packed_at k) k.len) k.len k.nullability w.0.validity (length-below (packed_at k) k.len)
extents-flat (bit_packed_with k len offset indices values) w f =
    let row = λ (i : ℕ). patched (rows indices) (rows values) (packed_at k i) (offset + i) in
    valid-count k.valid (below row k.len) k.len k.nullability w.3.validity (length-below row k.len)
extents-flat (frame_of_reference encoded reference) w f = extents-flat encoded w.0 (ap is_flat w.1.encoded_type) ∙ ap (λ k. k ∷ []) (sym (length-map (rows encoded) (moved reference)))
extents-flat (zig_zag encoded) w f =
    extents-flat encoded w.0 (integer-flat (tree_type encoded) (and_parts (is_integer (tree_type encoded)) _ w.1.unsigned).0) ∙ ap (λ k. k ∷ []) (sym (length-map (rows encoded) unzigzagged))
extents-flat (dict codes values) w f = extents-flat codes w.0 (integer-flat (tree_type codes) w.2.codes_type) ∙ ap (λ k. k ∷ []) (sym (length-map (rows codes) (looked_up (rows values))))
extents-flat (sparse len offset indices values fill) w f = patched-count len offset indices values fill w.2 (extents-flat values w.1 (ap is_flat w.3.values_type ∙ f)) f
extents-flat (sparse_chunked len offset indices values chunks fill) w f = patched-count len offset indices values fill w.3 (extents-flat values w.1 (ap is_flat w.5.values_type ∙ f)) f
extents-flat (run_end ends values) w f = below-count (run_value (rows ends) (rows values)) (offset_at (rows ends) (length (rows ends) - 1))
extents-flat (rle values indices offsets len) w f = below-count (λ i. looked_up (rows values) (rle_place (rows offsets) (rows indices) i)) len
extents-flat (sequence p n first step len) w f = below-count (λ i. int (first +ℤ pos i *ℤ step)) len
extents-flat (delta bases deltas len valid n) w f =
    let row = summed_up (integer_of (tree_type bases)) (rows bases) (rows deltas) in
    valid-count valid (below row len) len n w.2.validity (length-below row len)
extents-flat (datetime_parts k n days seconds subseconds) w f =
    extents-flat days w.0 (ap is_flat w.3.days_type) ∙ below-count (combined_at (units_per_second k.unit) (rows days) (rows seconds) (rows subseconds)) (length (rows days))
extents-flat (bit_packed_v2 k offsets) w f =
    let row = packed_in_block k.bytes (rows offsets) in
    valid-count k.valid (below row k.len) k.len k.nullability w.1.validity (length-below row k.len)
extents-flat (bit_packed_v2_with k offsets len offset indices values) w f =
    let row = λ (i : ℕ). patched (rows indices) (rows values) (packed_in_block k.bytes (rows offsets) i) (offset + i) in
    valid-count k.valid (below row k.len) k.len k.nullability w.4.validity (length-below row k.len)
extents-flat (frame_of_reference_v2 encoded references) w f =
    extents-flat encoded w.0 (ap is_flat w.2.encoded_type) ∙ below-count (moved_in_block (integer_of (tree_type references)) (rows references) (rows encoded)) (length (rows encoded))
extents-flat (nulls len) w f = absurd cc
extents-flat (structure names fields len valid n) w f = absurd cc
extents-flat (list elements offsets valid n) w f = absurd cc
extents-flat (fixed_size_list elements size len valid n) w f = absurd cc

-- a tree that stands for such a column
pub extents-of : (t : Tree) (c : Column) → StandsFor t c → is_flat c.dtype ≡ true → extents t ≡ counts c.dtype c.values
extents-of t c stands f =
    extents-flat t stands.0 (ap (λ c. is_flat c.dtype) stands.1 ∙ f) ∙ ap (λ c. length c.values ∷ []) stands.1 ∙ sym (counts-flat c.dtype c.values f)

-- ---- by the type

module _ (leaves : Leaves) (stand : LeavesStand leaves) where
  at_fresh : (c : Column) → is_flat c.dtype ≡ true → IsColumn c → length c.values ≤ row_limit → extents (leaves c fresh) ≡ counts c.dtype c.values
  at_fresh c f fit few = extents-of (leaves c fresh) c (stand.at_fresh c f fit few) f

  mutual
    extents-cascade_of : (t : PlainType) (vs : List PlainValue) → list_all (fits t) vs ≡ true → AreFew (counts t vs) → extents (cascade_of leaves t vs) ≡ counts t vs
    extents-cascade_of types.null_type vs fit few = refl
    extents-cascade_of (boolean n) vs fit few = at_fresh (column (boolean n) vs) refl fit (rows-few (boolean n) vs row_limit few)
    extents-cascade_of (primitive p n) vs fit few = at_fresh (column (primitive p n) vs) refl fit (rows-few (primitive p n) vs row_limit few)
    extents-cascade_of (utf8 n) vs fit few = at_fresh (column (utf8 n) vs) refl fit (rows-few (utf8 n) vs row_limit few)
    extents-cascade_of (binary n) vs fit few = at_fresh (column (binary n) vs) refl fit (rows-few (binary n) vs row_limit few)
    extents-cascade_of (types.timestamp k n) vs fit few =
        let own = column (types.timestamp k n) vs in
        let least = rows-few (types.timestamp k n) vs row_limit few in
        let storage = leaves (column (primitive I64 n) vs) fresh in
        cond_both (is_one_value (leaves own fresh) || is_better own (leaves own fresh) (timestamp storage k)) _ _ (λ t. extents t ≡ counts (types.timestamp k n) vs)
        (λ site. at_fresh own refl fit least)
        (λ other. at_fresh (column (primitive I64 n) vs) refl (stamps_fit k n vs fit) least)
    extents-cascade_of (types.structure fs n) vs fit few =
        let b = and_parts (nat_le (length vs) row_limit) (list_all (λ count. nat_le count row_limit) (field_counts fs (struct_rows fs vs))) few in
        ap (λ inside. length vs ∷ inside) (extents-cascade_fields fs (struct_rows fs vs) (struct_rows-fit fs n vs fit) b.1)
    extents-cascade_of (types.list t n) vs fit few =
        let b = and_parts (nat_le (length vs) row_limit) (list_all (λ count. nat_le count row_limit) (counts t (elements vs))) few in
        let most = leb-true (length vs) row_limit b.0 in
        let inside = rows-few t (elements vs) row_limit b.1 in
        let os = narrow_offsets (list_rows vs) in
        let count = length-offset_values (list_rows vs) in
        let own = length-map vs items_or_empty in
        let offsets = stand.at_offsets os refl (narrow_offsets-fit (list_rows vs) (omega arith)) (omega arith) in
        let ends : length (rows (leaves os offsets_site)) - 1 ≡ length vs = ap (λ c. length c.values - 1) offsets.1 ∙ (let same : length (list_rows vs) + 1 - 1 ≡ length vs = omega arith in ap (λ k. k - 1) count ∙ same) in
        λ i. ends i ∷ extents-cascade_of t (elements vs) (elements-fit t n vs fit) b.1 i
    extents-cascade_of (types.fixed_size_list t size n) vs fit few =
        let b = and_parts (nat_le (length vs) row_limit) (list_all (λ count. nat_le count row_limit) (counts t (fixed_elements t size vs))) few in
        ap (λ inside. length vs ∷ inside) (extents-cascade_of t (fixed_elements t size vs) (fixed_elements-fit t size n vs fit) b.1)

    extents-cascade_fields : (fs : PlainFields) (rs : List PlainValues) → list_all (fields_fit fs) rs ≡ true → AreFew (field_counts fs rs) → all_extents (cascade_fields leaves fs rs) ≡ field_counts fs rs
    extents-cascade_fields types.none rs fit few = refl
    extents-cascade_fields (types.more name t fs) rs fit few =
        let firsts = map first_within rs in
        let rests = map rest_within rs in
        let b = and_parts (list_all (λ count. nat_le count row_limit) (counts t firsts)) (list_all (λ count. nat_le count row_limit) (field_counts fs rests)) (sym (list_all-append (λ count. nat_le count row_limit) (counts t firsts) (field_counts fs rests)) ∙ few) in
        let first = extents-cascade_of t firsts (firsts-fit name t fs rs fit) b.0 in
        let rest = extents-cascade_fields fs rests (rests-fit name t fs rs fit) b.1 in
        λ i. first i ++ rest i

  pub extents-cascade : (c : Column) → IsColumn c → AreFew (counts c.dtype c.values) → extents (cascade leaves c) ≡ counts c.dtype c.values
  extents-cascade c fit few = extents-cascade_of c.dtype c.values fit few
