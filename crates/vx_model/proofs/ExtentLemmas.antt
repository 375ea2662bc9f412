-- The counts of a tree's rows are within its extents.
use Rattle.std.proofs.Common.{◌≡◌, ◌≤◌, ◌+◌, ◌-◌, ◌++◌, ◌∙◌, ℕ, pos, Bool, true, List, [], ◌∷◌, map, length, Some, None, refl, sym, ap, subst, arith}
use Rattle.std.specs.Prelude.{◌==◌, ◌+ℤ◌, ◌*ℤ◌}
use Rattle.std.proofs.lemmas.Bool.{and_parts, eqb-true, leb-true}
use Rattle.std.proofs.lemmas.List.{length-map, length-replicate}
use Rattle.std.proofs.lemmas.List.FromFn.{length-map-range_with_len}
use Rattle.vx_base.specs.declared.dtype.Nullability.{Nullability}
use Rattle.vx_base.specs.PlainType.{PlainType, PlainFields, boolean, primitive, utf8, binary, timestamp, is_flat, is_integer, integer_of, with_nullability}
use Rattle.vx_base.specs.PlainType as types
use Rattle.vx_base.specs.PlainScalar.{fits}
use Rattle.vx_base.specs.PlainValue.{PlainValue, PlainValues, null, truth, int, bytes, items, truth_or_false, whole_or_zero, bytes_or_empty, items_or_empty}
use Rattle.vx_model.specs.Tree.{Tree, Trees, Validity, bool, var_bin_view, var_bin, constant, masked, bit_packed, bit_packed_with, frame_of_reference, zig_zag, dict, nulls, structure, list, fixed_size_list, list_of, sparse, run_end, rle, sequence, delta, datetime_parts, bit_packed_v2, bit_packed_v2_with, frame_of_reference_v2, sparse_chunked}
use Rattle.vx_model.specs.Tree as trees
use Rattle.vx_model.specs.Rows.{rows, masked_rows, valid_rows, below, patched, packed_at, moved, unzigzagged, looked_up, cut_at, parts_of, list_value, each_before, field_rows, offset_at, run_value, rle_place, summed_up, combined_at, packed_in_block, moved_in_block}
use Rattle.vx_time.specs.PartsOf.{units_per_second}
use Rattle.vx_model.specs.Nested.{concatenated, first_within, rest_within}
use Rattle.vx_model.specs.Nested as nested
use Rattle.vx_model.specs.TreeType.{tree_type, field_types}
use Rattle.vx_model.specs.WellFormed.{AllWellFormed, all_have_rows}
use Rattle.vx_model.specs.Extents.{counts, field_counts, extents, all_extents}
use Rattle.vx_model.specs.Laws.{AreWithin, CountsWithinExtents}
use Rattle.vx_model.specs.Offsets.{offset_values}
use Rattle.vx_model.specs.Plain.{plain_of, plain_fields}
use Rattle.vx_model.proofs.CountLemmas.{counts-flat, within-next, within-append}
use Rattle.vx_model.proofs.FixedSizeListLemmas.{fixed_lists-fit, fixed_rows-values}
use Rattle.vx_model.proofs.FlatTypeLemmas.{integer-flat, bytes-flat}
use Rattle.vx_model.proofs.JoinedLemmas.{length-offset_values}
use Rattle.vx_model.proofs.LeastLemmas.{valid-least, copies-within}
use Rattle.vx_model.proofs.ListLemmas.{lists-fit, list_rows-values}
use Rattle.vx_model.proofs.MadeLemmas.{rows_fit}
use Rattle.vx_model.proofs.PartLemmas.{cut_at-passes, parts_of-passes, parts_of-sized, length-parts_of, concatenated-cut_at, concatenated-parts_of}
use Rattle.vx_model.proofs.SparseCountLemmas.{sparse-within}
use Rattle.vx_model.proofs.StructLemmas.{length-field_rows, field_rows-fit, items-fit, first-each_before, rest-each_before, struct_rows-items}
use Rattle.vx_model.proofs.VarBinLemmas.{length-cut_at}

-- ---- flat types

flat-with : (t : PlainType) (n : Nullability) → is_flat t ≡ true → is_flat (with_nullability t n) ≡ true
flat-with (boolean m) n h = refl
flat-with (primitive p m) n h = refl
flat-with (utf8 m) n h = refl
flat-with (binary m) n h = refl
flat-with (timestamp k m) n h = refl
flat-with t n h = absurd cc

-- a flat column of fewer rows has smaller counts, whatever the types
counts-fewer : (t u : PlainType) (vs ws : List PlainValue) (es : List ℕ) → is_flat t ≡ true → is_flat u ≡ true → length vs ≤ length ws → AreWithin (counts u ws) es → AreWithin (counts t vs) es
counts-fewer t u vs ws es f g fewer h =
    let first : AreWithin (length ws ∷ []) es = subst (λ ns. AreWithin ns es) (counts-flat u ws g) h in
    subst (λ ns. AreWithin ns es) (sym (counts-flat t vs f)) (of_one es first)
  where
    of_one : (es : List ℕ) → AreWithin (length ws ∷ []) es → AreWithin (length vs ∷ []) es
    of_one [] h = h
    of_one (e ∷ es) h = (let here = h.0 in omega arith, h.1)

-- ---- rows under a mask

length-masked_rows-le : (bits : List Bool) (rs : List PlainValue) → length (masked_rows bits rs) ≤ length rs
length-masked_rows-le [] rs = omega arith
length-masked_rows-le (bit ∷ bits) [] = omega arith
length-masked_rows-le (bit ∷ bits) (r ∷ rs) = let fewer = length-masked_rows-le bits rs in omega arith

length-valid_rows-le : (valid : Validity) (rs : List PlainValue) → length (valid_rows valid rs) ≤ length rs
length-valid_rows-le None rs = omega arith
length-valid_rows-le (Some bits) rs = length-masked_rows-le bits rs

-- items of any kind, some of them null
counts-items : {A : Type 0} (t : PlainType) (valid : Validity) (item : A → PlainValue) (xs : List A) (len : ℕ) → is_flat t ≡ true → length xs ≤ len → AreWithin (counts t (valid_rows valid (map item xs))) (len ∷ [])
counts-items t valid item xs len f most =
    subst (λ ns. AreWithin ns (len ∷ [])) (sym (counts-flat t (valid_rows valid (map item xs)) f))
    (let fewer = length-valid_rows-le valid (map item xs) in omega (arith, length-map xs item), tt)

-- rows by their number, some of them null
counts-below : (valid : Validity) (f : ℕ → PlainValue) (len : ℕ) → length (valid_rows valid (below f len)) ≤ len
counts-below valid f len = let fewer = length-valid_rows-le valid (below f len) in omega (arith, length-map-range_with_len f 0 len)

counts-numbered : (t : PlainType) (f : ℕ → PlainValue) (len : ℕ) → is_integer t ≡ true → AreWithin (counts t (below f len)) (len ∷ [])
counts-numbered t f len i = subst (λ ns. AreWithin ns (len ∷ [])) (sym (counts-flat t (below f len) (integer-flat t i))) (counts-below None f len, tt)

-- ---- every tree

mutual
  pub counts_within_extents : CountsWithinExtents
  counts_within_extents (trees.primitive p xs valid n) w = (let fewer = length-valid_rows-le valid (map int xs) in omega (arith, length-map xs int), tt)
  counts_within_extents (bool bs valid n) w = (let fewer = length-valid_rows-le valid (map truth bs) in omega (arith, length-map bs truth), tt)
  counts_within_extents (var_bin_view vs valid t) w = counts-items t valid bytes vs (length vs) (bytes-flat t w.0.byte_type) (omega arith)
  counts_within_extents (var_bin offsets bs valid t) w =
      counts-items t valid bytes (cut_at (rows offsets) bs) (length (rows offsets) - 1) (bytes-flat t w.1.values.byte_type) (let same = length-cut_at (rows offsets) bs in omega arith)
  counts_within_extents (trees.timestamp storage k) w =
      counts-fewer (tree_type (trees.timestamp storage k)) (tree_type storage) (rows storage) (rows storage) (extents storage) refl (ap is_flat w.1.storage_type) (omega arith) (counts_within_extents storage w.0)
  counts_within_extents (constant s len) w = copies-within s.dtype s.value len
  counts_within_extents (masked child valid) w =
      counts-fewer (tree_type child) (tree_type child) (masked_rows valid (rows child)) (rows child) (extents child) w.1.flat w.1.flat (length-masked_rows-le valid (rows child)) (counts_within_extents child w.0)
  counts_within_extents (bit_packed k) w = (counts-below k.valid (packed_at k) k.len, tt)
  counts_within_extents (bit_packed_with k len offset indices values) w = (counts-below k.valid (λ i. patched (rows indices) (rows values) (packed_at k i) (offset + i)) k.len, tt)
  counts_within_extents (frame_of_reference encoded reference) w =
      counts-fewer (tree_type (frame_of_reference encoded reference)) (tree_type encoded) (map (moved reference) (rows encoded)) (rows encoded) (extents encoded) refl (ap is_flat w.1.encoded_type)
      (let same = length-map (rows encoded) (moved reference) in omega arith) (counts_within_extents encoded w.0)
  counts_within_extents (zig_zag encoded) w =
      counts-fewer (tree_type (zig_zag encoded)) (tree_type encoded) (map unzigzagged (rows encoded)) (rows encoded) (extents encoded) refl (integer-flat (tree_type encoded) (and_parts (is_integer (tree_type encoded)) _ w.1.unsigned).0)
      (let same = length-map (rows encoded) unzigzagged in omega arith) (counts_within_extents encoded w.0)
  counts_within_extents (dict codes values) w =
      counts-fewer (tree_type (dict codes values)) (tree_type codes) (map (looked_up (rows values)) (rows codes)) (rows codes) (extents codes) (flat-with (tree_type values) _ w.2.values_type) (integer-flat (tree_type codes) w.2.codes_type)
      (let same = length-map (rows codes) (looked_up (rows values)) in omega arith) (counts_within_extents codes w.0)
  counts_within_extents (nulls len) w = (let same = length-replicate len null in omega arith, tt)
  counts_within_extents (structure names fields len valid n) w =
      let fs = field_types names fields in
      let rs = field_rows fields len in
      let count : length (map items rs) ≡ len = length-map rs items ∙ length-field_rows fields len w.1.lengths in
      within-next (counts (types.structure fs n) (valid_rows valid (map items rs))) (counts (types.structure fs n) (map items rs)) (len ∷ all_extents fields)
      (valid-least (types.structure fs n) valid (map items rs) (items-fit fs n rs (field_rows-fit names fields len w.1.named w.0)))
      (omega arith, subst (λ qs. AreWithin (field_counts fs qs) (all_extents fields)) (sym (struct_rows-items fs rs)) (fields_within_extents names fields len w.1.named w.1.lengths w.0))
  counts_within_extents (list elements offsets valid n) w =
      let t = tree_type elements in
      let parts = cut_at (rows offsets) (rows elements) in
      let count : length (map list_value parts) ≡ length (rows offsets) - 1 = length-map parts list_value ∙ length-cut_at (rows offsets) (rows elements) in
      let whole = ap concatenated (list_rows-values parts) ∙ concatenated-cut_at (rows offsets) (rows elements) w.2.ends (leb-true _ _ w.2.some) in
      within-next (counts (types.list t n) (valid_rows valid (map list_value parts))) (counts (types.list t n) (map list_value parts)) ((length (rows offsets) - 1) ∷ extents elements)
      (valid-least (types.list t n) valid (map list_value parts) (lists-fit t n parts (cut_at-passes (fits t) (rows offsets) (rows elements) (rows_fit elements w.0))))
      (omega arith, subst (λ vs. AreWithin (counts t vs) (extents elements)) (sym whole) (counts_within_extents elements w.0))
  counts_within_extents (fixed_size_list elements size len valid n) w =
      let t = tree_type elements in
      let parts = parts_of size len (rows elements) in
      let count : length (map list_value parts) ≡ len = length-map parts list_value ∙ length-parts_of size len (rows elements) in
      let whole = ap nested.elements (fixed_rows-values t size parts) ∙ ap concatenated (list_rows-values parts) ∙ concatenated-parts_of size len (rows elements) w.1.lengths in
      within-next (counts (types.fixed_size_list t size n) (valid_rows valid (map list_value parts))) (counts (types.fixed_size_list t size n) (map list_value parts)) (len ∷ extents elements)
      (valid-least (types.fixed_size_list t size n) valid (map list_value parts)
      (fixed_lists-fit t size n parts (parts_of-sized size len (rows elements) w.1.lengths) (parts_of-passes (fits t) size len (rows elements) (rows_fit elements w.0))))
      (omega arith, subst (λ vs. AreWithin (counts t vs) (extents elements)) (sym whole) (counts_within_extents elements w.0))
  counts_within_extents (sparse len offset indices values fill) w =
      sparse-within (rows indices) (rows values) fill len offset (extents values) w.2.ascending w.2.lengths (subst (λ t. AreWithin (counts t (rows values)) (extents values)) w.3.values_type (counts_within_extents values w.1))
  counts_within_extents (run_end ends values) w = counts-numbered (tree_type values) (run_value (rows ends) (rows values)) (offset_at (rows ends) (length (rows ends) - 1)) w.2.values_type
  counts_within_extents (rle values indices offsets len) w = counts-numbered (tree_type values) (λ i. looked_up (rows values) (rle_place (rows offsets) (rows indices) i)) len w.3.values_type
  counts_within_extents (sequence p n first step len) w = (counts-below None (λ i. int (first +ℤ pos i *ℤ step)) len, tt)
  counts_within_extents (delta bases deltas len valid n) w = (counts-below valid (summed_up (integer_of (tree_type bases)) (rows bases) (rows deltas)) len, tt)
  counts_within_extents (datetime_parts k n days seconds subseconds) w =
      let f = combined_at (units_per_second k.unit) (rows days) (rows seconds) (rows subseconds) in
      counts-fewer (tree_type (datetime_parts k n days seconds subseconds)) (tree_type days) (below f (length (rows days))) (rows days) (extents days) refl (ap is_flat w.3.days_type)
      (let same = length-map-range_with_len f 0 (length (rows days)) in omega arith) (counts_within_extents days w.0)
  counts_within_extents (bit_packed_v2 k offsets) w = (counts-below k.valid (packed_in_block k.bytes (rows offsets)) k.len, tt)
  counts_within_extents (bit_packed_v2_with k offsets len offset indices values) w =
      (counts-below k.valid (λ i. patched (rows indices) (rows values) (packed_in_block k.bytes (rows offsets) i) (offset + i)) k.len, tt)
  counts_within_extents (frame_of_reference_v2 encoded references) w =
      let f = moved_in_block (integer_of (tree_type references)) (rows references) (rows encoded) in
      counts-fewer (tree_type (frame_of_reference_v2 encoded references)) (tree_type encoded) (below f (length (rows encoded))) (rows encoded) (extents encoded) refl (ap is_flat w.2.encoded_type)
      (let same = length-map-range_with_len f 0 (length (rows encoded)) in omega arith) (counts_within_extents encoded w.0)
  counts_within_extents (sparse_chunked len offset indices values chunks fill) w =
      sparse-within (rows indices) (rows values) fill len offset (extents values) w.3.ascending w.3.lengths (subst (λ t. AreWithin (counts t (rows values)) (extents values)) w.5.values_type (counts_within_extents values w.1))

  fields_within_extents : (names : List (List ℕ)) (fields : Trees) (len : ℕ) → length names ≡ length (list_of fields) → all_have_rows len fields ≡ true → AllWellFormed fields
      → AreWithin (field_counts (field_types names fields) (field_rows fields len)) (all_extents fields)
  fields_within_extents [] trees.none len e h w = tt
  fields_within_extents (name ∷ names) trees.none len e h w = absurd (omega arith)
  fields_within_extents [] (trees.more t ts) len e h w = absurd (omega arith)
  fields_within_extents (name ∷ names) (trees.more t ts) len e h w =
      let both = and_parts (length (rows t) == len) (all_have_rows len ts) h in
      let same = eqb-true (length (rows t)) len both.0 ∙ sym (length-field_rows ts len both.1) in
      within-append (counts (tree_type t) (map first_within (each_before (rows t) (field_rows ts len)))) (extents t) (field_counts (field_types names ts) (map rest_within (each_before (rows t) (field_rows ts len)))) (all_extents ts)
      (subst (λ vs. AreWithin (counts (tree_type t) vs) (extents t)) (sym (first-each_before (rows t) (field_rows ts len) same)) (counts_within_extents t w.0))
      (subst (λ rs. AreWithin (field_counts (field_types names ts) rs) (all_extents ts)) (sym (rest-each_before (rows t) (field_rows ts len) same)) (fields_within_extents names ts len (omega arith) both.1 w.1))

-- ---- the extents of a plain tree are the counts of its column

mutual
  pub extents-plain_of : (t : PlainType) (vs : List PlainValue) → extents (plain_of t vs) ≡ counts t vs
  extents-plain_of types.null_type vs = refl
  extents-plain_of (boolean n) vs = ap (λ len. len ∷ []) (length-map vs truth_or_false)
  extents-plain_of (primitive p n) vs = ap (λ len. len ∷ []) (length-map vs whole_or_zero)
  extents-plain_of (utf8 n) vs = ap (λ len. len ∷ []) (length-map vs bytes_or_empty)
  extents-plain_of (binary n) vs = ap (λ len. len ∷ []) (length-map vs bytes_or_empty)
  extents-plain_of (timestamp k n) vs = ap (λ len. len ∷ []) (length-map vs whole_or_zero)
  extents-plain_of (types.structure fs n) vs = ap (λ inside. length vs ∷ inside) (all_extents-plain fs (nested.struct_rows fs vs))
  extents-plain_of (types.list t n) vs =
      let own : length (offset_values (nested.list_rows vs)) - 1 ≡ length vs = omega (arith, length-offset_values (nested.list_rows vs), length-map vs items_or_empty) in
      λ i. own i ∷ extents-plain_of t (nested.elements vs) i
  extents-plain_of (types.fixed_size_list t size n) vs = ap (λ inside. length vs ∷ inside) (extents-plain_of t (nested.fixed_elements t size vs))

  all_extents-plain : (fs : PlainFields) (rs : List PlainValues) → all_extents (plain_fields fs rs) ≡ field_counts fs rs
  all_extents-plain types.none rs = refl
  all_extents-plain (types.more name t fs) rs = λ i. extents-plain_of t (map first_within rs) i ++ all_extents-plain fs (map rest_within rs) i
