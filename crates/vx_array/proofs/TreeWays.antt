-- The extents of each tree, by the ways within it.
use Rattle.std.proofs.Common.{◌≡◌, ◌<◌, ◌+◌, ◌-◌, ◌*◌, ◌^◌, ◌++◌, ◌∙◌, ℕ, zero, suc, List, [], ◌∷◌, length, map, drop, get_or, min, slice_get, Bool, true, Some, None, refl, sym, ap, arith}
use Rattle.std.specs.Prelude.{nat_le, ◌&&◌, pos, ◌+ℤ◌, ◌*ℤ◌}
use Rattle.std.specs.List.{list_all}
use Rattle.std.proofs.lemmas.Bool.{and_parts}
use Rattle.std.proofs.lemmas.Bool.Decides.{nat_tests}
use Rattle.std.proofs.lemmas.List.{drop_more}
use Rattle.std.proofs.lemmas.List.Folds.{list_all-append}
use Rattle.vx_base.specs.declared.dtype.DType.{DType}
use Rattle.vx_base.specs.PlainScalar.{PlainScalar}
use Rattle.vx_base.specs.PlainType.{PlainType, is_flat, is_integer, integer_of, of_fields}
use Rattle.vx_base.specs.PlainType as types
use Rattle.vx_base.specs.PlainValue.{int}
use Rattle.vx_base.specs.TypeOf.{type_of, field_of}
use Rattle.vx_model.specs.Extents.{both, extents, repeated, all_extents, extents_fit, row_limit}
use Rattle.vx_model.specs.Rows.{rows, offset_at, looked_up, rle_place, summed_up}
use Rattle.vx_model.specs.Tree.{Tree, Trees, patches, bool, var_bin_view, var_bin, constant, masked, bit_packed, bit_packed_with, frame_of_reference, zig_zag, dict, nulls, structure, list, fixed_size_list, list_of, sparse, run_end, rle, sequence, delta, datetime_parts, bit_packed_v2, bit_packed_v2_with, frame_of_reference_v2, sparse_chunked}
use Rattle.vx_model.specs.Tree as trees
use Rattle.vx_model.specs.TreeType.{tree_type, field_types}
use Rattle.vx_model.specs.WellFormed.{WellFormed, AllWellFormed}
use Rattle.vx_model.proofs.BlocksLemmas.{length-blocks_of}
use Rattle.vx_model.proofs.BoolLemmas.{length-bool}
use Rattle.vx_model.proofs.DateTimePartsLemmas.{length-datetime_parts}
use Rattle.vx_model.proofs.DictLemmas.{length-dict}
use Rattle.vx_model.proofs.FlatTypeLemmas.{integer-flat, bytes-flat}
use Rattle.vx_model.proofs.FrameOfReferenceV2Lemmas.{length-frame_of_reference_v2}
use Rattle.vx_model.proofs.NullsLemmas.{length-nulls}
use Rattle.vx_model.proofs.PackedLemmas.{length-below, length-valid_below, length-bit_packed, length-bit_packed_with, length-frame_of_reference}
use Rattle.vx_model.proofs.RowLemmas.{length-primitive, length-masked}
use Rattle.vx_model.proofs.RunEndLemmas.{length-run_end}
use Rattle.vx_model.proofs.VarBinLemmas.{length-var_bin}
use Rattle.vx_model.proofs.ViewLemmas.{length-var_bin_view}
use Rattle.vx_model.proofs.ZigZagLemmas.{length-zig_zag}
use Rattle.vx_array.specs.TreeWays.{by_ways, by_fields, extent_at, extent_in}
use Rattle.vx_flat.specs.Ways.{PlainWay, here, field, inside, count_at}
use Rattle.vx_array.proofs.Flat.{dict_flat}
use Rattle.vx_array.proofs.TreeWayLemmas.{both-ways, repeated-ways, of_flat, of_other}

-- those of patches and a fill
patches-ways : (len : ℕ) (values : Tree) (fill : PlainScalar) → extents values ≡ by_ways (tree_type values) (λ w. extent_at w values) → tree_type values ≡ fill.dtype
    → both (extents values) (repeated (len - length (rows values)) fill) ≡ by_ways fill.dtype (λ w. extent_at w values + (len - length (rows values)) * count_at w fill.dtype (fill.value ∷ []))
patches-ways len values fill own typed =
    let k = len - length (rows values) in
    (λ i. both (own i) (repeated-ways k fill i)) ∙ ap (λ t. both (by_ways t (λ v. extent_at v values)) (by_ways fill.dtype (λ v. k * count_at v fill.dtype (fill.value ∷ [])))) typed
    ∙ both-ways fill.dtype (λ v. extent_at v values) (λ v. k * count_at v fill.dtype (fill.value ∷ []))

mutual
  pub extents-ways : (t : Tree) → WellFormed t → extents t ≡ by_ways (tree_type t) (λ w. extent_at w t)
  extents-ways (trees.primitive p xs valid n) w = of_flat (trees.primitive p xs valid n) (length xs) w refl (length-primitive p xs valid n w)
  extents-ways (bool bs valid n) w = of_flat (bool bs valid n) (length bs) w refl (length-bool bs valid n w)
  extents-ways (var_bin_view vs valid t) w = of_flat (var_bin_view vs valid t) (length vs) w (bytes-flat t w.0.byte_type) (length-var_bin_view vs valid t w)
  extents-ways (var_bin offsets bs valid t) w = of_flat (var_bin offsets bs valid t) (length (rows offsets) - 1) w (bytes-flat t w.1.values.byte_type) (length-var_bin offsets bs valid t w)
  extents-ways (trees.timestamp storage k) w = of_other (trees.timestamp storage k) storage w w.0 refl (ap is_flat w.1.storage_type) refl (extents-ways storage w.0)
  extents-ways (constant s len) w = repeated-ways len s
  extents-ways (masked child valid) w = of_other (masked child valid) child w w.0 w.1.flat w.1.flat (length-masked child valid w) (extents-ways child w.0)
  extents-ways (bit_packed k) w = of_flat (bit_packed k) k.len w refl (length-bit_packed k w)
  extents-ways (bit_packed_with k len offset indices values) w = of_flat (bit_packed_with k len offset indices values) k.len w refl (length-bit_packed_with k len offset indices values w)
  extents-ways (frame_of_reference encoded reference) w =
      of_other (frame_of_reference encoded reference) encoded w w.0 refl (ap is_flat w.1.encoded_type) (length-frame_of_reference encoded reference) (extents-ways encoded w.0)
  extents-ways (zig_zag encoded) w =
      of_other (zig_zag encoded) encoded w w.0 refl (integer-flat (tree_type encoded) (and_parts (is_integer (tree_type encoded)) _ w.1.unsigned).0) (length-zig_zag encoded) (extents-ways encoded w.0)
  extents-ways (dict codes values) w =
      of_other (dict codes values) codes w w.0 (dict_flat (tree_type codes) (tree_type values) w.2.values_type) (integer-flat (tree_type codes) w.2.codes_type) (length-dict codes values) (extents-ways codes w.0)
  extents-ways (nulls len) w = ap (λ k. k ∷ []) (sym (length-nulls len))
  extents-ways (structure names fields len valid n) w = ap (λ rest. len ∷ rest) (fields-ways names fields w.1.named w.0)
  extents-ways (list elements offsets valid n) w = ap (λ rest. (length (rows offsets) - 1) ∷ rest) (extents-ways elements w.0)
  extents-ways (fixed_size_list elements size len valid n) w = ap (λ rest. len ∷ rest) (extents-ways elements w.0)
  extents-ways (sparse len offset indices values fill) w =
      patches-ways len values fill (extents-ways values w.1) w.3.values_type
  extents-ways (run_end ends values) w = of_flat (run_end ends values) (offset_at (rows ends) (length (rows ends) - 1)) w (integer-flat (tree_type values) w.2.values_type) (length-run_end ends values)
  extents-ways (rle values indices offsets len) w = of_flat (rle values indices offsets len) len w (integer-flat (tree_type values) w.3.values_type) (length-below (λ i. looked_up (rows values) (rle_place (rows offsets) (rows indices) i)) len)
  extents-ways (datetime_parts k n days seconds subseconds) w =
      of_other (datetime_parts k n days seconds subseconds) days w w.0 refl (ap is_flat w.3.days_type) (length-datetime_parts k n days seconds subseconds) (extents-ways days w.0)
  extents-ways (bit_packed_v2 k offsets) w = of_flat (bit_packed_v2 k offsets) k.len w refl (length-blocks_of k offsets None w)
  extents-ways (bit_packed_v2_with k offsets len offset indices values) w = of_flat (bit_packed_v2_with k offsets len offset indices values) k.len w refl (length-blocks_of k offsets (Some (patches len offset indices values)) w)
  extents-ways (frame_of_reference_v2 encoded references) w =
      of_other (frame_of_reference_v2 encoded references) encoded w w.0 refl (ap is_flat w.2.encoded_type) (length-frame_of_reference_v2 encoded references) (extents-ways encoded w.0)
  extents-ways (sparse_chunked len offset indices values chunks fill) w = patches-ways len values fill (extents-ways values w.1) w.5.values_type
  extents-ways (sequence p n first step len) w = of_flat (sequence p n first step len) len w refl (length-below (λ i. int (first +ℤ pos i *ℤ step)) len)
  extents-ways (delta bases deltas len valid n) w = of_flat (delta bases deltas len valid n) len w refl (length-valid_below valid (summed_up (integer_of (tree_type bases)) (rows bases) (rows deltas)) len n w.2.validity)

  fields-ways : (names : List (List ℕ)) (fields : Trees) → length names ≡ length (list_of fields) → AllWellFormed fields → all_extents fields ≡ by_fields (field_types names fields) (λ i w. extent_in i w fields)
  fields-ways [] trees.none e w = refl
  fields-ways (name ∷ names) trees.none e w = absurd (omega arith)
  fields-ways [] (trees.more t ts) e w = absurd (omega arith)
  fields-ways (name ∷ names) (trees.more t ts) e w = λ i. extents-ways t w.0 i ++ fields-ways names ts (omega arith) w.1 i

-- whether they are few
pub few-ways : (t : Tree) → WellFormed t → extents_fit t ≡ list_all (λ extent. nat_le extent row_limit) (by_ways (tree_type t) (λ w. extent_at w t))
few-ways t w = ap (list_all (λ extent. nat_le extent row_limit)) (extents-ways t w)

-- ---- the columns of a type, one after the other

-- those within the first
abbrev pub inner_ways : PlainType → (PlainWay → ℕ) → List ℕ
inner_ways (types.structure fs n) f = by_fields fs (λ i w. f (field i w))
inner_ways (types.list t n) f = by_ways t (λ w. f (inside w))
inner_ways (types.fixed_size_list t size n) f = by_ways t (λ w. f (inside w))
inner_ways _ f = []

abbrev pub few : ℕ → Bool
few extent = nat_le extent row_limit

pub ways-inner : (t : PlainType) (f : PlainWay → ℕ) → list_all few (by_ways t f) ≡ (few (f here) && list_all few (inner_ways t f))
ways-inner types.null_type f = refl
ways-inner (types.boolean n) f = refl
ways-inner (types.primitive p n) f = refl
ways-inner (types.utf8 n) f = refl
ways-inner (types.binary n) f = refl
ways-inner (types.timestamp k n) f = refl
ways-inner (types.structure fs n) f = refl
ways-inner (types.list t n) f = refl
ways-inner (types.fixed_size_list t size n) f = refl

-- those of lists are few where those of the items are
pub items-few : (t s u : PlainType) (f : PlainWay → ℕ) → t ≡ s → inner_ways s f ≡ by_ways u (λ w. f (inside w)) → few (f here) ≡ true → list_all few (by_ways t f) ≡ list_all few (by_ways u (λ w. f (inside w)))
items-few t s u f typed within own = ap (λ t. list_all few (by_ways t f)) typed ∙ ways-inner s f ∙ ap (λ b. b && list_all few (inner_ways s f)) own ∙ ap (list_all few) within

-- an extent that is cut off is within the limit where it itself is
pub few-least : (k : ℕ) → few (min k (2 ^ 64 - 1)) ≡ few k
few-least k = grind (arith, nat_tests)

-- the field at a place, and those behind
pub fields-next : (g : ℕ → PlainWay → ℕ) (fs : List (List ℕ × DType)) (i : ℕ) (f : List ℕ × DType) → i < length fs → f ≡ get_or fs i f
    → list_all few (by_fields (of_fields (map field_of (drop i fs))) (λ k. g (i + k))) ≡ (list_all few (by_ways (type_of f.1) (g i)) && list_all few (by_fields (of_fields (map field_of (drop (i + 1) fs))) (λ k. g (i + 1 + k))))
fields-next g fs i f l e =
    let next = drop_more fs i f l ∙ ap (λ h. h ∷ drop (i + 1) fs) (sym e) in
    let here : i + 0 ≡ i = omega arith in
    let rest = of_fields (map field_of (drop (i + 1) fs)) in
    ap (λ gs. list_all few (by_fields (of_fields (map field_of gs)) (λ k. g (i + k)))) next
    ∙ list_all-append few (by_ways (type_of f.1) (g (i + 0))) (by_fields rest (λ k. g (i + suc k)))
    ∙ (λ j. list_all few (by_ways (type_of f.1) (g (here j))) && list_all few (by_fields rest (λ k. g (later k j))))
  where
    later : (k : ℕ) → i + suc k ≡ i + 1 + k
    later k = omega arith

-- the field that a list of trees has at a place
pub extent-some : (ts : List Tree) (i : ℕ) (w : PlainWay) (t : Tree) → slice_get ts i ≡ Some t → extent_in i w (trees.of_list ts) ≡ extent_at w t
extent-some [] i w t e = absurd cc
extent-some (s ∷ ts) zero w t e = let same : s ≡ t = cc in ap (extent_at w) same
extent-some (s ∷ ts) (suc i) w t e = extent-some ts i w t e

pub extent-none : (ts : List Tree) (i : ℕ) (w : PlainWay) → slice_get ts i ≡ None → extent_in i w (trees.of_list ts) ≡ 0
extent-none [] i w e = refl
extent-none (s ∷ ts) zero w e = absurd cc
extent-none (s ∷ ts) (suc i) w e = extent-none ts i w e
