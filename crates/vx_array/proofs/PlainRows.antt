-- Plain trees by their rows: validity, the first valid row, rows that share one value, and the rows of ranges.
use Rattle.std.proofs.Common.{◌≡◌, ◌<◌, ◌+◌, ◌∙◌, ℕ, zero, suc, arith, ℤ, pos, Bool, true, false, cond, List, [], ◌∷◌, map, length, Some, None, option_map, refl, sym, ap}
use Rattle.std.specs.Prelude.{not, position, replicate, slice_index_or, nat_lt, IsTrue, IfSome}
use Rattle.std.specs.List.{list_all, list_any, position_or_len}
use Rattle.std.proofs.lemmas.List.Recursion.{is_position_or_len}
use Rattle.std.proofs.lemmas.Bool.{lt-ltb, le-ltb}
use Rattle.std.proofs.lemmas.List.{length-map, length-replicate}
use Rattle.vx_base.specs.declared.dtype.Nullability.{Nullability}
use Rattle.vx_base.specs.declared.ptype.PType.{PType}
use Rattle.vx_base.specs.declared.ptype.PType.TheVariants.{I64}
use Rattle.vx_base.specs.Gathered.{gathered, are_parts}
use Rattle.vx_base.specs.PlainScalar.{fits}
use Rattle.vx_base.specs.PlainType.{PlainType, nullability_of, is_flat, is_bytes, stored_type}
use Rattle.vx_base.specs.Storable.{same_refl}
use Rattle.vx_base.specs.PlainType as types
use Rattle.vx_base.specs.PlainValue.{PlainValue, null, truth, int, bytes, is_null, truth_or_false, whole_or_zero, bytes_or_empty}
use Rattle.vx_base.specs.Timestamps.{PlainTimestamp}
use Rattle.vx_model.specs.Column.{column}
use Rattle.vx_model.specs.Plain.{IsPlain, plain, plain_of, validity, valid_bits}
use Rattle.vx_model.specs.Refusals.{kept, primitive_refusal, var_bin_view_refusal, timestamp_refusal}
use Rattle.vx_model.specs.Rows.{rows, row_at, is_valid_at}
use Rattle.vx_model.specs.Tree.{Tree, Validity, nulls, bool, primitive, var_bin_view, timestamp}
use Rattle.vx_model.specs.TreeType.{tree_type}
use Rattle.vx_model.specs.WellFormed.{WellFormed}
use Rattle.vx_model.proofs.BoolLemmas.{validity-bool, length-bool, row_at-bool}
use Rattle.vx_model.proofs.DecodeLemmas.{items_admitted, kept-validity, validity-cells}
use Rattle.vx_model.proofs.FixedSizeListLemmas.{validity-fixed_size_list}
use Rattle.vx_model.proofs.GatheredLemmas.{all-gathered, items-gathered, bits-gathered, bits_are_parts}
use Rattle.vx_model.proofs.ListLemmas.{validity-list}
use Rattle.vx_model.proofs.MadeLemmas.{rows_fit}
use Rattle.vx_model.proofs.NullLemmas.{plain-constant, plain-masked, plain-bit_packed, plain-bit_packed_with, plain-frame_of_reference, plain-zig_zag, plain-dict, plain-var_bin, plain-run_end, plain-rle, plain-sequence, plain-delta, plain-datetime_parts, plain-frame_of_reference_v2}
use Rattle.vx_model.proofs.RowLemmas.{length-primitive, row_at-primitive}
use Rattle.vx_model.proofs.StructLemmas.{validity-structure}
use Rattle.vx_model.proofs.TimestampLemmas.{plain-timestamp}
use Rattle.vx_model.proofs.ViewLemmas.{validity-var_bin_view, length-var_bin_view, row_at-var_bin_view, plain_of-bytes}
use Rattle.vx_array.specs.Kept.{keeps_validity}
use Rattle.vx_array.proofs.Canonicals.{views_admitted}
use Rattle.vx_array.proofs.SparseOf.{plain-sparse_of}

-- ---- validity

pub validity-primitive : (p : PType) (xs : List ℤ) (valid : Validity) (n : Nullability) → WellFormed (primitive p xs valid n) → validity (rows (primitive p xs valid n)) ≡ valid
validity-primitive p xs valid n h = validity-cells valid xs n h.0.validity

pub plain-storage : (storage : Tree) (k : PlainTimestamp) → WellFormed (timestamp storage k) → IsPlain (timestamp storage k) → IsPlain storage
plain-storage storage k h = (plain-timestamp storage k h).1

-- the storage of timestamps has whole numbers
pub storage-kept : (storage : Tree) (k : PlainTimestamp) → WellFormed (timestamp storage k) → keeps_validity (tree_type storage) ≡ true
storage-kept storage k h = ap keeps_validity h.1.storage_type

pub storage-flat : (storage : Tree) (k : PlainTimestamp) → WellFormed (timestamp storage k) → is_flat (tree_type storage) ≡ true
storage-flat storage k h = ap is_flat h.1.storage_type

pub flat_kept : (t : PlainType) → is_flat t ≡ true → keeps_validity t ≡ true
flat_kept types.null_type h = absurd cc
flat_kept t h = refl

-- a plain tree keeps its validity where its root is none of nulls
pub root-kept : (t : Tree) → IsPlain t → ((len : ℕ) → t ≡ nulls len → ⊥) → keeps_validity (tree_type t) ≡ true
root-kept t h other = by_type (tree_type t) h
  where
    by_type : (s : PlainType) → t ≡ plain_of s (rows t) → keeps_validity s ≡ true
    by_type types.null_type e = absurd (other (length (rows t)) e)
    by_type s e = refl

pub ruleset validities = (storage-kept, validity-structure, validity-list, validity-fixed_size_list, validity-bool, validity-primitive, validity-var_bin_view, plain-storage, plain-constant, plain-masked, plain-bit_packed, plain-bit_packed_with, plain-frame_of_reference, plain-zig_zag, plain-dict, plain-var_bin, plain-sparse_of, plain-run_end, plain-rle, plain-sequence, plain-delta, plain-datetime_parts, plain-frame_of_reference_v2)

-- ---- the first valid row

position_or_len-map : {A : Type 0} (f : A → Bool) (xs : List A) → position_or_len (λ b. b) (map f xs) ≡ position_or_len f xs
position_or_len-map f = is_position_or_len (λ xs. position_or_len (λ b. b) (map f xs)) f refl (λ x xs. step (f x) (map f xs))
  where
    step : (b : Bool) (bs : List Bool) → position_or_len (λ c. c) (b ∷ bs) ≡ cond b 0 (1 + position_or_len (λ c. c) bs)
    step true bs = refl
    step false bs = refl

-- the first true bit
pub position-valid_bits : (vs : List PlainValue) → position (λ bit. bit) (valid_bits vs) ≡ position (λ v. not (is_null v)) vs
position-valid_bits vs = λ i. let at = position_or_len-map (λ v. not (is_null v)) vs i in cond (nat_lt at (length-map vs (λ v. not (is_null v)) i)) (Some at) None

-- without nulls it is the first row, if there is one
pub position-no_null : (vs : List PlainValue) → list_any is_null vs ≡ false → position (λ v. not (is_null v)) vs ≡ cond (nat_lt 0 (length vs)) (Some 0) None
position-no_null [] e = refl
position-no_null (null ∷ vs) e = absurd cc
position-no_null (v ∷ vs) e = refl

place-nulls : (len : ℕ) → position_or_len (λ v. not (is_null v)) (replicate len null) ≡ len
place-nulls zero = refl
place-nulls (suc len) = let rest = place-nulls len in omega arith

-- where every row is null there is none
pub position-nulls : (len : ℕ) → position (λ v. not (is_null v)) (replicate len null) ≡ None
position-nulls len = (λ i. cond (nat_lt (place-nulls len i) (length-replicate len null i)) (Some (place-nulls len i)) None) ∙ ap (λ b. cond b (Some len) None) (le-ltb len len (omega arith))

module _ (vs : List PlainValue) (valid : Validity) (e : valid ≡ validity vs) where
  pub first-of_bits : (bits : List Bool) → Some bits ≡ valid → position (λ bit. bit) bits ≡ position (λ v. not (is_null v)) vs
  first-of_bits bits h = by_null (list_any is_null vs) (h ∙ e)
    where
      by_null : (b : Bool) → Some bits ≡ cond b (Some (valid_bits vs)) None → position (λ bit. bit) bits ≡ position (λ v. not (is_null v)) vs
      by_null true same = let own : bits ≡ valid_bits vs = cc in ap (position (λ bit. bit)) own ∙ position-valid_bits vs
      by_null false same = absurd cc

  pub no_null-of_none : None ≡ valid → list_any is_null vs ≡ false
  no_null-of_none h = by_null (list_any is_null vs) refl (h ∙ e)
    where
      by_null : (b : Bool) → list_any is_null vs ≡ b → None ≡ cond b (Some (valid_bits vs)) None → list_any is_null vs ≡ false
      by_null true is same = absurd cc
      by_null false is same = is

  pub first-of_none : None ≡ valid → 0 < length vs → Some 0 ≡ position (λ v. not (is_null v)) vs
  first-of_none h some = sym (position-no_null vs (no_null-of_none h) ∙ ap (λ b. cond b (Some 0) None) (lt-ltb 0 (length vs) some))

-- ---- the value of a row that isn't null

some_cell : (b : Bool) (v w : PlainValue) → w ≡ cond b v null → is_null w ≡ false → w ≡ v
some_cell true v w e h = e
some_cell false v w e h = let none : is_null w ≡ true = ap is_null e in absurd cc

pub value-bool : (bs : List Bool) (valid : Validity) (n : Nullability) (i : ℕ) → WellFormed (bool bs valid n) → i < length bs → is_null (row_at (rows (bool bs valid n)) i) ≡ false → row_at (rows (bool bs valid n)) i ≡ truth (slice_index_or bs i false)
value-bool bs valid n i w l = some_cell (is_valid_at valid i) (truth (slice_index_or bs i false)) _ (row_at-bool bs valid n w i l)

pub value-primitive : (p : PType) (xs : List ℤ) (valid : Validity) (n : Nullability) (i : ℕ) → WellFormed (primitive p xs valid n) → i < length xs → is_null (row_at (rows (primitive p xs valid n)) i) ≡ false
    → row_at (rows (primitive p xs valid n)) i ≡ int (slice_index_or xs i (pos 0))
value-primitive p xs valid n i w l = some_cell (is_valid_at valid i) (int (slice_index_or xs i (pos 0))) _ (row_at-primitive p xs valid n i w l)

pub value-view : (vs : List (List ℕ)) (valid : Validity) (t : PlainType) (i : ℕ) → WellFormed (var_bin_view vs valid t) → i < length vs → is_null (row_at (rows (var_bin_view vs valid t)) i) ≡ false
    → row_at (rows (var_bin_view vs valid t)) i ≡ bytes (slice_index_or vs i [])
value-view vs valid t i w l = some_cell (is_valid_at valid i) (bytes (slice_index_or vs i [])) _ (row_at-var_bin_view vs valid t w i l)

pub ruleset repeating = (storage-flat, length-bool, length-primitive, length-var_bin_view, value-bool, value-primitive, value-view, plain-storage, plain-constant, plain-masked, plain-bit_packed, plain-bit_packed_with, plain-frame_of_reference, plain-zig_zag, plain-dict, plain-var_bin, plain-sparse_of, plain-run_end, plain-rle, plain-sequence, plain-delta, plain-datetime_parts, plain-frame_of_reference_v2)

-- ---- the rows of ranges

-- items and validity of gathered rows are admitted, and no validity is dropped again
module _ (t : PlainType) (ranges : List (ℕ × ℕ)) (vs : List PlainValue) (fit : list_all (fits t) vs ≡ true) (valid : Validity) (e : valid ≡ kept (option_map (gathered ranges) (validity vs))) where
  own_bits : valid ≡ validity (gathered ranges vs)
  own_bits = e ∙ bits-gathered ranges vs (validity vs) refl

  gathered_fit : list_all (fits t) (gathered ranges vs) ≡ true
  gathered_fit = all-gathered (fits t) ranges vs fit

  pub flat_admitted : {A : Type 0} (item : PlainValue → A) (xs : List A) → xs ≡ map item (gathered ranges vs) → primitive_refusal (length xs) valid (nullability_of t) ≡ None
  flat_admitted item xs h = rw (h, own_bits) (items_admitted item t (gathered ranges vs) gathered_fit)

  pub view_admitted : (xs : List (List ℕ)) → is_bytes t ≡ true → xs ≡ map bytes_or_empty (gathered ranges vs) → var_bin_view_refusal xs valid t ≡ None
  view_admitted xs typed h = rw (h, own_bits) (views_admitted t typed (gathered ranges vs) gathered_fit)

  pub kept_bits : kept valid ≡ validity (gathered ranges vs)
  kept_bits = ap kept own_bits ∙ kept-validity (gathered ranges vs)

module _ (ranges : List (ℕ × ℕ)) (bs : List Bool) (valid : Validity) (n : Nullability) (p : IsPlain (bool bs valid n)) (w : WellFormed (bool bs valid n)) where
  bool_items : bs ≡ map truth_or_false (rows (bool bs valid n))
  bool_items = cc

  pub bool_parts : IsTrue (are_parts (length bs) ranges) → IfSome valid (λ bits. IsTrue (are_parts (length bits) ranges))
  bool_parts = bits_are_parts ranges valid (length bs) n w.0

  -- of the truth values and the validity of the ranges
  pub record IsBoolGathered (ys : List Bool) (bits : Validity) : Type 0 where
    pub admitted : primitive_refusal (length ys) bits n ≡ None
    pub made : bool ys (kept bits) n ≡ plain (column (types.boolean n) (gathered ranges (rows (bool bs valid n))))

  pub bool_gathered : (ys : List Bool) (bits : Validity) → ys ≡ gathered ranges bs → bits ≡ kept (option_map (gathered ranges) valid) → IsBoolGathered ys bits
  bool_gathered ys bits y b =
      let vs = rows (bool bs valid n) in
      let items = y ∙ items-gathered truth_or_false ranges vs bs bool_items in
      let own = b ∙ ap (λ v. kept (option_map (gathered ranges) v)) (sym (validity-bool bs valid n w)) in
      let fit = rows_fit (bool bs valid n) w in
      record {
        admitted = flat_admitted (types.boolean n) ranges vs fit bits own truth_or_false ys items;
        made = λ i. bool (items i) (kept_bits (types.boolean n) ranges vs fit bits own i) n;
      }

module _ (ranges : List (ℕ × ℕ)) (p : PType) (xs : List ℤ) (valid : Validity) (n : Nullability) (h : IsPlain (primitive p xs valid n)) (w : WellFormed (primitive p xs valid n)) where
  int_items : xs ≡ map whole_or_zero (rows (primitive p xs valid n))
  int_items = cc

  pub int_parts : IsTrue (are_parts (length xs) ranges) → IfSome valid (λ bits. IsTrue (are_parts (length bits) ranges))
  int_parts = bits_are_parts ranges valid (length xs) n w.0.validity

  -- the same of integers
  pub record AreIntsGathered (q : PType) (ys : List ℤ) (bits : Validity) : Type 0 where
    pub admitted : primitive_refusal (length ys) bits n ≡ None
    pub made : primitive q ys (kept bits) n ≡ plain (column (types.primitive p n) (gathered ranges (rows (primitive p xs valid n))))

  pub ints_gathered : (q : PType) (ys : List ℤ) (bits : Validity) → q ≡ p → ys ≡ gathered ranges xs → bits ≡ kept (option_map (gathered ranges) valid) → AreIntsGathered q ys bits
  ints_gathered q ys bits k y b =
      let vs = rows (primitive p xs valid n) in
      let items = y ∙ items-gathered whole_or_zero ranges vs xs int_items in
      let own = b ∙ ap (λ v. kept (option_map (gathered ranges) v)) (sym (validity-primitive p xs valid n w)) in
      let fit = rows_fit (primitive p xs valid n) w in
      record {
        admitted = flat_admitted (types.primitive p n) ranges vs fit bits own whole_or_zero ys items;
        made = λ i. primitive (k i) (items i) (kept_bits (types.primitive p n) ranges vs fit bits own i) n;
      }

module _ (ranges : List (ℕ × ℕ)) (vs : List (List ℕ)) (valid : Validity) (t : PlainType) (h : IsPlain (var_bin_view vs valid t)) (w : WellFormed (var_bin_view vs valid t)) where
  view_items : vs ≡ map bytes_or_empty (rows (var_bin_view vs valid t))
  view_items = let e : var_bin_view vs valid t ≡ var_bin_view (map bytes_or_empty (rows (var_bin_view vs valid t))) (validity (rows (var_bin_view vs valid t))) t = h ∙ plain_of-bytes t (rows (var_bin_view vs valid t)) w.0.byte_type in cc

  pub view_parts : IsTrue (are_parts (length vs) ranges) → IfSome valid (λ bits. IsTrue (are_parts (length bits) ranges))
  view_parts = bits_are_parts ranges valid (length vs) (nullability_of t) w.0.validity

  -- the same of texts and binaries
  pub record AreViewsGathered (ys : List (List ℕ)) (bits : Validity) (s : PlainType) : Type 0 where
    pub admitted : var_bin_view_refusal ys bits s ≡ None
    pub made : var_bin_view ys (kept bits) s ≡ plain (column t (gathered ranges (rows (var_bin_view vs valid t))))

  pub views_gathered : (ys : List (List ℕ)) (bits : Validity) (s : PlainType) → ys ≡ gathered ranges vs → bits ≡ kept (option_map (gathered ranges) valid) → s ≡ t → AreViewsGathered ys bits s
  views_gathered ys bits s y b typed =
      let rs = rows (var_bin_view vs valid t) in
      let items = y ∙ items-gathered bytes_or_empty ranges rs vs view_items in
      let own = b ∙ ap (λ v. kept (option_map (gathered ranges) v)) (sym (validity-var_bin_view vs valid t w)) in
      let fit = rows_fit (var_bin_view vs valid t) w in
      record {
        admitted = ap (var_bin_view_refusal ys bits) typed ∙ view_admitted t ranges rs fit bits own ys w.0.byte_type items;
        made = (λ i. var_bin_view (items i) (kept_bits t ranges rs fit bits own i) (typed i)) ∙ sym (plain_of-bytes t (gathered ranges rs) w.0.byte_type);
      }

-- the rows of ranges of plain timestamps, by those of their storage
pub stamps_gathered : (ranges : List (ℕ × ℕ)) (storage : Tree) (k : PlainTimestamp) (made : Tree) → WellFormed (timestamp storage k) → made ≡ plain (column (tree_type storage) (gathered ranges (rows storage)))
    → timestamp made k ≡ plain (column (tree_type (timestamp storage k)) (gathered ranges (rows (timestamp storage k))))
stamps_gathered ranges storage k made w e = ap (λ t. timestamp t k) (e ∙ ap (λ t. plain_of t (gathered ranges (rows storage))) w.1.storage_type)

pub stamps_admitted : (ranges : List (ℕ × ℕ)) (storage : Tree) (k : PlainTimestamp) (made : Tree) → WellFormed (timestamp storage k) → made ≡ plain (column (tree_type storage) (gathered ranges (rows storage))) → timestamp_refusal made ≡ None
stamps_admitted ranges storage k made w e =
    let n = nullability_of (tree_type storage) in
    let typed : tree_type made ≡ types.primitive I64 n = ap tree_type e ∙ ap (λ t. tree_type (plain_of t (gathered ranges (rows storage)))) w.1.storage_type in
    rw (same_refl stored_type (tree_type made) (types.primitive I64 (nullability_of (tree_type made))) (typed ∙ ap (λ t. types.primitive I64 (nullability_of t)) (sym typed))) refl

pub ruleset gathering = (storage-flat, length-bool, length-primitive, length-var_bin_view, plain-storage, stamps_gathered, stamps_admitted, plain-constant, plain-masked, plain-bit_packed, plain-bit_packed_with, plain-frame_of_reference, plain-zig_zag, plain-dict, plain-var_bin, plain-sparse_of, plain-run_end, plain-rle, plain-sequence, plain-delta, plain-datetime_parts, plain-frame_of_reference_v2)
