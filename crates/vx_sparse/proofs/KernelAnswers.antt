-- What kernels answer of a sparse column, by its patches and its fill.
use Rattle.std.proofs.Common.{◌≡◌, ◌<◌, ◌∙◌, ℕ, pos, ◌-ℤ◌, true, false, length, map, refl, sym, ap, subst, Option, None, Some}
use Rattle.std.specs.Prelude.{◌+◌, ◌&&◌, ◌==◌, nat_lt, not, option_map, unwrap_or, replicate, IfSome}
use Rattle.std.specs.List.{list_all}
use Rattle.std.proofs.lemmas.Bool.{and_from, eq-eqb}
use Rattle.std.proofs.lemmas.List.{length-replicate}
use Rattle.std.proofs.lemmas.List.Folds.{list_all-append}
use Rattle.std.proofs.lemmas.List.Quantifiers.{position-Some}
use Rattle.vx_base.specs.declared.dtype.Nullability.TheVariants.{Nullable}
use Rattle.vx_base.specs.declared.error.VortexError.TheVariants.{MismatchedTypes, LengthMismatch, OutOfBounds}
use Rattle.vx_base.specs.Answers.{unless}
use Rattle.vx_base.specs.Masks.{is_part}
use Rattle.vx_base.specs.PlainScalar.{PlainScalar, scalar, fits}
use Rattle.vx_base.specs.PlainType.{PlainType, is_flat, is_integer, is_nullable, same_base}
use Rattle.vx_base.specs.PlainType as types
use Rattle.vx_base.specs.PlainValue.{PlainValue, null}
use Rattle.vx_base.specs.Undelta.{total}
use Rattle.vx_model.specs.Column.{column_of}
use Rattle.vx_model.specs.Refusals.{patches_refusal}
use Rattle.vx_model.specs.Rows.{rows, row_at, patched, is_index, place_of}
use Rattle.vx_model.specs.Tree.{Tree, PlainPatches, patches, chunked, sparse_of}
use Rattle.vx_model.specs.TreeType.{tree_type}
use Rattle.vx_model.specs.WellFormed.{WellFormedPatches, ascend}
use Rattle.vx_model.proofs.MadeLemmas.{rows_fit}
use Rattle.vx_model.proofs.PackedLemmas.{passed}
use Rattle.vx_model.proofs.SparseLemmas.{length-sparse_of, row_at-sparse_of, type-sparse_of}
use Rattle.vx_rules.specs.Aggregates.{least, greatest, min_max, min_max_refusal, sum, sum_ptype, sum_refusal, summand, or_null, valid_values}
use Rattle.vx_rules.specs.Aggregates as aggregates
use Rattle.vx_rules.specs.Comparisons.{compare_refusal}
use Rattle.vx_rules.specs.Operations.{repeated}
use Rattle.vx_rules.specs.Selections.{row_refusal, row_scalar, slice_refusal, sliced}
use Rattle.vx_sparse.specs.CellPairs.{FitPair, scalar_pair}
use Rattle.vx_sparse.specs.Kernels.{both, extremes, is_summable, patch_count, row_values, unless_none, unpatched}
use Rattle.vx_sparse.specs.Slices.{sliced_tree}
use Rattle.vx_sparse.proofs.ExtremeRows.{alike-extremes, extremes-fit}
use Rattle.vx_sparse.proofs.SlicedRows.{column_of-sliced_tree, part-order}
use Rattle.vx_sparse.proofs.RowValues.{rows-alike, all-once_passes}

module _ (p : PlainPatches) (fill : PlainScalar) where
  -- ---- sum

  pub sum-refused : is_summable fill.dtype ≡ false → sum_refusal (column_of (sparse_of p fill)) ≡ Some MismatchedTypes
  sum-refused h = ap (λ t. unless (is_summable t) MismatchedTypes None) (type-sparse_of p fill) ∙ ap (λ b. unless b MismatchedTypes None) h

  pub sum-accepted : is_summable fill.dtype ≡ true → sum_refusal (column_of (sparse_of p fill)) ≡ None
  sum-accepted h = ap (λ t. unless (is_summable t) MismatchedTypes None) (type-sparse_of p fill) ∙ ap (λ b. unless b MismatchedTypes None) h

  pub sum-is : (up down : ℕ) → total (map summand (rows (sparse_of p fill))) ≡ pos up -ℤ pos down
      → scalar (types.primitive (sum_ptype fill.dtype) Nullable) (or_null (sum_ptype fill.dtype) (pos up -ℤ pos down)) ≡ sum (column_of (sparse_of p fill))
  sum-is up down e =
      ap (λ t. scalar (types.primitive (sum_ptype t) Nullable) (or_null (sum_ptype t) (pos up -ℤ pos down))) (sym (type-sparse_of p fill))
      ∙ ap (λ z. scalar (types.primitive (sum_ptype (tree_type (sparse_of p fill))) Nullable) (or_null (sum_ptype (tree_type (sparse_of p fill))) z)) (sym e)

  -- ---- min_max

  pub extremes-refused : is_flat fill.dtype ≡ false → min_max_refusal (column_of (sparse_of p fill)) ≡ Some MismatchedTypes
  extremes-refused h = ap (λ t. unless (is_flat t) MismatchedTypes None) (type-sparse_of p fill) ∙ ap (λ b. unless b MismatchedTypes None) h

  pub extremes-accepted : is_flat fill.dtype ≡ true → min_max_refusal (column_of (sparse_of p fill)) ≡ None
  extremes-accepted h = ap (λ t. unless (is_flat t) MismatchedTypes None) (type-sparse_of p fill) ∙ ap (λ b. unless b MismatchedTypes None) h

  values-fit : WellFormedPatches p → tree_type p.values ≡ fill.dtype → fits fill.dtype fill.value ≡ true → list_all (fits fill.dtype) (row_values p fill) ≡ true
  values-fit w typed fit =
      list_all-append (fits fill.dtype) (rows p.values) (unless_none (unpatched p) fill.value)
      ∙ and_from _ _ (subst (λ t. list_all (fits t) (rows p.values) ≡ true) typed (rows_fit p.values w.1)) (all-once_passes (fits fill.dtype) (unpatched p) fill.value fit)

  pub extremes-are : WellFormedPatches p → tree_type p.values ≡ fill.dtype → fits fill.dtype fill.value ≡ true → is_flat fill.dtype ≡ true
      → scalar_pair fill.dtype (extremes (row_values p fill)) ≡ min_max (column_of (sparse_of p fill))
  extremes-are w typed fit flat =
      let alike = rows-alike p fill w in
      let inside = values-fit w typed fit in
      let same = alike-extremes fill.dtype flat (rows (sparse_of p fill)) (row_values p fill) (alike (fits fill.dtype) ∙ inside) inside alike in
      (λ i. scalar_pair (sym (type-sparse_of p fill) i) (sym same i))
      ∙ paired (tree_type (sparse_of p fill)) (least (valid_values (rows (sparse_of p fill)))) (greatest (valid_values (rows (sparse_of p fill))))
    where
      paired : (t : PlainType) (v w : Option PlainValue) → scalar_pair t (both v w) ≡ aggregates.scalar_pair t v w
      paired t None None = refl
      paired t None (Some w) = refl
      paired t (Some v) None = refl
      paired t (Some v) (Some w) = refl

  pub extremes-of_type : WellFormedPatches p → tree_type p.values ≡ fill.dtype → fits fill.dtype fill.value ≡ true → is_flat fill.dtype ≡ true → FitPair fill.dtype (extremes (row_values p fill))
  extremes-of_type w typed fit flat = extremes-fit fill.dtype flat (row_values p fill) (values-fit w typed fit)

  -- ---- scalar_at

  pub row-refused : (row : ℕ) → nat_lt row p.array_len ≡ false → row_refusal (column_of (sparse_of p fill)) row ≡ Some OutOfBounds
  row-refused row h = ap (λ n. unless (nat_lt row n) OutOfBounds None) (length-sparse_of p fill) ∙ ap (λ b. unless b OutOfBounds None) h

  pub row-accepted : (row : ℕ) → nat_lt row p.array_len ≡ true → row_refusal (column_of (sparse_of p fill)) row ≡ None
  row-accepted row h = ap (λ n. unless (nat_lt row n) OutOfBounds None) (length-sparse_of p fill) ∙ ap (λ b. unless b OutOfBounds None) h

  pub row-is : (row : ℕ) (place : Option ℕ) → row < p.array_len → unwrap_or (option_map (row_at (rows p.values)) place) fill.value ≡ patched (rows p.indices) (rows p.values) fill.value (p.offset + row)
      → scalar fill.dtype (unwrap_or (option_map (row_at (rows p.values)) place) fill.value) ≡ row_scalar (column_of (sparse_of p fill)) row
  row-is row place l e = λ i. scalar (sym (type-sparse_of p fill) i) ((e ∙ sym (row_at-sparse_of p fill row l)) i)

  -- ---- slice

  pub slice-refused : (start end : ℕ) → is_part p.array_len start end ≡ false → slice_refusal (column_of (sparse_of p fill)) start end ≡ Some OutOfBounds
  slice-refused start end h = ap (λ n. unless (is_part n start end) OutOfBounds None) (length-sparse_of p fill) ∙ ap (λ b. unless b OutOfBounds None) h

  pub slice-accepted : (start end : ℕ) → is_part p.array_len start end ≡ true → slice_refusal (column_of (sparse_of p fill)) start end ≡ None
  slice-accepted start end h = ap (λ n. unless (is_part n start end) OutOfBounds None) (length-sparse_of p fill) ∙ ap (λ b. unless b OutOfBounds None) h

  -- ---- compare

  pub compare-refused : (s : PlainScalar) → (is_flat fill.dtype && same_base fill.dtype s.dtype) ≡ false → compare_refusal (column_of (sparse_of p fill)) (repeated s (column_of (sparse_of p fill))) ≡ Some MismatchedTypes
  compare-refused s h =
      ap (λ t. unless (is_flat t && same_base t s.dtype) MismatchedTypes (unless (length (rows (sparse_of p fill)) == length (replicate (length (rows (sparse_of p fill))) s.value)) LengthMismatch None)) (type-sparse_of p fill)
      ∙ ap (λ b. unless b MismatchedTypes (unless (length (rows (sparse_of p fill)) == length (replicate (length (rows (sparse_of p fill))) s.value)) LengthMismatch None)) h

  pub compare-accepted : (s : PlainScalar) → (is_flat fill.dtype && same_base fill.dtype s.dtype) ≡ true → compare_refusal (column_of (sparse_of p fill)) (repeated s (column_of (sparse_of p fill))) ≡ None
  compare-accepted s h =
      let count = eq-eqb (length (rows (sparse_of p fill))) (length (replicate (length (rows (sparse_of p fill))) s.value)) (sym (length-replicate (length (rows (sparse_of p fill))) s.value)) in
      ap (λ t. unless (is_flat t && same_base t s.dtype) MismatchedTypes (unless (length (rows (sparse_of p fill)) == length (replicate (length (rows (sparse_of p fill))) s.value)) LengthMismatch None)) (type-sparse_of p fill)
      ∙ ap (λ b. unless b MismatchedTypes (unless (length (rows (sparse_of p fill)) == length (replicate (length (rows (sparse_of p fill))) s.value)) LengthMismatch None)) h
      ∙ ap (λ b. unless b LengthMismatch None) count

-- a place that the search finds is one of the patches
pub place-within : (p : PlainPatches) (n place : ℕ) → WellFormedPatches p → place_of (rows p.indices) n ≡ Some place → place < length (rows p.values)
place-within p n place w e = subst (λ k. place < k) w.2.lengths (position-Some (λ i. is_index i n) (rows p.indices) place null e).0

pub placed : (p : PlainPatches) (n : ℕ) (place : Option ℕ) → WellFormedPatches p → place ≡ place_of (rows p.indices) n → IfSome place (λ k. k < length (rows p.values))
placed p n None w e = tt
placed p n (Some k) w e = place-within p n k w (sym e)

-- ---- the number of patches

pub patch_count-sparse : (p : PlainPatches) (fill : PlainScalar) → patch_count (sparse_of p fill) ≡ length (rows p.indices)
patch_count-sparse p fill = by p.chunks
  where
    by : (o : Option Tree) → patch_count (sparse_of (chunked p.array_len p.offset p.indices p.values o) fill) ≡ length (rows p.indices)
    by None = refl
    by (Some chunks) = refl

-- the column of a slice that isn't refused
pub slice-column : (p : PlainPatches) (fill : PlainScalar) (start end : ℕ) → WellFormedPatches p → tree_type p.values ≡ fill.dtype → slice_refusal (column_of (sparse_of p fill)) start end ≡ None
    → column_of (sliced_tree p fill start end) ≡ sliced (column_of (sparse_of p fill)) start end
slice-column p fill start end w typed e =
    let part = ap (λ n. is_part n start end) (sym (length-sparse_of p fill)) ∙ (passed _ _ _ e).0 in
    let order = part-order p.array_len start end part in
    column_of-sliced_tree p w start end order.0 order.1 fill typed

-- other values at the same indices are patches too
pub values-accepted : (p : PlainPatches) (values : Tree) → WellFormedPatches p → length (rows values) ≡ length (rows p.values) → patches_refusal (patches p.array_len p.offset p.indices values) ≡ None
values-accepted p values w e =
    let integer : (is_integer (tree_type p.indices) && not (is_nullable (tree_type p.indices))) ≡ true = and_from _ _ w.2.indices_type (ap not w.2.not_null) in
    let lengths : (length (rows p.indices) == length (rows values)) ≡ true = eq-eqb _ _ (w.2.lengths ∙ sym e) in
    let ascends : ascend p.offset (p.offset + p.array_len) (rows p.indices) ≡ true = w.2.ascending in
    rw (integer, lengths, ascends) refl
