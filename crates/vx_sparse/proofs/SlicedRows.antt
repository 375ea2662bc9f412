-- The slice of a sparse tree has the rows of the slice.
use Rattle.std.proofs.Common.{◌≡◌, ◌<◌, ◌≤◌, ◌+◌, ◌-◌, ◌^◌, ◌∙◌, ◌++◌, ℕ, zero, suc, pos, true, List, [], ◌∷◌, length, map, take, drop, refl, sym, ap, arith, Option, None, Some}
use Rattle.std.specs.Prelude.{replicate, ◌==◌, ◌&&◌, not, nat_le}
use Rattle.std.specs.List.{list_all, range_with_len}
use Rattle.std.proofs.lemmas.Bool.{and_from, and_parts, cond_both, cond-true, cond-false, eq-eqb, eqb-true, ne_eqb, le-leb, leb-true, ltb-true}
use Rattle.std.proofs.lemmas.List.{ext_get_or, get_or-take, get_or-drop, length-drop, length-replicate, take_more}
use Rattle.vx_base.specs.Masks.{rows_between, is_part}
use Rattle.vx_base.specs.PlainScalar.{PlainScalar, fits}
use Rattle.vx_base.specs.PlainType.{PlainType, is_integer, is_nullable}
use Rattle.vx_base.specs.PlainType as types
use Rattle.vx_base.specs.PlainValue.{PlainValue, null, int}
use Rattle.vx_model.specs.Column.{column, column_of}
use Rattle.vx_model.specs.Refusals.{patches_refusal}
use Rattle.vx_model.specs.Rows.{rows, row_at, index_of, patched, below}
use Rattle.vx_model.specs.Tree.{Tree, PlainPatches, patches, sparse, sparse_of, constant}
use Rattle.vx_model.specs.TreeType.{tree_type}
use Rattle.vx_model.specs.WellFormed.{WellFormed, WellFormedPatches, ascend}
use Rattle.vx_model.proofs.ChunkLemmas.{below-most, below-rises, below-before, below-behind}
use Rattle.vx_model.proofs.FrameOfReferenceLemmas.{row_passes}
use Rattle.vx_model.proofs.MadeLemmas.{rows_fit}
use Rattle.vx_model.proofs.PackedLemmas.{length-below, row_at-below}
use Rattle.vx_model.proofs.PatchLemmas.{ascend_parts, ascend-index, ascend-within}
use Rattle.vx_model.proofs.PlainLemmas.{rows-plain_of, type-plain_of}
use Rattle.vx_model.proofs.RowLemmas.{row_at-replicate}
use Rattle.vx_model.proofs.SparseCountLemmas.{ascend-few}
use Rattle.vx_model.proofs.SparseLemmas.{length-sparse_of, row_at-sparse_of, type-sparse_of, patched-none}
use Rattle.vx_rules.specs.Selections.{sliced}
use Rattle.vx_rules.proofs.FitLaws.{answers_are_columns}
use Rattle.vx_rules.proofs.SliceLaws.{length-between}
use Rattle.vx_sparse.specs.Slices.{cut_tree, patches_before, plain_part, sliced_tree}
use Rattle.vx_sparse.proofs.KernelTypes.{bits-most}
use Rattle.vx_sparse.proofs.PatchParts.{IsCut, patched-between, ascend-between}

-- ---- a part of a list

pub in_part : (len start end : ℕ) → start ≤ end → end ≤ len → is_part len start end ≡ true
in_part len start end o w = and_from _ _ (le-leb start end o) (le-leb end len w)

row_at-between : (vs : List PlainValue) (start end i : ℕ) → i < end - start → row_at (rows_between vs start end) i ≡ row_at vs (start + i)
row_at-between vs start end i l = get_or-take (end - start) (drop start vs) i null l ∙ get_or-drop start vs i null

-- none, and one more, as at the steps of a loop
pub part-none : (vs : List PlainValue) (start : ℕ) → rows_between vs start start ≡ []
part-none vs start = let none : start - start ≡ 0 = omega arith in ap (λ n. take n (drop start vs)) none

pub part-more : (vs : List PlainValue) (start i : ℕ) → start ≤ i → i < length vs → rows_between vs start (i + 1) ≡ rows_between vs start i ++ row_at vs i ∷ []
part-more vs start i first last =
    let long : i - start < length (drop start vs) = omega (arith, length-drop start vs) in
    let more : i + 1 - start ≡ i - start + 1 = omega arith in
    let place : start + (i - start) ≡ i = omega arith in
    ap (λ n. take n (drop start vs)) more ∙ take_more (drop start vs) (i - start) null long
    ∙ ap (λ v. rows_between vs start i ++ v ∷ []) (get_or-drop start vs (i - start) null ∙ ap (row_at vs) place)

pub ruleset part_steps = (part-none, part-more)

-- ---- the plain part of a tree

module _ (t : Tree) (w : WellFormed t) (start end : ℕ) where
  pub fit-part : list_all (fits (tree_type t)) (rows_between (rows t) start end) ≡ true
  fit-part = answers_are_columns.slice (column_of t) start end (rows_fit t w)

  pub rows-plain_part : rows (plain_part t start end) ≡ rows_between (rows t) start end
  rows-plain_part = rows-plain_of (tree_type t) (rows_between (rows t) start end) fit-part

  pub type-plain_part : tree_type (plain_part t start end) ≡ tree_type t
  type-plain_part = type-plain_of (tree_type t) (rows_between (rows t) start end)

-- ---- as many patches as rows are the rows

module _ (is vs : List PlainValue) (fill : PlainValue) (offset : ℕ) where
  all-from : (g : ℕ → PlainValue) (start n low : ℕ) (js ws : List PlainValue) → low ≡ offset + start → length js ≡ n → ascend low (low + n) js ≡ true → length js ≡ length ws
      → ((i : ℕ) → start ≤ i → g i ≡ patched js ws fill (offset + i)) → map g (range_with_len start n) ≡ ws
  all-from g start zero low [] [] here count e l same = refl
  all-from g start zero low [] (w ∷ ws) here count e l same = absurd (omega arith)
  all-from g start zero low (j ∷ js) ws here count e l same = absurd (omega arith)
  all-from g start (suc n) low [] ws here count e l same = absurd (omega arith)
  all-from g start (suc n) low (j ∷ js) [] here count e l same = absurd (omega arith)
  all-from g start (suc n) low (int (pos x) ∷ js) (w ∷ ws) here count e l same =
      let p = ascend_parts low (low + suc n) x js e in
      let few = ascend-few (x + 1) (low + suc n) js p.2 (omega arith) in
      let at : x ≡ low = omega arith in
      let bound : low + suc n ≡ low + 1 + n = omega arith in
      let rest : ascend (low + 1) (low + 1 + n) js ≡ true = sym (λ i. ascend (at i + 1) (bound i) js) ∙ p.2 in
      let first : g start ≡ w = same start (omega arith) ∙ cond-true _ _ _ (eq-eqb x (offset + start) (omega arith)) in
      let others = all-from g (start + 1) n (low + 1) js ws (omega arith) (omega arith) rest (omega arith)
      (λ i m. same i (omega arith) ∙ cond-false _ _ _ (ne_eqb x (offset + i) (λ r. omega arith))) in
      λ i. first i ∷ others i
  all-from g start (suc n) low (j ∷ js) (w ∷ ws) here count e l same = absurd cc

pub all-patched : (is vs : List PlainValue) (fill : PlainValue) (offset n : ℕ) → length is ≡ n → ascend offset (offset + n) is ≡ true → length is ≡ length vs
    → below (λ i. patched is vs fill (offset + i)) n ≡ vs
all-patched is vs fill offset n count e l = all-from is vs fill offset (λ i. patched is vs fill (offset + i)) 0 n offset is vs (omega arith) count e l (λ i m. refl)

-- ---- an index is below 2^64

index-below : (t : PlainType) (v : PlainValue) (m : ℕ) → is_integer t ≡ true → fits t v ≡ true → index_of v ≡ Some m → m < 2 ^ 64
index-below (types.primitive p n) (int (pos k)) m h f e = let same : k ≡ m = cc in omega (arith, bits-most p, ltb-true _ _ f)
index-below t v m h f e = absurd cc

-- ---- the slice

module _ (p : PlainPatches) (w : WellFormedPatches p) where
  rising : ascend p.offset (p.offset + p.array_len) (rows p.indices) ≡ true
  rising = w.2.ascending

  cut : (row : ℕ) → IsCut (rows p.indices) (p.offset + row) (patches_before p row)
  cut row = record {
    within = below-most p.offset (p.offset + p.array_len) (p.offset + row) (rows p.indices) rising;
    before = λ n l. below-before p.offset (p.offset + p.array_len) (p.offset + row) n (rows p.indices) rising l;
    behind = λ n l. below-behind p.offset (p.offset + p.array_len) (p.offset + row) n (rows p.indices) rising l;
  }

  pub before-order : (start end : ℕ) → start ≤ end → patches_before p start ≤ patches_before p end
  before-order start end l = below-rises p.offset (p.offset + p.array_len) (p.offset + start) (p.offset + end) (rows p.indices) rising (omega arith)

  pub before-most : (row : ℕ) → patches_before p row ≤ length (rows p.indices)
  before-most row = (cut row).within

  module _ (start end : ℕ) (order : start ≤ end) (within : end ≤ p.array_len) where
    part_indices : rows (plain_part p.indices (patches_before p start) (patches_before p end)) ≡ rows_between (rows p.indices) (patches_before p start) (patches_before p end)
    part_indices = rows-plain_part p.indices w.0 (patches_before p start) (patches_before p end)

    part_values : rows (plain_part p.values (patches_before p start) (patches_before p end)) ≡ rows_between (rows p.values) (patches_before p start) (patches_before p end)
    part_values = rows-plain_part p.values w.1 (patches_before p start) (patches_before p end)

    count : (vs : List PlainValue) → length (rows p.indices) ≡ length vs → length (rows_between vs (patches_before p start) (patches_before p end)) ≡ patches_before p end - patches_before p start
    count vs e =
        length-between vs (patches_before p start) (patches_before p end) (in_part (length vs) (patches_before p start) (patches_before p end) (before-order start end order) (let m = before-most end in omega arith))

    part_rising : ascend (p.offset + start) (p.offset + end) (rows_between (rows p.indices) (patches_before p start) (patches_before p end)) ≡ true
    part_rising =
        ascend-between (rows p.indices) p.offset (p.offset + p.array_len) (p.offset + start) (p.offset + end) (patches_before p start) (patches_before p end) rising (cut start) (cut end) (before-order start end order)

    same_bound : p.offset + end ≡ p.offset + start + (end - start)
    same_bound = omega arith

    -- the patches within are patches of the part
    pub cut-accepted : patches_refusal (patches (end - start) (p.offset + start) (plain_part p.indices (patches_before p start) (patches_before p end)) (plain_part p.values (patches_before p start) (patches_before p end))) ≡ None
    cut-accepted =
        let low = patches_before p start in
        let high = patches_before p end in
        let typed = type-plain_part p.indices w.0 low high in
        let integer : (is_integer (tree_type (plain_part p.indices low high)) && not (is_nullable (tree_type (plain_part p.indices low high)))) ≡ true =
        and_from _ _ (ap is_integer typed ∙ w.2.indices_type) (ap (λ t. not (is_nullable t)) typed ∙ ap not w.2.not_null) in
        let lengths : (length (rows (plain_part p.indices low high)) == length (rows (plain_part p.values low high))) ≡ true =
        eq-eqb _ _ (ap length part_indices ∙ count (rows p.indices) refl ∙ sym (count (rows p.values) w.2.lengths) ∙ ap length (sym part_values)) in
        let ascends : ascend (p.offset + start) (p.offset + start + (end - start)) (rows (plain_part p.indices low high)) ≡ true =
        (λ i. ascend (p.offset + start) (sym same_bound i) (part_indices i)) ∙ part_rising in
        rw (integer, lengths, ascends) refl

    -- where a patch is within, its index is at least the raised offset
    pub raised-below : patches_before p start < patches_before p end → p.offset + start < 2 ^ 64
    raised-below some = by (index_of (row_at (rows p.indices) (patches_before p start))) refl
      where
        there : patches_before p start < length (rows p.indices)
        there = let m = before-most end in omega arith

        first : row_at (rows_between (rows p.indices) (patches_before p start) (patches_before p end)) 0 ≡ row_at (rows p.indices) (patches_before p start)
        first =
            let same : patches_before p start + 0 ≡ patches_before p start = omega arith in
            row_at-between (rows p.indices) (patches_before p start) (patches_before p end) 0 (omega arith) ∙ ap (row_at (rows p.indices)) same

        by : (o : Option ℕ) → index_of (row_at (rows p.indices) (patches_before p start)) ≡ o → p.offset + start < 2 ^ 64
        by None e = absurd (ascend-index p.offset (p.offset + p.array_len) (rows p.indices) (patches_before p start) rising there e)
        by (Some m) e =
            let held = row_passes (fits (tree_type p.indices)) (rows p.indices) (patches_before p start) there (rows_fit p.indices w.0) in
            let least = ascend-within (p.offset + start) (p.offset + end) (rows_between (rows p.indices) (patches_before p start) (patches_before p end)) 0 m part_rising
            (let c = count (rows p.indices) refl in omega arith) (ap index_of first ∙ e) in
            let bound = index-below (tree_type p.indices) (row_at (rows p.indices) (patches_before p start)) m w.2.indices_type held e in
            omega (arith, least.0, bound)

    module _ (fill : PlainScalar) where
      slice_row : (i : ℕ) → i < end - start → row_at (rows_between (rows (sparse_of p fill)) start end) i ≡ patched (rows p.indices) (rows p.values) fill.value (p.offset + start + i)
      slice_row i l =
          let same : p.offset + (start + i) ≡ p.offset + start + i = omega arith in
          row_at-between (rows (sparse_of p fill)) start end i l ∙ row_at-sparse_of p fill (start + i) (omega arith) ∙ ap (patched (rows p.indices) (rows p.values) fill.value) same

      slice_length : length (rows_between (rows (sparse_of p fill)) start end) ≡ end - start
      slice_length =
          length-between (rows (sparse_of p fill)) start end (in_part (length (rows (sparse_of p fill))) start end order (let n = length-sparse_of p fill in omega arith))

      -- without a patch within
      slice-fill : patches_before p end - patches_before p start ≡ 0 → rows_between (rows (sparse_of p fill)) start end ≡ replicate (end - start) fill.value
      slice-fill none =
          let same : patches_before p end ≡ patches_before p start = let o = before-order start end order in omega arith in
          ext_get_or null _ (replicate (end - start) fill.value) (slice_length ∙ sym (length-replicate (end - start) fill.value)) (λ i l.
          let here : i < end - start = let n = slice_length in omega arith in
          slice_row i here
          ∙ patched-none (rows p.indices) (rows p.values) fill.value (p.offset + start + i) (patches_before p start) ((cut start).before (p.offset + start + i) (omega arith))
          (λ j m. (cut end).behind (p.offset + start + i) (omega arith) j (omega arith))
          ∙ sym (row_at-replicate (end - start) i fill.value here))

      part_of_patches : ℕ → PlainValue
      part_of_patches i =
          patched (rows_between (rows p.indices) (patches_before p start) (patches_before p end)) (rows_between (rows p.values) (patches_before p start) (patches_before p end)) fill.value (p.offset + start + i)

      -- by the patches within
      slice-patched : rows_between (rows (sparse_of p fill)) start end ≡ below part_of_patches (end - start)
      unfolding part_of_patches
      slice-patched =
          ext_get_or null _ (below part_of_patches (end - start)) (slice_length ∙ sym (length-below part_of_patches (end - start))) (λ i l.
          let here : i < end - start = let n = slice_length in omega arith in
          slice_row i here
          ∙ sym (patched-between (rows p.indices) (rows p.values) fill.value (p.offset + start) (p.offset + end) (patches_before p start) (patches_before p end) (cut start) (cut end) (p.offset + start + i)
          (omega arith) (omega arith) (before-order start end order))
          ∙ sym (row_at-below part_of_patches (end - start) i here))

      slice-values : patches_before p end - patches_before p start ≡ end - start → rows_between (rows (sparse_of p fill)) start end ≡ rows_between (rows p.values) (patches_before p start) (patches_before p end)
      unfolding part_of_patches
      slice-values all =
          slice-patched ∙ all-patched (rows_between (rows p.indices) (patches_before p start) (patches_before p end)) (rows_between (rows p.values) (patches_before p start) (patches_before p end)) fill.value (p.offset + start) (end - start)
          (count (rows p.indices) refl ∙ all) ((λ i. ascend (p.offset + start) (sym same_bound i) (rows_between (rows p.indices) (patches_before p start) (patches_before p end))) ∙ part_rising)
          (count (rows p.indices) refl ∙ sym (count (rows p.values) w.2.lengths))

      pub column_of-sliced_tree : tree_type p.values ≡ fill.dtype → column_of (sliced_tree p fill start end) ≡ sliced (column_of (sparse_of p fill)) start end
      unfolding part_of_patches
      column_of-sliced_tree typed =
          let low = patches_before p start in
          let high = patches_before p end in
          let I = plain_part p.indices low high in
          let V = plain_part p.values low high in
          let kind = sym (type-sparse_of p fill) in
          cond_both (high - low == 0) (constant fill (end - start)) _ (λ t. column_of t ≡ sliced (column_of (sparse_of p fill)) start end)
          (λ e. λ i. column (kind i) (sym (slice-fill (eqb-true _ _ e)) i))
          (λ e. cond_both (high - low == end - start) V (sparse (end - start) (p.offset + start) I V fill) (λ t. column_of t ≡ sliced (column_of (sparse_of p fill)) start end)
          (λ f. λ i. column ((type-plain_part p.values w.1 low high ∙ typed ∙ kind) i) ((part_values ∙ sym (slice-values (eqb-true _ _ f))) i))
          (λ f. λ i. column (kind i) (((λ j. below (λ k. patched (part_indices j) (part_values j) fill.value (p.offset + start + k)) (end - start)) ∙ sym slice-patched) i)))

-- ---- the three forms of a slice

pub part-order : (len start end : ℕ) → is_part len start end ≡ true → (start ≤ end) × (end ≤ len)
part-order len start end h = let b = and_parts (nat_le start end) (nat_le end len) h in (leb-true _ _ b.0, leb-true _ _ b.1)

module _ (p : PlainPatches) (fill : PlainScalar) (start end : ℕ) where
  pub sliced-fill : patches_before p end ≤ patches_before p start → sliced_tree p fill start end ≡ constant fill (end - start)
  sliced-fill l = cond-true _ _ _ (eq-eqb (patches_before p end - patches_before p start) 0 (omega arith))

  pub sliced-values : patches_before p start < patches_before p end → patches_before p end - patches_before p start ≡ end - start
      → sliced_tree p fill start end ≡ plain_part p.values (patches_before p start) (patches_before p end)
  sliced-values l e = cond-false _ _ _ (ne_eqb (patches_before p end - patches_before p start) 0 (λ r. omega arith)) ∙ cond-true _ _ _ (eq-eqb _ _ e)

  pub sliced-cut : patches_before p start < patches_before p end → (patches_before p end - patches_before p start ≡ end - start → ⊥)
      → sliced_tree p fill start end ≡ cut_tree p fill start end (patches_before p start) (patches_before p end)
  sliced-cut l n = cond-false _ _ _ (ne_eqb (patches_before p end - patches_before p start) 0 (λ r. omega arith)) ∙ cond-false _ _ _ (ne_eqb _ _ n)
