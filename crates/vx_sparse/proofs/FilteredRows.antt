-- The filter of a sparse tree: the kept patches, each at the number of kept rows before it.
use Rattle.std.proofs.Common.{◌≡◌, ◌<◌, ◌≤◌, ◌+◌, ◌-◌, ◌∙◌, ℕ, suc, pos, Bool, true, false, cond, List, [], ◌∷◌, length, map, get_or, refl, sym, ap, subst, arith, Option, None, Some}
use Rattle.std.specs.Prelude.{◌&&◌, ◌==◌, not, replicate}
use Rattle.std.proofs.lemmas.Bool.{and_from, and_parts, eq-eqb, eqb-true}
use Rattle.std.proofs.lemmas.List.{ext_get_or, length-map, length-replicate}
use Rattle.vx_base.specs.declared.error.VortexError.TheVariants.{LengthMismatch}
use Rattle.vx_base.specs.Answers.{unless}
use Rattle.vx_base.specs.Masks.{rank, true_count}
use Rattle.vx_base.specs.PlainScalar.{PlainScalar}
use Rattle.vx_base.specs.PlainType.{is_integer, is_nullable}
use Rattle.vx_base.specs.PlainValue.{PlainValue, null, int}
use Rattle.vx_model.specs.Column.{column, column_of}
use Rattle.vx_model.specs.Refusals.{patches_refusal}
use Rattle.vx_model.specs.Rows.{rows, row_at, index_of, is_index, patched, below}
use Rattle.vx_model.specs.Tree.{Tree, PlainPatches, patches, sparse, sparse_of, constant}
use Rattle.vx_model.specs.TreeType.{tree_type}
use Rattle.vx_model.specs.WellFormed.{WellFormedPatches, ascend}
use Rattle.vx_model.proofs.PackedLemmas.{length-below, row_at-below}
use Rattle.vx_model.proofs.PatchLemmas.{ascend_parts, ascend_from, ascend-within, ascend-index}
use Rattle.vx_model.proofs.RowLemmas.{row_at-replicate}
use Rattle.vx_model.proofs.SparseLemmas.{length-sparse_of, row_at-sparse_of, type-sparse_of}
use Rattle.vx_rules.specs.Selections.{filtered, kept_items, mask_refusal}
use Rattle.vx_sparse.specs.Filters.{is_kept_index, kept_bits, kept_rank, kept_ranks}
use Rattle.vx_sparse.proofs.MaskRanks.{Selected, kept-below, kept-nothing, length-kept, rank-alone, rank-most, rank-next, rank-rises, selected}

-- ---- the kept patches

module _ (kept : PlainValue → Bool) (number : PlainValue → PlainValue) (fill : PlainValue) (j n : ℕ) where
  -- a patch is kept at j where its index is n
  patched-kept : (is vs : List PlainValue) → ((k : ℕ) → k < length is → (kept (row_at is k) && is_index (number (row_at is k)) j) ≡ is_index (row_at is k) n)
      → patched (kept_items (map kept is) (map number is)) (kept_items (map kept is) vs) fill j ≡ patched is vs fill n
  patched-kept [] vs h = refl
  patched-kept (i ∷ is) [] h = nothing (kept_items (map kept (i ∷ is)) (map number (i ∷ is)))
    where
      nothing : (js : List PlainValue) → patched js [] fill j ≡ fill
      nothing [] = refl
      nothing (x ∷ js) = refl
  patched-kept (i ∷ is) (v ∷ vs) h = by (patched-kept is vs (λ k l. h (suc k) (omega arith))) (kept i) (h 0 (omega arith))
    where
      by : patched (kept_items (map kept is) (map number is)) (kept_items (map kept is) vs) fill j ≡ patched is vs fill n → (b : Bool) → (b && is_index (number i) j) ≡ is_index i n
          → patched (kept_items (b ∷ map kept is) (number i ∷ map number is)) (kept_items (b ∷ map kept is) (v ∷ vs)) fill j ≡ cond (is_index i n) v (patched is vs fill n)
      by rest true e = λ t. cond (e t) v (rest t)
      by rest false e = rest ∙ ap (λ b. cond b v (patched is vs fill n)) e

-- two tests with one answer
same_test : (a b : Bool) → (a ≡ true → b ≡ true) → (b ≡ true → a ≡ true) → a ≡ b
same_test true b h k = sym (h refl)
same_test false true h k = k refl
same_test false false h k = refl

module _ (keep : List Bool) (offset : ℕ) where
  -- an index is that of a kept row where it is kept and has its rank
  kept-index : (j : ℕ) (s : Selected keep j) (v : PlainValue) (x : ℕ) → index_of v ≡ Some x → offset ≤ x
      → (is_kept_index keep offset v && is_index (int (pos (kept_rank keep offset v))) j) ≡ is_index v (offset + s.row)
  kept-index j s (int (pos x)) y e l =
      let same : x ≡ y = cc in
      same_test (get_or keep (x - offset) false && (rank keep (x - offset) == j)) (x == offset + s.row)
      (λ h.
      let b = and_parts (get_or keep (x - offset) false) (rank keep (x - offset) == j) h in
      let at = rank-alone keep (x - offset) s.row b.0 s.kept (eqb-true _ _ b.1 ∙ sym s.ranked) in
      eq-eqb x (offset + s.row) (omega arith))
      (λ h.
      let at : s.row ≡ x - offset = let e = eqb-true x (offset + s.row) h in omega arith in
      and_from _ _ (ap (λ r. get_or keep r false) (sym at) ∙ s.kept) (eq-eqb _ _ (ap (rank keep) (sym at) ∙ s.ranked)))
  kept-index j s v y e l = absurd cc

  -- the ranks of kept rows ascend
  lower : (a b high : ℕ) (is : List PlainValue) → a ≤ b → ascend b high is ≡ true → ascend a high is ≡ true
  lower a b high [] l e = refl
  lower a b high (int (pos x) ∷ is) l e = let p = ascend_parts b high x is e in ascend_from a high x is (omega arith) p.1 p.2
  lower a b high (v ∷ is) l e = absurd cc

  ascend-kept : (low : ℕ) (is : List PlainValue) → offset ≤ low → ascend low (offset + length keep) is ≡ true
      → ascend (rank keep (low - offset)) (true_count keep) (kept_items (kept_bits keep offset is) (kept_ranks keep offset is)) ≡ true
  ascend-kept low [] o e = refl
  ascend-kept low (int (pos x) ∷ is) o e =
      let p = ascend_parts low (offset + length keep) x is e in
      by p.0 p.1 (ascend-kept (x + 1) is (omega arith) p.2) (get_or keep (x - offset) false) refl
    where
      bits : List Bool
      bits = kept_bits keep offset is

      ranks : List PlainValue
      ranks = kept_ranks keep offset is

      by : low ≤ x → x < offset + length keep → ascend (rank keep (x + 1 - offset)) (true_count keep) (kept_items (kept_bits keep offset is) (kept_ranks keep offset is)) ≡ true → (b : Bool) → get_or keep (x - offset) false ≡ b
          → ascend (rank keep (low - offset)) (true_count keep) (kept_items (b ∷ kept_bits keep offset is) (int (pos (rank keep (x - offset))) ∷ kept_ranks keep offset is)) ≡ true
      by l m rest true h =
          let next = rank-next keep (x - offset) (omega arith) h in
          let past : x + 1 - offset ≡ x - offset + 1 = omega arith in
          let above = rank-rises keep (low - offset) (x - offset) (omega arith) in
          let most = rank-most keep (x - offset + 1) in
          ascend_from (rank keep (low - offset)) (true_count keep) (rank keep (x - offset)) _ above (omega arith)
          (subst (λ r. ascend r (true_count keep) (kept_items (kept_bits keep offset is) (kept_ranks keep offset is)) ≡ true) (ap (rank keep) past ∙ next) rest)
      by l m rest false h =
          lower (rank keep (low - offset)) (rank keep (x + 1 - offset)) (true_count keep) _ (rank-rises keep (low - offset) (x + 1 - offset) (omega arith)) rest
  ascend-kept low (v ∷ is) o e = absurd cc

-- ---- the filter of a sparse tree

module _ (p : PlainPatches) (fill : PlainScalar) (keep : List Bool) where
  pub mask-refused : (length keep == p.array_len) ≡ false → mask_refusal (column_of (sparse_of p fill)) keep ≡ Some LengthMismatch
  mask-refused h = ap (λ n. unless (length keep == n) LengthMismatch None) (length-sparse_of p fill) ∙ ap (λ b. unless b LengthMismatch None) h

  pub mask-accepted : (length keep == p.array_len) ≡ true → mask_refusal (column_of (sparse_of p fill)) keep ≡ None
  mask-accepted h = ap (λ n. unless (length keep == n) LengthMismatch None) (length-sparse_of p fill) ∙ ap (λ b. unless b LengthMismatch None) h

module _ (p : PlainPatches) (fill : PlainScalar) (keep : List Bool) (w : WellFormedPatches p) (bits : length keep ≡ p.array_len) where
  abbrev own : List Bool
  own = kept_bits keep p.offset (rows p.indices)

  rising : ascend p.offset (p.offset + length keep) (rows p.indices) ≡ true
  rising = ap (λ n. ascend p.offset (p.offset + n) (rows p.indices)) bits ∙ w.2.ascending

  each-index : (j k : ℕ) (s : Selected keep j) → k < length (rows p.indices)
      → (is_kept_index keep p.offset (row_at (rows p.indices) k) && is_index (int (pos (kept_rank keep p.offset (row_at (rows p.indices) k)))) j) ≡ is_index (row_at (rows p.indices) k) (p.offset + s.row)
  each-index j k s l = by (index_of (row_at (rows p.indices) k)) refl
    where
      by : (o : Option ℕ) → index_of (row_at (rows p.indices) k) ≡ o
          → (is_kept_index keep p.offset (row_at (rows p.indices) k) && is_index (int (pos (kept_rank keep p.offset (row_at (rows p.indices) k)))) j) ≡ is_index (row_at (rows p.indices) k) (p.offset + s.row)
      by None e = absurd (ascend-index p.offset (p.offset + length keep) (rows p.indices) k rising l e)
      by (Some x) e = let m = ascend-within p.offset (p.offset + length keep) (rows p.indices) k x rising l e in kept-index keep p.offset j s (row_at (rows p.indices) k) x e m.0

  -- a kept row, by the kept patches
  kept-row : (j : ℕ) → j < true_count keep
      → row_at (kept_items keep (rows (sparse_of p fill))) j ≡ patched (kept_items own (kept_ranks keep p.offset (rows p.indices))) (kept_items own (rows p.values)) fill.value j
  kept-row j l =
      let s = selected keep j l in
      let within = kept-below keep s.row s.kept in
      s.item (rows (sparse_of p fill)) ∙ row_at-sparse_of p fill s.row (omega arith)
      ∙ sym (patched-kept (is_kept_index keep p.offset) (λ v. int (pos (kept_rank keep p.offset v))) fill.value j (p.offset + s.row) (rows p.indices) (rows p.values) (λ k m. each-index j k s m))

  kept_length : length (kept_items keep (rows (sparse_of p fill))) ≡ true_count keep
  kept_length = length-kept keep (rows (sparse_of p fill)) (bits ∙ sym (length-sparse_of p fill))

  pub length-kept_bits : length own ≡ length (rows p.indices)
  length-kept_bits = length-map (rows p.indices) (is_kept_index keep p.offset)

  ranks_length : length (kept_ranks keep p.offset (rows p.indices)) ≡ length (rows p.indices)
  ranks_length = length-map (rows p.indices) (λ v. int (pos (kept_rank keep p.offset v)))

  -- without a kept patch
  pub filtered-fill : tree_type p.values ≡ fill.dtype → true_count own ≡ 0 → column_of (constant fill (true_count keep)) ≡ filtered (column_of (sparse_of p fill)) keep
  filtered-fill typed none =
      let same : replicate (true_count keep) fill.value ≡ kept_items keep (rows (sparse_of p fill)) =
      ext_get_or null _ _ (length-replicate (true_count keep) fill.value ∙ sym kept_length) (λ j l.
      let here : j < true_count keep = let n = length-replicate (true_count keep) fill.value in omega arith in
      row_at-replicate (true_count keep) j fill.value here
      ∙ (λ t. patched (sym (kept-nothing own (kept_ranks keep p.offset (rows p.indices)) (length-kept_bits ∙ sym ranks_length) none) t) (kept_items own (rows p.values)) fill.value j)
      ∙ sym (kept-row j here)) in
      λ i. column (sym (type-sparse_of p fill) i) (same i)

  module _ (indices values : Tree) (is : rows indices ≡ kept_items own (kept_ranks keep p.offset (rows p.indices))) (vs : rows values ≡ kept_items own (rows p.values)) where
    -- by the kept patches
    pub filtered-patches : column_of (sparse (true_count keep) 0 indices values fill) ≡ filtered (column_of (sparse_of p fill)) keep
    filtered-patches =
        let row_of : ℕ → PlainValue = λ j. patched (rows indices) (rows values) fill.value (0 + j) in
        let same : below (λ j. patched (rows indices) (rows values) fill.value (0 + j)) (true_count keep) ≡ kept_items keep (rows (sparse_of p fill)) =
        ext_get_or null _ _ (length-below row_of (true_count keep) ∙ sym kept_length) (λ j l.
        let here : j < true_count keep = let n = length-below row_of (true_count keep) in omega arith in
        let at : 0 + j ≡ j = omega arith in
        row_at-below row_of (true_count keep) j here ∙ (λ t. patched (is t) (vs t) fill.value (at t)) ∙ sym (kept-row j here)) in
        λ i. column (sym (type-sparse_of p fill) i) (same i)

    -- they are patches
    pub filtered-accepted : is_integer (tree_type indices) ≡ true → is_nullable (tree_type indices) ≡ false → patches_refusal (patches (true_count keep) 0 indices values) ≡ None
    filtered-accepted whole valid =
        let integer : (is_integer (tree_type indices) && not (is_nullable (tree_type indices))) ≡ true = and_from _ _ whole (ap not valid) in
        let count_is = ap length is ∙ length-kept own (kept_ranks keep p.offset (rows p.indices)) (length-kept_bits ∙ sym ranks_length) in
        let count_vs = ap length vs ∙ length-kept own (rows p.values) (length-kept_bits ∙ w.2.lengths) in
        let lengths : (length (rows indices) == length (rows values)) ≡ true = eq-eqb _ _ (count_is ∙ sym count_vs) in
        let none : p.offset - p.offset ≡ 0 = omega arith in
        let start : 0 ≡ rank keep (p.offset - p.offset) = ap (rank keep) (sym none) in
        let all : 0 + true_count keep ≡ true_count keep = omega arith in
        let ascends : ascend 0 (0 + true_count keep) (rows indices) ≡ true =
        (λ t. ascend (start t) (all t) (is t)) ∙ ascend-kept keep p.offset p.offset (rows p.indices) (omega arith) rising in
        rw (integer, lengths, ascends) refl
