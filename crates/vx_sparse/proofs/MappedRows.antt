-- A function of the rows of a sparse tree is one of its patch values and its fill.
use Rattle.std.proofs.Common.{◌≡◌, ◌+◌, ◌∙◌, ℕ, zero, suc, Bool, true, false, cond, List, [], ◌∷◌, length, map, refl, sym, ap}
use Rattle.std.specs.Prelude.{replicate, zip}
use Rattle.std.specs.List.{list_all, range_with_len}
use Rattle.std.proofs.lemmas.Bool.{and_parts, and_from}
use Rattle.vx_base.specs.PlainScalar.{PlainScalar, fits}
use Rattle.vx_base.specs.PlainType.{PlainType}
use Rattle.vx_base.specs.PlainValue.{PlainValue}
use Rattle.vx_model.specs.Column.{column, column_of}
use Rattle.vx_model.specs.Rows.{rows, patched, below, is_index}
use Rattle.vx_model.specs.Tree.{Tree, PlainPatches, sparse, sparse_of}
use Rattle.vx_model.specs.TreeType.{tree_type}
use Rattle.vx_model.proofs.SparseLemmas.{rows-sparse_of, type-sparse_of}
use Rattle.vx_rules.specs.declared.options.CompareOperator.{CompareOperator}
use Rattle.vx_rules.specs.Comparisons.{compared, comparison, truths_of}
use Rattle.vx_rules.specs.Operations.{repeated}
use Rattle.vx_rules.proofs.FitLaws.{answers_are_columns}

-- ---- on patches

module _ (f : PlainValue → PlainValue) where
  pub map-patched : (is vs : List PlainValue) (fill : PlainValue) (n : ℕ) → f (patched is vs fill n) ≡ patched is (map f vs) (f fill) n
  map-patched [] vs fill n = refl
  map-patched (i ∷ is) [] fill n = refl
  map-patched (i ∷ is) (v ∷ vs) fill n = by (is_index i n) (map-patched is vs fill n)
    where
      by : (b : Bool) → f (patched is vs fill n) ≡ patched is (map f vs) (f fill) n → f (cond b v (patched is vs fill n)) ≡ cond b (f v) (patched is (map f vs) (f fill) n)
      by true e = refl
      by false e = e

  each : (g h : ℕ → PlainValue) → ((i : ℕ) → f (g i) ≡ h i) → (start n : ℕ) → map f (map g (range_with_len start n)) ≡ map h (range_with_len start n)
  each g h e start zero = refl
  each g h e start (suc n) = let rest = each g h e (start + 1) n in λ i. e start i ∷ rest i

  -- the sparse tree over the mapped patch values and the mapped fill has the mapped rows
  pub map-sparse : (p : PlainPatches) (fill : PlainScalar) (values : Tree) (other : PlainScalar) → rows values ≡ map f (rows p.values) → other.value ≡ f fill.value
      → rows (sparse p.array_len p.offset p.indices values other) ≡ map f (rows (sparse_of p fill))
  map-sparse p fill values other e own =
      (λ i. below (λ k. patched (rows p.indices) (e i) (own i) (p.offset + k)) p.array_len)
      ∙ sym (each (λ k. patched (rows p.indices) (rows p.values) fill.value (p.offset + k)) _ (λ k. map-patched (rows p.indices) (rows p.values) fill.value (p.offset + k)) 0 p.array_len)
      ∙ ap (map f) (sym (rows-sparse_of p fill))

-- ---- comparison with one value

pub zip-repeated : {A B : Type 0} (f : PlainValue × B → A) (vs : List PlainValue) (w : B) → map f (zip vs (replicate (length vs) w)) ≡ map (λ v. f (v, w)) vs
zip-repeated f [] w = refl
zip-repeated f (v ∷ vs) w = ap (λ rest. f (v, w) ∷ rest) (zip-repeated f vs w)

module _ (op : CompareOperator) (s : PlainScalar) where
  pub compared-rows : (vs : List PlainValue) → map (λ p. compared op p.0 p.1) (zip vs (replicate (length vs) s.value)) ≡ map (λ v. compared op v s.value) vs
  compared-rows vs = zip-repeated (λ p. compared op p.0 p.1) vs s.value

  -- each truth value, or null, is of the answer's type
  pub compared-fits : (t : PlainType) (v : PlainValue) → fits t v ≡ true → fits s.dtype s.value ≡ true → fits (truths_of t s.dtype) (compared op v s.value) ≡ true
  compared-fits t v h k =
      let all = answers_are_columns.compare op (column t (v ∷ [])) (column s.dtype (s.value ∷ [])) (and_from _ _ h refl) (and_from _ _ k refl) in
      (and_parts (fits (truths_of t s.dtype) (compared op v s.value)) true all).0

  pub all-compared : (t : PlainType) (vs : List PlainValue) → list_all (fits t) vs ≡ true → fits s.dtype s.value ≡ true → list_all (fits (truths_of t s.dtype)) (map (λ v. compared op v s.value) vs) ≡ true
  all-compared t [] h k = refl
  all-compared t (v ∷ vs) h k =
      let b = and_parts (fits t v) (list_all (fits t) vs) h in
      and_from _ _ (compared-fits t v b.0 k) (all-compared t vs b.1 k)

  -- of a sparse column, by its patch values and its fill
  pub comparison-sparse : (p : PlainPatches) (fill : PlainScalar) (values : Tree) (other : PlainScalar) → rows values ≡ map (λ v. compared op v s.value) (rows p.values)
      → other.dtype ≡ truths_of fill.dtype s.dtype → other.value ≡ compared op fill.value s.value
      → column_of (sparse p.array_len p.offset p.indices values other) ≡ comparison op (column_of (sparse_of p fill)) (repeated s (column_of (sparse_of p fill)))
  comparison-sparse p fill values other e kind own =
      let typed : other.dtype ≡ truths_of (tree_type (sparse_of p fill)) s.dtype = kind ∙ ap (λ t. truths_of t s.dtype) (sym (type-sparse_of p fill)) in
      let mapped = map-sparse (λ v. compared op v s.value) p fill values other e own ∙ sym (compared-rows (rows (sparse_of p fill))) in
      λ i. column (typed i) (mapped i)
