-- A cast of a sparse tree: of its patch values, and of its fill where a row has no patch.
use Rattle.std.proofs.Common.{◌≡◌, ◌<◌, ◌∙◌, ◌+◌, Bool, true, false, refl, sym, ap, arith, None, Some}
use Rattle.std.specs.Prelude.{◌&&◌}
use Rattle.std.specs.List.{list_all}
use Rattle.std.proofs.lemmas.List.Folds.{list_all-append}
use Rattle.vx_base.specs.declared.error.VortexError.{VortexError}
use Rattle.vx_base.specs.declared.error.VortexError.TheVariants.{CastRefused, MismatchedTypes}
use Rattle.vx_base.specs.Answers.{unless}
use Rattle.vx_base.specs.Casts as scalars
use Rattle.vx_base.specs.Casts.{is_cast}
use Rattle.vx_base.specs.PlainScalar.{PlainScalar, fits, scalar}
use Rattle.vx_base.specs.PlainType.{PlainType}
use Rattle.vx_model.specs.Column.{column, column_of}
use Rattle.vx_model.specs.Rows.{rows, below, patched}
use Rattle.vx_model.specs.Tree.{Tree, PlainPatches, sparse, sparse_of}
use Rattle.vx_model.specs.TreeType.{tree_type}
use Rattle.vx_model.specs.WellFormed.{WellFormedPatches}
use Rattle.vx_model.proofs.PackedLemmas.{passed}
use Rattle.vx_model.proofs.SparseLemmas.{rows-sparse_of, type-sparse_of}
use Rattle.vx_rules.specs.Conversions.{cast_refusal, casted}
use Rattle.vx_sparse.specs.Kernels.{unless_none, unpatched}
use Rattle.vx_sparse.proofs.RowValues.{rows-alike, unless_none-some}
use Rattle.vx_sparse.proofs.SlicedRows.{all-patched}
use Rattle.vx_sparse.proofs.Weighs.{few_patches}

-- what a test of fewer values refuses
less : (cast all more : Bool) (e : VortexError) → unless cast MismatchedTypes (unless all CastRefused None) ≡ Some e → unless cast MismatchedTypes (unless (all && more) CastRefused None) ≡ Some e
less true true more e h = absurd cc
less true false more e h = h
less false all more e h = h

module _ (p : PlainPatches) (fill : PlainScalar) (t : PlainType) (w : WellFormedPatches p) (typed : tree_type p.values ≡ fill.dtype) where
  kind : tree_type (sparse_of p fill) ≡ tree_type p.values
  kind = type-sparse_of p fill ∙ sym typed

  -- all rows fit where the patch values do, and the fill where a row has no patch
  all-rows : list_all (fits t) (rows (sparse_of p fill)) ≡ (list_all (fits t) (rows p.values) && list_all (fits t) (unless_none (unpatched p) fill.value))
  all-rows = rows-alike p fill w (fits t) ∙ list_all-append (fits t) (rows p.values) (unless_none (unpatched p) fill.value)

  whole : cast_refusal (column_of (sparse_of p fill)) t ≡ unless (is_cast (tree_type p.values) t) MismatchedTypes (unless (list_all (fits t) (rows p.values) && list_all (fits t) (unless_none (unpatched p) fill.value)) CastRefused None)
  whole = λ i. unless (is_cast (kind i) t) MismatchedTypes (unless (all-rows i) CastRefused None)

  -- what is refused of the patch values is refused of the column
  pub values-refused : (e : VortexError) → cast_refusal (column_of p.values) t ≡ Some e → cast_refusal (column_of (sparse_of p fill)) t ≡ Some e
  values-refused e h = whole ∙ less (is_cast (tree_type p.values) t) (list_all (fits t) (rows p.values)) (list_all (fits t) (unless_none (unpatched p) fill.value)) e h

  -- where the patch values aren't refused, the column is as the fill is
  pub fill-refused : cast_refusal (column_of p.values) t ≡ None → 0 < unpatched p → scalars.cast_refusal fill.dtype t fill.value ≡ cast_refusal (column_of (sparse_of p fill)) t
  fill-refused none some =
      let all : list_all (fits t) (rows p.values) ≡ true = (passed _ _ _ (passed _ _ _ none).1).0 in
      let one : list_all (fits t) (unless_none (unpatched p) fill.value) ≡ fits t fill.value = ap (list_all (fits t)) (unless_none-some (unpatched p) fill.value some) ∙ alone (fits t fill.value) in
      sym (whole ∙ (λ i. unless (is_cast (typed i) t) MismatchedTypes (unless (all i && one i) CastRefused None)))
    where
      alone : (b : Bool) → (b && true) ≡ b
      alone true = refl
      alone false = refl

  -- with a patch in each row the column is that of the patch values
  pub column-patched : unpatched p ≡ 0 → column_of (sparse_of p fill) ≡ column_of p.values
  column-patched none =
      let few = few_patches p w in
      let lengths = w.2.lengths in
      let same = rows-sparse_of p fill ∙ all-patched (rows p.indices) (rows p.values) fill.value p.offset p.array_len (omega arith) w.2.ascending lengths in
      λ i. column (kind i) (same i)

  -- the cast values over the cast fill
  pub cast-sparse : (values : Tree) (other : PlainScalar) → column_of values ≡ casted (column_of p.values) t → other ≡ scalar t fill.value
      → column_of (sparse p.array_len p.offset p.indices values other) ≡ casted (column_of (sparse_of p fill)) t
  cast-sparse values other e o =
      let cast_values : rows values ≡ rows p.values = ap (λ c. c.values) e in
      let cast_fill : other.value ≡ fill.value = ap (λ s. s.value) o in
      let same : rows (sparse p.array_len p.offset p.indices values other) ≡ rows (sparse_of p fill) =
      (λ i. below (λ k. patched (rows p.indices) (cast_values i) (cast_fill i) (p.offset + k)) p.array_len) ∙ sym (rows-sparse_of p fill) in
      λ i. column (o i).dtype (same i)
