-- A sum over the rows of a sparse column: over its patches, and the fill's part once for each row without a patch.
use Rattle.std.proofs.Common.{◌≡◌, ◌∙◌, ◌+◌, ◌*◌, ◌++◌, ℕ, Bool, true, false, cond, List, ◌∷◌, sym, ap, arith}
use Rattle.std.specs.Prelude.{replicate, count_by, sum_by}
use Rattle.std.proofs.lemmas.List.Folds.{sum_by-replicate}
use Rattle.std.proofs.lemmas.List.Sums.{sum_by-cons, sum_by-append}
use Rattle.vx_base.specs.PlainScalar.{PlainScalar}
use Rattle.vx_base.specs.PlainValue.{PlainValue, is_null}
use Rattle.vx_model.specs.Column.{column_of}
use Rattle.vx_model.specs.Rows.{rows}
use Rattle.vx_model.specs.Tree.{PlainPatches, sparse_of}
use Rattle.vx_model.specs.WellFormed.{WellFormedPatches}
use Rattle.vx_rules.specs.Aggregates.{null_count}
use Rattle.vx_sparse.specs.Kernels.{unpatched}
use Rattle.vx_sparse.proofs.Weighs.{rows-weighed, few_patches}

module _ (part : PlainValue → ℕ) where
  sum-next : (v : PlainValue) (vs ws : List PlainValue) → sum_by part vs ≡ sum_by part ws → sum_by part (v ∷ vs) ≡ sum_by part (v ∷ ws)
  sum-next v vs ws e = sum_by-cons part v vs ∙ ap (λ k. part v + k) e ∙ sym (sum_by-cons part v ws)

  sum-later : (v : PlainValue) (vs ws : List PlainValue) → sum_by part (v ∷ vs ++ ws) ≡ sum_by part (vs ++ v ∷ ws)
  sum-later v vs ws =
      let a = sum_by-cons part v (vs ++ ws) in
      let b = sum_by-append part vs ws in
      let c = sum_by-append part vs (v ∷ ws) in
      let d = sum_by-cons part v ws in
      omega arith

  pub sum_by-sparse : (p : PlainPatches) (fill : PlainScalar) → WellFormedPatches p → sum_by part (rows (sparse_of p fill)) ≡ sum_by part (rows p.values) + unpatched p * part fill.value
  sum_by-sparse p fill w =
      rows-weighed (sum_by part) sum-next sum-later p fill w ∙ sum_by-append part (rows p.values) (replicate (unpatched p) fill.value)
      ∙ ap (λ k. sum_by part (rows p.values) + k) (sum_by-replicate part (unpatched p) fill.value)

-- each row without a patch is null where the fill is
pub null_count-sparse : (p : PlainPatches) (fill : PlainScalar) → WellFormedPatches p
    → null_count (column_of (sparse_of p fill)) ≡ count_by is_null (rows p.values) + cond (is_null fill.value) (unpatched p) 0
null_count-sparse p fill w = sum_by-sparse (λ v. cond (is_null v) 1 0) p fill w ∙ ap (λ k. count_by is_null (rows p.values) + k) (by (is_null fill.value))
  where
    by : (b : Bool) → unpatched p * cond b 1 0 ≡ cond b (unpatched p) 0
    by true = omega arith
    by false = omega arith

pub ruleset null_counts = (null_count-sparse, few_patches)
