-- A test of all rows of a sparse column is one of each value in them.
use Rattle.std.proofs.Common.{◌≡◌, ◌<◌, ◌∙◌, ◌++◌, ℕ, zero, suc, Bool, true, false, List, [], ◌∷◌, refl, sym, ap, arith}
use Rattle.std.specs.Prelude.{replicate, ◌&&◌}
use Rattle.std.specs.List.{list_all}
use Rattle.std.proofs.lemmas.Bool.{cond-true, cond-false, eq-eqb, ne_eqb}
use Rattle.std.proofs.lemmas.List.Folds.{list_all-append}
use Rattle.vx_base.specs.PlainScalar.{PlainScalar}
use Rattle.vx_base.specs.PlainValue.{PlainValue}
use Rattle.vx_model.specs.Rows.{rows}
use Rattle.vx_model.specs.Tree.{PlainPatches, sparse_of}
use Rattle.vx_model.specs.WellFormed.{WellFormedPatches}
use Rattle.vx_rules.proofs.AlikeExtremes.{PassAlike}
use Rattle.vx_sparse.specs.Kernels.{unpatched, unless_none, row_values}
use Rattle.vx_sparse.proofs.Weighs.{rows-weighed}

swap : (a b c : Bool) → (a && (b && c)) ≡ (b && (a && c))
swap true b c = refl
swap false true c = refl
swap false false c = refl

twice : (a b : Bool) → (a ≡ true → b ≡ true) → (a && b) ≡ (a && true)
twice true b h = h refl
twice false b h = refl

-- where there are rows for a value
pub unless_none-some : (n : ℕ) (v : PlainValue) → 0 < n → unless_none n v ≡ v ∷ []
unless_none-some n v l = cond-false _ _ _ (ne_eqb n 0 (λ e. absurd (omega arith)))

pub unless_none-none : (n : ℕ) (v : PlainValue) → n ≡ 0 → unless_none n v ≡ []
unless_none-none n v e = cond-true _ _ _ (eq-eqb n 0 e)

module _ (test : PlainValue → Bool) where
  all-next : (v : PlainValue) (vs ws : List PlainValue) → list_all test vs ≡ list_all test ws → list_all test (v ∷ vs) ≡ list_all test (v ∷ ws)
  all-next v vs ws e = ap (λ b. test v && b) e

  all-later : (v : PlainValue) (vs ws : List PlainValue) → list_all test (v ∷ vs ++ ws) ≡ list_all test (vs ++ v ∷ ws)
  all-later v vs ws =
      ap (λ b. test v && b) (list_all-append test vs ws) ∙ swap (test v) (list_all test vs) (list_all test ws) ∙ sym (list_all-append test vs (v ∷ ws))

  all-copies : (n : ℕ) (v : PlainValue) → test v ≡ true → list_all test (replicate n v) ≡ true
  all-copies zero v h = refl
  all-copies (suc n) v h = ap (λ b. b && list_all test (replicate n v)) h ∙ all-copies n v h

  all-once : (n : ℕ) (v : PlainValue) → list_all test (replicate n v) ≡ list_all test (unless_none n v)
  all-once zero v = refl
  all-once (suc n) v =
      twice (test v) (list_all test (replicate n v)) (all-copies n v) ∙ ap (list_all test) (sym (unless_none-some (suc n) v (omega arith)))

pub all-once_passes : (test : PlainValue → Bool) (n : ℕ) (v : PlainValue) → test v ≡ true → list_all test (unless_none n v) ≡ true
all-once_passes test n v h = sym (all-once test n v) ∙ all-copies test n v h

pub rows-alike : (p : PlainPatches) (fill : PlainScalar) → WellFormedPatches p → PassAlike (rows (sparse_of p fill)) (row_values p fill)
rows-alike p fill w test =
    rows-weighed (list_all test) (all-next test) (all-later test) p fill w
    ∙ list_all-append test (rows p.values) (replicate (unpatched p) fill.value)
    ∙ ap (λ b. list_all test (rows p.values) && b) (all-once test (unpatched p) fill.value)
    ∙ sym (list_all-append test (rows p.values) (unless_none (unpatched p) fill.value))
