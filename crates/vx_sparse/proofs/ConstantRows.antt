-- Whether a sparse column is constant, by each value in its rows.
use Rattle.std.proofs.Common.{◌≡◌, ◌<◌, ◌∙◌, ◌++◌, Bool, true, false, List, [], ◌∷◌, length, refl, sym, ap, subst, arith}
use Rattle.std.specs.Prelude.{◌&&◌}
use Rattle.std.specs.List.{list_all}
use Rattle.std.proofs.lemmas.Bool.{and_parts, and_from, false≢true}
use Rattle.std.proofs.lemmas.List.{append-nil}
use Rattle.std.proofs.lemmas.List.Folds.{list_all-append}
use Rattle.vx_base.specs.PlainScalar.{PlainScalar}
use Rattle.vx_base.specs.PlainValue.{PlainValue, same_value, stored_value}
use Rattle.vx_base.specs.Storable.{same_refl, same_path}
use Rattle.vx_model.specs.Column.{column_of}
use Rattle.vx_model.specs.Rows.{rows, row_at}
use Rattle.vx_model.specs.Tree.{PlainPatches, sparse_of}
use Rattle.vx_model.specs.WellFormed.{WellFormedPatches}
use Rattle.vx_rules.specs.Aggregates.{all_equal, is_constant}
use Rattle.vx_sparse.specs.Kernels.{unpatched, row_values}
use Rattle.vx_rules.proofs.AlikeExtremes.{PassAlike}
use Rattle.vx_sparse.proofs.RowValues.{rows-alike, unless_none-none, unless_none-some}

-- two tests with one answer
pub alike : (a b : Bool) → (a ≡ true → b ≡ true) → (b ≡ true → a ≡ true) → a ≡ b
alike true b h k = sym (h refl)
alike false true h k = k refl
alike false false h k = refl

same_itself : (v : PlainValue) → same_value v v ≡ true
same_itself v = same_refl stored_value v v refl

-- all values equal to any value are equal to the first of them
first-equal : (u v : PlainValue) (vs : List PlainValue) → list_all (same_value u) (v ∷ vs) ≡ true → list_all (same_value v) vs ≡ true
first-equal u v vs h =
    let b = and_parts (same_value u v) (list_all (same_value u) vs) h in
    subst (λ w. list_all (same_value w) vs ≡ true) (same_path stored_value u v b.0) b.1

pub alike-equal : (vs ws : List PlainValue) → PassAlike vs ws → all_equal vs ≡ all_equal ws
alike-equal [] [] e = refl
alike-equal [] (w ∷ ws) e = absurd (false≢true (sym (e (λ _. false))))
alike-equal (v ∷ vs) [] e = absurd (false≢true (e (λ _. false)))
alike-equal (v ∷ vs) (w ∷ ws) e =
    alike (all_equal (v ∷ vs)) (all_equal (w ∷ ws)) (λ h. first-equal v w ws (sym (e (same_value v)) ∙ and_from _ _ (same_itself v) h))
    (λ h. first-equal w v vs (e (same_value w) ∙ and_from _ _ (same_itself w) h))

-- with one value more, behind
pub equal-last : (vs : List PlainValue) (fill : PlainValue) → all_equal (vs ++ fill ∷ []) ≡ list_all (same_value fill) vs
equal-last vs fill = equal-turned vs ∙ front vs
  where
    equal-turned : (ws : List PlainValue) → all_equal (ws ++ fill ∷ []) ≡ all_equal (fill ∷ ws)
    equal-turned ws = alike-equal (ws ++ fill ∷ []) (fill ∷ ws) (λ test. list_all-append test ws (fill ∷ []) ∙ turned (list_all test ws) (test fill))
      where
        turned : (a b : Bool) → (a && (b && true)) ≡ (b && a)
        turned true true = refl
        turned true false = refl
        turned false true = refl
        turned false false = refl

    front : (ws : List PlainValue) → all_equal (fill ∷ ws) ≡ list_all (same_value fill) ws
    front ws = refl

-- where a row has no patch, each patch is to equal the fill
pub constant-filled : (p : PlainPatches) (fill : PlainScalar) → 0 < unpatched p → all_equal (row_values p fill) ≡ list_all (same_value fill.value) (rows p.values)
constant-filled p fill l = ap (λ one. all_equal (rows p.values ++ one)) (unless_none-some (unpatched p) fill.value l) ∙ equal-last (rows p.values) fill.value

-- else they are to equal the first
pub constant-patched : (p : PlainPatches) (fill : PlainScalar) → unpatched p ≡ 0 → 0 < length (rows p.values)
    → all_equal (row_values p fill) ≡ list_all (same_value (row_at (rows p.values) 0)) (rows p.values)
constant-patched p fill e l =
    ap (λ one. all_equal (rows p.values ++ one)) (unless_none-none (unpatched p) fill.value e) ∙ ap all_equal (append-nil (rows p.values)) ∙ by (rows p.values) l
  where
    by : (vs : List PlainValue) → 0 < length vs → all_equal vs ≡ list_all (same_value (row_at vs 0)) vs
    by [] l = absurd (omega arith)
    by (v ∷ vs) l = sym (ap (λ b. b && list_all (same_value v) vs) (same_itself v))

-- no rows are not constant
pub constant-none : (p : PlainPatches) (fill : PlainScalar) → unpatched p ≡ 0 → length (rows p.values) ≡ 0 → all_equal (row_values p fill) ≡ false
constant-none p fill e n =
    ap (λ one. all_equal (rows p.values ++ one)) (unless_none-none (unpatched p) fill.value e) ∙ ap all_equal (append-nil (rows p.values)) ∙ by (rows p.values) n
  where
    by : (vs : List PlainValue) → length vs ≡ 0 → all_equal vs ≡ false
    by [] e = refl
    by (v ∷ vs) e = absurd (omega arith)

pub constant-sparse : (p : PlainPatches) (fill : PlainScalar) → WellFormedPatches p → is_constant (column_of (sparse_of p fill)) ≡ all_equal (row_values p fill)
constant-sparse p fill w = alike-equal _ (row_values p fill) (rows-alike p fill w)

pub ruleset constants = (constant-filled, constant-patched, constant-none, constant-sparse)
