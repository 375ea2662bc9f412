-- The extremes of values, one value after another.
use Rattle.std.proofs.Common.{◌≡◌, ◌<◌, ◌∙◌, ◌++◌, ◌+◌, ℕ, Bool, true, false, cond, List, [], ◌∷◌, length, take, refl, sym, ap, Option, Some, None}
use Rattle.std.specs.Prelude.{not, fold}
use Rattle.std.specs.Ordering.{ord_min, ord_max}
use Rattle.std.proofs.lemmas.List.{append-nil, take_more}
use Rattle.std.proofs.lemmas.List.Sums.{fold_push}
use Rattle.vx_base.specs.PlainScalar.{PlainScalar}
use Rattle.vx_base.specs.PlainValue.{PlainValue, null, is_null}
use Rattle.vx_model.specs.Rows.{rows, row_at}
use Rattle.vx_model.specs.Tree.{PlainPatches}
use Rattle.vx_rules.specs.Aggregates.{valid_values, least, greatest}
use Rattle.vx_rules.specs.ValueOrder.{value_cmp}
use Rattle.vx_sparse.specs.Kernels.{both, extremes, grown, row_values, unpatched, widened}
use Rattle.vx_sparse.proofs.RowValues.{unless_none-none, unless_none-some}

-- the pair that two folds end with
abbrev ends : PlainValue → PlainValue → List PlainValue → Option (PlainValue × PlainValue)
ends a b vs = Some (fold (ord_min value_cmp) a vs, fold (ord_max value_cmp) b vs)

fold-grown : (a b : PlainValue) (vs : List PlainValue) → fold widened (Some (a, b)) vs ≡ ends a b (valid_values vs)
fold-grown a b [] = refl
fold-grown a b (v ∷ vs) = by (is_null v) (fold-grown a b vs) (fold-grown (ord_min value_cmp a v) (ord_max value_cmp b v) vs)
  where
    by : (z : Bool) → fold widened (Some (a, b)) vs ≡ ends a b (valid_values vs) → fold widened (grown (Some (a, b)) v) vs ≡ ends (ord_min value_cmp a v) (ord_max value_cmp b v) (valid_values vs)
        → fold widened (cond z (Some (a, b)) (grown (Some (a, b)) v)) vs ≡ ends a b (cond (not z) (v ∷ valid_values vs) (valid_values vs))
    by true rest more = rest
    by false rest more = more

fold-widened : (vs : List PlainValue) → fold widened None vs ≡ extremes vs
fold-widened [] = refl
fold-widened (v ∷ vs) = by (is_null v) (fold-widened vs) (fold-grown v v vs)
  where
    by : (z : Bool) → fold widened None vs ≡ extremes vs → fold widened (grown None v) vs ≡ ends v v (valid_values vs)
        → fold widened (cond z None (grown None v)) vs ≡ both (least (cond (not z) (v ∷ valid_values vs) (valid_values vs))) (greatest (cond (not z) (v ∷ valid_values vs) (valid_values vs)))
    by true rest more = rest
    by false rest more = more

pub extremes-push : (vs : List PlainValue) (v : PlainValue) → extremes (vs ++ v ∷ []) ≡ widened (extremes vs) v
extremes-push vs v = sym (fold-widened (vs ++ v ∷ [])) ∙ fold_push widened None vs v ∙ ap (λ e. widened e v) (fold-widened vs)

-- with one row more, as at a step of a loop
pub extremes-more : (vs : List PlainValue) (i : ℕ) → i < length vs → extremes (take (i + 1) vs) ≡ widened (extremes (take i vs)) (row_at vs i)
extremes-more vs i l = ap extremes (take_more vs i null l) ∙ extremes-push (take i vs) (row_at vs i)

-- where a row has no patch, the fill is one value more
pub extremes-filled : (p : PlainPatches) (fill : PlainScalar) → 0 < unpatched p → extremes (row_values p fill) ≡ widened (extremes (rows p.values)) fill.value
extremes-filled p fill l = ap (λ one. extremes (rows p.values ++ one)) (unless_none-some (unpatched p) fill.value l) ∙ extremes-push (rows p.values) fill.value

pub extremes-patched : (p : PlainPatches) (fill : PlainScalar) → unpatched p ≡ 0 → extremes (row_values p fill) ≡ extremes (rows p.values)
extremes-patched p fill e = ap (λ one. extremes (rows p.values ++ one)) (unless_none-none (unpatched p) fill.value e) ∙ ap extremes (append-nil (rows p.values))

pub ruleset extreme_steps = (extremes-more, extremes-filled, extremes-patched)
