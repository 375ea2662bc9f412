-- The least and the greatest value of a sparse column, by each value in its rows.
use Rattle.std.proofs.Common.{◌≡◌, true, List, [], ◌∷◌, refl, ap}
use Rattle.std.specs.List.{list_all}
use Rattle.vx_base.specs.PlainScalar.{fits}
use Rattle.vx_base.specs.PlainType.{PlainType, is_flat}
use Rattle.vx_base.specs.PlainValue.{PlainValue}
use Rattle.vx_model.specs.Column.{column}
use Rattle.vx_rules.specs.Aggregates.{valid_values, least, greatest}
use Rattle.vx_rules.proofs.AlikeExtremes.{PassAlike, alike_extremes, among-passes, fit-valid}
use Rattle.vx_rules.proofs.ExtremeLaws.{extremes_are_bounds}
use Rattle.vx_sparse.specs.CellPairs.{FitPair}
use Rattle.vx_sparse.specs.Kernels.{both, extremes}

module _ (t : PlainType) (flat : is_flat t ≡ true) where
  -- values that pass the same tests have the same extremes
  pub alike-extremes : (us vs : List PlainValue) → list_all (fits t) us ≡ true → list_all (fits t) vs ≡ true → PassAlike us vs → extremes us ≡ extremes vs
  alike-extremes us vs f g e = let s = alike_extremes t flat us vs f g e in λ i. both (s.0 i) (s.1 i)

  -- and they are of the values' type
  pub extremes-fit : (vs : List PlainValue) → list_all (fits t) vs ≡ true → FitPair t (extremes vs)
  extremes-fit vs f = by (valid_values vs) refl
    where
      by : (xs : List PlainValue) → valid_values vs ≡ xs → FitPair t (both (least xs) (greatest xs))
      by [] h = tt
      by (x ∷ xs) h =
          let p = extremes_are_bounds (column t vs) _ _ flat f (ap least h) (ap greatest h) in
          let all = fit-valid (fits t) vs f in
          (among-passes (fits t) _ (valid_values vs) p.0 all, among-passes (fits t) _ (valid_values vs) p.1 all)
