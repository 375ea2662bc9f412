-- The extents of a constant: the counts of its value times its length.
use Rattle.std.proofs.Common.{◌≡◌, ◌*◌, ℕ, [], ◌∷◌}
use Rattle.std.specs.Prelude.{nat_le}
use Rattle.std.specs.List.{list_all}
use Rattle.std.proofs.lemmas.List.Folds.{list_all-map}
use Rattle.vx_base.specs.PlainScalar.{PlainScalar}
use Rattle.vx_model.specs.Extents.{counts, extents_fit, row_limit}
use Rattle.vx_model.specs.Tree.{constant}

pub extents_fit-constant : (s : PlainScalar) (len : ℕ) → extents_fit (constant s len) ≡ list_all (λ count. nat_le (len * count) row_limit) (counts s.dtype (s.value ∷ []))
extents_fit-constant s len = list_all-map (λ extent. nat_le extent row_limit) (λ count. len * count) (counts s.dtype (s.value ∷ []))

pub ruleset constants = (extents_fit-constant)
