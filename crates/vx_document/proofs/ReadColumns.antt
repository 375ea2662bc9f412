-- The counts of the column that is read.
use Rattle.std.proofs.Common.{◌≡◌, ◌*◌, ℕ, List, [], ◌∷◌, refl, ap, ◌∙◌, arith}
use Rattle.std.specs.Prelude.{◌&&◌, nat_le}
use Rattle.std.specs.List.{list_all}
use Rattle.vx_model.specs.Extents.{counts, extents_fit, row_limit}
use Rattle.vx_model.specs.Plain.{IsPlain}
use Rattle.vx_model.specs.Rows.{rows}
use Rattle.vx_model.specs.Tree.{Tree}
use Rattle.vx_model.specs.TreeType.{tree_type}
use Rattle.vx_model.proofs.ExtentLemmas.{extents-plain_of}

-- the extents of a plain tree are the counts of its column
pub extents_fit-plain : (t : Tree) → IsPlain t → extents_fit t ≡ list_all (λ count. nat_le count row_limit) (counts (tree_type t) (rows t))
extents_fit-plain t e = ap extents_fit e ∙ ap (list_all (λ count. nat_le count row_limit)) (extents-plain_of (tree_type t) (rows t))

-- counts that are taken once
pub once : (cs : List ℕ) → list_all (λ count. nat_le (1 * count) row_limit) cs ≡ list_all (λ count. nat_le count row_limit) cs
once [] = refl
once (c ∷ cs) = λ i. nat_le (one_times c i) row_limit && once cs i
  where
    one_times : (n : ℕ) → 1 * n ≡ n
    one_times n = omega arith

pub ruleset counting = (extents_fit-plain, once)
