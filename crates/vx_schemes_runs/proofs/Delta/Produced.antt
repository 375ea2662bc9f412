-- What the delta scheme makes has an encoding that it produces.
use Rattle.std.proofs.Common.{◌≡◌, true, [], ◌∷◌, Option, Some, None, refl, inl, inr}
use Rattle.vx_model.specs.Column.{Column}
use Rattle.vx_model.specs.Tree.{Tree}
use Rattle.vx_schemes_common.specs.Pairs.{pair_of}
use Rattle.vx_schemes_common.specs.Produced.{IsProduced, MakesProduced}
use Rattle.vx_schemes_runs.specs.Delta.Meaning.{delta_meaning, unfinished}
use Rattle.vx_schemes_runs.specs.Delta.Tree.{delta_bases, delta_differences, delta_or_plain}
use Rattle.vx_schemes_runs.specs.declared.integer.delta.DeltaScheme.{DeltaScheme}

pub deltas-produced : (s : DeltaScheme) → MakesProduced (delta_meaning s)
deltas-produced s = record {
  by_finishing = λ c site tree e. absurd (unfinished (delta_bases c ∷ delta_differences c ∷ []) tree e);
  by_joining = λ c site trees. by_pair c (pair_of trees);
}
  where
    by_pair : (c : Column) (pair : Option (Tree × Tree)) → IsProduced (delta_meaning s) c (delta_or_plain c pair)
    by_pair c None = inl refl
    by_pair c (Some pair) = inr refl
