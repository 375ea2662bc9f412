-- What the schemes of runs make has an encoding that they produce.
use Rattle.std.proofs.Common.{◌≡◌, true, [], ◌∷◌, Option, Some, None, refl, inl, inr}
use Rattle.vx_model.specs.Column.{Column}
use Rattle.vx_model.specs.Tree.{Tree}
use Rattle.vx_schemes_common.specs.Pairs.{pair_of}
use Rattle.vx_schemes_common.specs.Produced.{IsProduced, MakesProduced}
use Rattle.vx_schemes_common.specs.PartsLaws.{never_finished}
use Rattle.vx_schemes_runs.specs.RunEnd.Meaning.{run_end_meaning}
use Rattle.vx_schemes_runs.specs.RunEnd.Tree.{run_values, narrowed_ends, runs_or_plain}
use Rattle.vx_schemes_runs.specs.RunLength.Meaning.{int_rle_meaning}
use Rattle.vx_schemes_runs.specs.RunLength.Tree.{head_values, narrowed_run_numbers, narrowed_offsets, rle_or_plain}
use Rattle.vx_schemes_common.specs.Triples.{triple_of}
use Rattle.vx_schemes_runs.specs.declared.integer.run_end.RunEndScheme.{RunEndScheme}
use Rattle.vx_schemes_runs.specs.declared.integer.run_length.IntRLEScheme.{IntRLEScheme}

pub run_ends-produced : (s : RunEndScheme) → MakesProduced (run_end_meaning s)
run_ends-produced s = record {
  by_finishing = λ c site tree e. absurd (never_finished (run_values c ∷ narrowed_ends c ∷ []) tree e);
  by_joining = λ c site trees. by_pair c (pair_of trees);
}
  where
    by_pair : (c : Column) (pair : Option (Tree × Tree)) → IsProduced (run_end_meaning s) c (runs_or_plain c pair)
    by_pair c None = inl refl
    by_pair c (Some pair) = inr refl

pub blocks-produced : (s : IntRLEScheme) → MakesProduced (int_rle_meaning s)
blocks-produced s = record {
  by_finishing = λ c site tree e. absurd (never_finished (head_values c ∷ narrowed_run_numbers c ∷ narrowed_offsets c ∷ []) tree e);
  by_joining = λ c site trees. by_three c (triple_of trees);
}
  where
    by_three : (c : Column) (three : Option (Tree × Tree × Tree)) → IsProduced (int_rle_meaning s) c (rle_or_plain c three)
    by_three c None = inl refl
    by_three c (Some three) = inr refl
