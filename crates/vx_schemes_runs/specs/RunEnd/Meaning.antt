-- What the run-end scheme means.
use Rattle.std.specs.Prelude.{◌≤◌, nat_lt, false, if◌then◌else◌, List, [], ◌∷◌, length, All, codes}
use Rattle.std.proofs.Common.{arith, subst, sym, ◌∙◌}
use Rattle.vx_base.specs.IdNumber.{same_id}
use Rattle.vx_base.specs.PlainType.{is_integer}
use Rattle.vx_base.specs.declared.array_id.ArrayId.TheVariants.{RunEnd}
use Rattle.vx_model.specs.Column.{Column}
use Rattle.vx_scheme.specs.Lawful.{Lawful, IsPart}
use Rattle.vx_scheme.specs.Meaning.{Meaning, parts}
use Rattle.vx_scheme.specs.Rules.{Rule}
use Rattle.vx_scheme.specs.declared.estimate.CompressionEstimate.{CompressionEstimate}
use Rattle.vx_scheme.specs.declared.estimate.CompressionEstimate.TheVariants.{Verdict, Deferred}
use Rattle.vx_scheme.specs.declared.estimate.DeferredEstimate.TheVariants.{Sample}
use Rattle.vx_scheme.specs.declared.estimate.EstimateVerdict.TheVariants.{Skip}
use Rattle.vx_scheme.specs.declared.selection.ChildSelection.TheVariants.{One}
use Rattle.vx_stats.specs.Stats.{average_run_length}
use Rattle.vx_schemes_common.specs.Exclusions.{not_in_values}
use Rattle.vx_schemes_common.specs.Pairs.{pair_of}
use Rattle.vx_schemes_common.specs.PartsLaws.{never_finished, parts_same}
use Rattle.vx_schemes_runs.specs.RunEnd.Tree.{run_values, narrowed_ends, runs_or_plain}
use Rattle.vx_schemes_runs.specs.RunEnd.Laws.{runs-small, joined}
use Rattle.vx_schemes_runs.specs.declared.integer.run_end.RunEndScheme.{RunEndScheme}

-- below the ends, its child 1, no dictionary, runs or sparse values: the ends ascend strictly, so no two are equal
abbrev pub not_below_ends : List Rule
not_below_ends =
    record { scheme = codes "vortex.int.dict"; children = One 1 } ∷ record { scheme = codes "vortex.int.runend"; children = One 1 }
    ∷ record { scheme = codes "vortex.int.rle"; children = One 1 } ∷ record { scheme = codes "vortex.int.sparse"; children = One 1 } ∷ []

-- Skip below an average run length of 4; any other column is tried on a sample
abbrev pub runs_estimate : Column → CompressionEstimate
runs_estimate c = if nat_lt (average_run_length c.values) 4 then Verdict Skip else Deferred Sample

-- the values of the runs are part 0, and their ends part 1
abbrev pub run_end_meaning : RunEndScheme → Meaning
run_end_meaning s = record {
  name = codes "vortex.int.runend";
  takes = is_integer;
  children = 2;
  options = record { count_distinct_values = false };
  produces = λ id. same_id id RunEnd;
  descendants = not_below_ends;
  ancestors = not_in_values;
  estimate = λ c site. runs_estimate c;
  resolve = λ c site. Skip;
  splits = λ c site. parts (run_values c ∷ narrowed_ends c ∷ []);
  joined = λ c site trees. runs_or_plain c (pair_of trees);
}

pub run_end_lawful : (s : RunEndScheme) → Lawful (run_end_meaning s)
run_end_lawful s = record {
  finished_well = λ c site tree asked e. absurd (never_finished (run_values c ∷ narrowed_ends c ∷ []) tree e);
  joined_well = λ c site columns trees asked e well fit. joined c trees asked.taken asked.column asked.few well (fit ∙ sym (parts_same (run_values c ∷ narrowed_ends c ∷ []) columns e));
  few_parts = λ c site columns asked e. subst (λ cs. length cs ≤ 2) (parts_same (run_values c ∷ narrowed_ends c ∷ []) columns e) (omega arith);
  small_parts = λ c site columns asked e. subst (All (IsPart c)) (parts_same (run_values c ∷ narrowed_ends c ∷ []) columns e) (runs-small c asked.taken asked.column asked.few);
}
