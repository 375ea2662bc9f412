-- What the run-length scheme means.
use Rattle.std.specs.Prelude.{◌≤◌, ◌==◌, ◌||◌, nat_lt, false, if◌then◌else◌, List, [], ◌∷◌, length, All, codes}
use Rattle.std.proofs.Common.{arith, subst, sym, ◌∙◌}
use Rattle.vx_base.specs.IdNumber.{same_id}
use Rattle.vx_base.specs.PlainType.{is_integer}
use Rattle.vx_base.specs.declared.array_id.ArrayId.TheVariants.{Rle}
use Rattle.vx_model.specs.Column.{Column}
use Rattle.vx_model.specs.Site.{Site}
use Rattle.vx_scheme.specs.Lawful.{Lawful, IsPart}
use Rattle.vx_scheme.specs.Meaning.{Meaning, parts}
use Rattle.vx_scheme.specs.Rules.{Rule}
use Rattle.vx_scheme.specs.declared.estimate.CompressionEstimate.{CompressionEstimate}
use Rattle.vx_scheme.specs.declared.estimate.CompressionEstimate.TheVariants.{Verdict, Deferred}
use Rattle.vx_scheme.specs.declared.estimate.DeferredEstimate.TheVariants.{Sample}
use Rattle.vx_scheme.specs.declared.estimate.EstimateVerdict.TheVariants.{Skip}
use Rattle.vx_scheme.specs.declared.selection.ChildSelection.TheVariants.{Many}
use Rattle.vx_stats.specs.Stats.{average_run_length}
use Rattle.vx_schemes_common.specs.Exclusions.{not_in_values}
use Rattle.vx_schemes_common.specs.Triples.{triple_of}
use Rattle.vx_schemes_common.specs.PartsLaws.{never_finished, parts_same}
use Rattle.vx_schemes_runs.specs.RunLength.Tree.{head_values, narrowed_run_numbers, narrowed_offsets, rle_or_plain}
use Rattle.vx_schemes_runs.specs.RunLength.Laws.{blocks-small, joined}
use Rattle.vx_schemes_runs.specs.declared.integer.run_length.IntRLEScheme.{IntRLEScheme}

-- below the numbers and the offsets, its children 1 and 2, no dictionary and no sparse values: bit packing takes such small numbers best
abbrev pub not_below_numbers : List Rule
not_below_numbers =
    record { scheme = codes "vortex.int.dict"; children = Many 1 2 } ∷ record { scheme = codes "vortex.int.sparse"; children = Many 1 2 } ∷ []

-- Skip at budget 0 and below an average run length of 4; any other column is tried on a sample
abbrev pub rle_estimate : Column → Site → CompressionEstimate
rle_estimate c site = if site.budget == 0 || nat_lt (average_run_length c.values) 4 then Verdict Skip else Deferred Sample

-- the values of the runs are part 0, the run numbers of the rows part 1, and the offsets of the blocks part 2
abbrev pub int_rle_meaning : IntRLEScheme → Meaning
int_rle_meaning s = record {
  name = codes "vortex.int.rle";
  takes = is_integer;
  children = 3;
  options = record { count_distinct_values = false };
  produces = λ id. same_id id Rle;
  descendants = not_below_numbers;
  ancestors = not_in_values;
  estimate = rle_estimate;
  resolve = λ c site. Skip;
  splits = λ c site. parts (head_values c ∷ narrowed_run_numbers c ∷ narrowed_offsets c ∷ []);
  joined = λ c site trees. rle_or_plain c (triple_of trees);
}

pub int_rle_lawful : (s : IntRLEScheme) → Lawful (int_rle_meaning s)
int_rle_lawful s = record {
  finished_well = λ c site tree asked e. absurd (never_finished (head_values c ∷ narrowed_run_numbers c ∷ narrowed_offsets c ∷ []) tree e);
  joined_well = λ c site columns trees asked e well fit. joined c trees asked.taken asked.column well (fit ∙ sym (parts_same (head_values c ∷ narrowed_run_numbers c ∷ narrowed_offsets c ∷ []) columns e));
  few_parts = λ c site columns asked e. subst (λ cs. length cs ≤ 3) (parts_same (head_values c ∷ narrowed_run_numbers c ∷ narrowed_offsets c ∷ []) columns e) (omega arith);
  small_parts = λ c site columns asked e. subst (All (IsPart c)) (parts_same (head_values c ∷ narrowed_run_numbers c ∷ narrowed_offsets c ∷ []) columns e) (blocks-small c asked.taken asked.column asked.few);
}
