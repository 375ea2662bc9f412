-- What the scheme of timestamps means.
use Rattle.std.specs.Prelude.{◌≤◌, false, [], length, All, codes}
use Rattle.std.proofs.Common.{arith, subst, sym, ◌∙◌}
use Rattle.vx_base.specs.IdNumber.{same_id}
use Rattle.vx_base.specs.declared.array_id.ArrayId.TheVariants.{DateTimeParts}
use Rattle.vx_scheme.specs.Lawful.{Lawful, IsPart}
use Rattle.vx_scheme.specs.Meaning.{Meaning}
use Rattle.vx_scheme.specs.declared.estimate.CompressionEstimate.TheVariants.{Verdict}
use Rattle.vx_scheme.specs.declared.estimate.EstimateVerdict.TheVariants.{AlwaysUse, Skip}
use Rattle.vx_schemes_common.specs.Triples.{triple_of}
use Rattle.vx_schemes_time.specs.Temporal.Tree.{is_splittable, parts_or_kept, joined_or_plain}
use Rattle.vx_schemes_time.specs.Temporal.Laws.{parts-unfinished, parts-are, parts-small, joined}
use Rattle.vx_schemes_time.specs.declared.temporal.TemporalScheme.{TemporalScheme}

-- timestamps of every kind, always used: the days are part 0, the seconds part 1 and the subseconds part 2
abbrev pub temporal_meaning : TemporalScheme → Meaning
temporal_meaning s = record {
  name = codes "vortex.ext.temporal";
  takes = is_splittable;
  children = 3;
  options = record { count_distinct_values = false };
  produces = λ id. same_id id DateTimeParts;
  descendants = [];
  ancestors = [];
  estimate = λ c site. Verdict AlwaysUse;
  resolve = λ c site. Skip;
  splits = λ c site. parts_or_kept c;
  joined = λ c site trees. joined_or_plain c (triple_of trees);
}

pub temporal_lawful : (s : TemporalScheme) → Lawful (temporal_meaning s)
temporal_lawful s = record {
  finished_well = λ c site tree asked e. absurd (parts-unfinished c tree e);
  joined_well = λ c site columns trees asked e well fit. let made = parts-are c columns e in joined c trees asked.taken asked.column made.0 well (fit ∙ sym made.1);
  few_parts = λ c site columns asked e. subst (λ cs. length cs ≤ 3) (parts-are c columns e).1 (omega arith);
  small_parts = λ c site columns asked e. let made = parts-are c columns e in subst (All (IsPart c)) made.1 (parts-small c asked.taken asked.column made.0);
}
