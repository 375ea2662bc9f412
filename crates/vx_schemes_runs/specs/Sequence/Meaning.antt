-- What the sequence scheme means.
use Rattle.std.specs.Prelude.{ℕ, ℤ, ◌||◌, false, if◌then◌else◌, [], codes, length, Option, None, Some, refl}
use Rattle.std.specs.List.{list_any}
use Rattle.vx_base.specs.IdNumber.{same_id}
use Rattle.vx_base.specs.PlainType.{is_integer}
use Rattle.vx_base.specs.PlainValue.{is_null}
use Rattle.vx_base.specs.declared.array_id.ArrayId.TheVariants.{Sequence}
use Rattle.vx_model.specs.Plain.{plain}
use Rattle.vx_scheme.specs.Lawful.{Lawful}
use Rattle.vx_scheme.specs.Meaning.{Meaning}
use Rattle.vx_scheme.specs.Scores.{ratio_of}
use Rattle.vx_scheme.specs.declared.estimate.CompressionEstimate.TheVariants.{Verdict, Deferred}
use Rattle.vx_scheme.specs.declared.estimate.DeferredEstimate.TheVariants.{Callback}
use Rattle.vx_scheme.specs.declared.estimate.EstimateVerdict.{EstimateVerdict}
use Rattle.vx_scheme.specs.declared.estimate.EstimateVerdict.TheVariants.{Skip}
use Rattle.vx_schemes_common.specs.Exclusions.{not_in_codes}
use Rattle.vx_schemes_common.specs.Finishing.{finished_or_kept}
use Rattle.vx_schemes_common.specs.FinishingLaws.{finishing-lawful}
use Rattle.vx_schemes_runs.specs.Sequence.Laws.{sequence-lawful}
use Rattle.vx_schemes_runs.specs.Sequence.Tree.{sequence_in, sequence_made}
use Rattle.vx_schemes_runs.specs.declared.integer.sequence.SequenceScheme.{SequenceScheme}

-- rows / 2 for an arithmetic sequence, which is two numbers; Skip for anything else
abbrev pub sequence_verdict : ℕ → Option (ℤ × ℤ) → EstimateVerdict
sequence_verdict len None = Skip
sequence_verdict len (Some found) = ratio_of len 2

-- Skip for a sample, which tells nothing of the other rows, and for a column with a null; the estimate of any other is deferred
abbrev pub sequence_meaning : SequenceScheme → Meaning
sequence_meaning s = record {
  name = codes "vortex.int.sequence";
  takes = is_integer;
  children = 0;
  options = record { count_distinct_values = false };
  produces = λ id. same_id id Sequence;
  descendants = [];
  ancestors = not_in_codes;
  estimate = λ c site. if site.sampled || list_any is_null c.values then Verdict Skip else Deferred Callback;
  resolve = λ c site. sequence_verdict (length c.values) (sequence_in c);
  splits = λ c site. finished_or_kept (sequence_made c);
  joined = λ c site trees. plain c;
}

pub sequence_lawful : (s : SequenceScheme) → Lawful (sequence_meaning s)
sequence_lawful s = finishing-lawful (sequence_meaning s) sequence_made (λ c site. refl) sequence-lawful
