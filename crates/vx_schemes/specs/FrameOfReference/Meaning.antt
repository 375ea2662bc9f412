-- What the frame-of-reference scheme means.
use Rattle.std.specs.Prelude.{ℕ, ◌==◌, nat_le, ◌-ℤ◌, pos, int_lt, unsigned_abs, Bool, false, not, ◌&&◌, ◌||◌, if◌then◌else◌, [], codes, refl}
use Rattle.std.specs.Ordering.{int_eq}
use Rattle.vx_base.specs.declared.array_id.ArrayId.TheVariants.{FoR}
use Rattle.vx_base.specs.Digits.{digits}
use Rattle.vx_base.specs.IdNumber.{same_id}
use Rattle.vx_base.specs.Integers.{bits_of}
use Rattle.vx_base.specs.PlainType.{is_integer, integer_of}
use Rattle.vx_model.specs.Column.{Column}
use Rattle.vx_model.specs.Plain.{plain}
use Rattle.vx_model.specs.Site.{Site}
use Rattle.vx_scheme.specs.Lawful.{Lawful}
use Rattle.vx_scheme.specs.Meaning.{Meaning}
use Rattle.vx_scheme.specs.Scores.{ratio_of}
use Rattle.vx_stats.specs.Stats.{Extremes, extremes_in}
use Rattle.vx_scheme.specs.declared.estimate.CompressionEstimate.TheVariants.{Verdict}
use Rattle.vx_scheme.specs.declared.estimate.EstimateVerdict.{EstimateVerdict}
use Rattle.vx_scheme.specs.declared.estimate.EstimateVerdict.TheVariants.{Skip}
use Rattle.vx_schemes.specs.FrameOfReference.Tree.{for_made}
use Rattle.vx_schemes_common.specs.Exclusions.{not_in_codes}
use Rattle.vx_schemes_common.specs.Finishing.{finished_or_kept}
use Rattle.vx_schemes_common.specs.FinishingLaws.{finishing-lawful}
use Rattle.vx_schemes.specs.FrameOfReference.Laws.{for-lawful}
use Rattle.vx_schemes.specs.declared.integer.frame_of_reference.FoRScheme.{FoRScheme}

-- the greatest value less the least
abbrev pub span : Extremes → ℕ
span e = unsigned_abs (e.greatest -ℤ e.least)

-- no value is negative, and the greatest difference has as many digits as the greatest value
abbrev pub is_as_wide : Extremes → Bool
is_as_wide e = not (int_lt e.least (pos 0)) && not (int_eq e.greatest (pos 0)) && nat_le (digits (unsigned_abs e.greatest)) (digits (span e))

-- the least value is 0 already, all values are equal, or the differences are as wide as the values
abbrev pub gains_nothing : Extremes → Bool
gains_nothing e = int_eq e.least (pos 0) || (span e == 0) || is_as_wide e

-- bits(type) / digits(span); Skip where differences gain nothing
abbrev pub for_verdict : ℕ → Extremes → EstimateVerdict
for_verdict bits e = if gains_nothing e then Skip else ratio_of bits (digits (span e))

-- the verdict on a column; Skip at budget 0
abbrev pub for_estimate : Column → Site → EstimateVerdict
for_estimate c site = if site.budget == 0 then Skip else for_verdict (bits_of (integer_of c.dtype)) (extremes_in (integer_of c.dtype) c.values)

-- the tree is finished at once, without parts
abbrev pub for_meaning : FoRScheme → Meaning
for_meaning s = record {
  name = codes "vortex.int.for";
  takes = is_integer;
  children = 0;
  options = record { count_distinct_values = false };
  produces = λ id. same_id id FoR;
  descendants = [];
  ancestors = not_in_codes;
  estimate = λ c site. Verdict (for_estimate c site);
  resolve = λ c site. Skip;
  splits = λ c site. finished_or_kept (for_made c);
  joined = λ c site trees. plain c;
}

pub for_meaning_lawful : (s : FoRScheme) → Lawful (for_meaning s)
for_meaning_lawful s = finishing-lawful (for_meaning s) for_made (λ c site. refl) for-lawful
