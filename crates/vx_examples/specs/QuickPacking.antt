-- What the scheme of quick packing means, and the list that it stands in.
use Rattle.std.specs.Prelude.{ℕ, pos, int_lt, unsigned_abs, false, if◌then◌else◌, List, [], ◌∷◌, ◌++◌, codes, refl}
use Rattle.vx_base.specs.declared.array_id.ArrayId.TheVariants.{BitPacked}
use Rattle.vx_base.specs.Digits.{digits}
use Rattle.vx_base.specs.IdNumber.{same_id}
use Rattle.vx_base.specs.Integers.{bits_of}
use Rattle.vx_base.specs.PlainType.{is_integer, integer_of}
use Rattle.vx_model.specs.Column.{Column}
use Rattle.vx_model.specs.Plain.{plain}
use Rattle.vx_scheme.specs.Lawful.{Lawful}
use Rattle.vx_scheme.specs.Meaning.{Meaning}
use Rattle.vx_scheme.specs.Scores.{ratio_of}
use Rattle.vx_stats.specs.Stats.{Extremes, extremes_in}
use Rattle.vx_scheme.specs.declared.estimate.CompressionEstimate.TheVariants.{Verdict}
use Rattle.vx_scheme.specs.declared.estimate.EstimateVerdict.{EstimateVerdict}
use Rattle.vx_scheme.specs.declared.estimate.EstimateVerdict.TheVariants.{Skip}
use Rattle.vx_schemes.specs.BitPacking.Tree.{bit_packing_made}
use Rattle.vx_schemes_common.specs.Finishing.{finished_or_kept}
use Rattle.vx_schemes_common.specs.FinishingLaws.{finishing-lawful}
use Rattle.vx_schemes.specs.BitPacking.Laws.{bit_packing-lawful}
use Rattle.vx_btrblocks.specs.Shipped.{shipped_schemes}

-- ratio bits / digits(greatest value); Skip with a negative value, or where the greatest has no digits
abbrev pub quick_verdict : ℕ → Extremes → EstimateVerdict
quick_verdict bits e = if int_lt e.least (pos 0) then Skip else ratio_of bits (digits (unsigned_abs e.greatest))

-- the verdict for a column, by the extremes of its values
abbrev pub quick_estimate : Column → EstimateVerdict
quick_estimate c = quick_verdict (bits_of (integer_of c.dtype)) (extremes_in (integer_of c.dtype) c.values)

-- an immediate verdict by the statistics; the tree is that of bit packing, without parts
abbrev pub quick_packing : Meaning
quick_packing = record {
  name = codes "example.int.quickpacking";
  takes = is_integer;
  children = 0;
  options = record { count_distinct_values = false };
  produces = λ id. same_id id BitPacked;
  descendants = [];
  ancestors = [];
  estimate = λ c site. Verdict (quick_estimate c);
  resolve = λ c site. Skip;
  splits = λ c site. finished_or_kept (bit_packing_made c);
  joined = λ c site trees. plain c;
}

pub quick_packing_lawful : Lawful quick_packing
quick_packing_lawful = finishing-lawful quick_packing bit_packing_made (λ c site. refl) bit_packing-lawful

-- the shipped schemes, and behind them quick packing
abbrev pub with_quick_packing : List Meaning
with_quick_packing = shipped_schemes ++ quick_packing ∷ []
