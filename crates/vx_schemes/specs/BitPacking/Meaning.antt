-- What the bit-packing scheme means.
use Rattle.std.specs.Prelude.{false, if◌then◌else◌, [], codes, refl}
use Rattle.vx_base.specs.IdNumber.{same_id}
use Rattle.vx_base.specs.PlainType.{is_integer}
use Rattle.vx_base.specs.declared.array_id.ArrayId.TheVariants.{BitPacked}
use Rattle.vx_model.specs.Plain.{plain}
use Rattle.vx_scheme.specs.Lawful.{Lawful}
use Rattle.vx_scheme.specs.Meaning.{Meaning}
use Rattle.vx_scheme.specs.declared.estimate.CompressionEstimate.TheVariants.{Verdict, Deferred}
use Rattle.vx_scheme.specs.declared.estimate.DeferredEstimate.TheVariants.{Sample}
use Rattle.vx_scheme.specs.declared.estimate.EstimateVerdict.TheVariants.{Skip}
use Rattle.vx_schemes.specs.BitPacking.Tree.{has_negative, bit_packing_made}
use Rattle.vx_schemes_common.specs.Finishing.{finished_or_kept}
use Rattle.vx_schemes_common.specs.FinishingLaws.{finishing-lawful}
use Rattle.vx_schemes.specs.BitPacking.Laws.{bit_packing-lawful}
use Rattle.vx_schemes.specs.declared.integer.bit_packing.BitPackingScheme.{BitPackingScheme}

-- Skip for a column with a negative value; any other is tried on a sample. The tree is finished at once, without parts
abbrev pub bit_packing_meaning : BitPackingScheme → Meaning
bit_packing_meaning s = record {
  name = codes "vortex.int.bitpacking";
  takes = is_integer;
  children = 0;
  options = record { count_distinct_values = false };
  produces = λ id. same_id id BitPacked;
  descendants = [];
  ancestors = [];
  estimate = λ c site. if has_negative c then Verdict Skip else Deferred Sample;
  resolve = λ c site. Skip;
  splits = λ c site. finished_or_kept (bit_packing_made c);
  joined = λ c site trees. plain c;
}

pub bit_packing_lawful : (s : BitPackingScheme) → Lawful (bit_packing_meaning s)
bit_packing_lawful s = finishing-lawful (bit_packing_meaning s) bit_packing_made (λ c site. refl) bit_packing-lawful
