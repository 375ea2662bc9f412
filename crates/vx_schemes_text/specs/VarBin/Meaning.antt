-- What the scheme of concatenated binaries means.
use Rattle.std.specs.Prelude.{true, false, [], codes, refl}
use Rattle.std.proofs.Common.{arith}
use Rattle.vx_base.specs.declared.array_id.ArrayId.TheVariants.{VarBin}
use Rattle.vx_base.specs.IdNumber.{same_id}
use Rattle.vx_scheme.specs.Lawful.{Lawful}
use Rattle.vx_scheme.specs.Meaning.{Meaning}
use Rattle.vx_scheme.specs.declared.estimate.CompressionEstimate.TheVariants.{Deferred}
use Rattle.vx_scheme.specs.declared.estimate.DeferredEstimate.TheVariants.{Sample}
use Rattle.vx_scheme.specs.declared.estimate.EstimateVerdict.TheVariants.{Skip}
use Rattle.vx_schemes_common.specs.OnePart.{part_where, over_part}
use Rattle.vx_schemes_common.specs.OnePartLaws.{one_part-lawful}
use Rattle.vx_schemes_text.specs.Types.{is_binary}
use Rattle.vx_schemes_text.specs.VarBin.Laws.{binaries-stand}
use Rattle.vx_schemes_text.specs.VarBin.Tree.{binary_offsets, binaries_over}
use Rattle.vx_schemes_text.specs.declared.binary.var_bin.VarBinScheme.{VarBinScheme}

-- tried on a sample; the offsets are its one part
abbrev pub var_bin_meaning : VarBinScheme → Meaning
var_bin_meaning s = record {
  name = codes "vortex.binary.varbin";
  takes = is_binary;
  children = 1;
  options = record { count_distinct_values = false };
  produces = λ id. same_id id VarBin;
  descendants = [];
  ancestors = [];
  estimate = λ c site. Deferred Sample;
  resolve = λ c site. Skip;
  splits = λ c site. part_where true (binary_offsets c);
  joined = λ c site trees. over_part binaries_over c trees;
}

pub var_bin_lawful : (s : VarBinScheme) → Lawful (var_bin_meaning s)
var_bin_lawful s = one_part-lawful (var_bin_meaning s) (λ c. true) binary_offsets binaries_over (λ c site. refl) (λ c site tree. refl) (omega arith) binaries-stand
