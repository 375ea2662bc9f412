-- What the zigzag scheme means.
use Rattle.std.specs.Prelude.{◌==◌, not, ◌||◌, false, if◌then◌else◌, List, [], ◌∷◌, codes, refl}
use Rattle.std.proofs.Common.{arith}
use Rattle.vx_base.specs.IdNumber.{same_id}
use Rattle.vx_base.specs.PlainType.{is_integer, is_unsigned}
use Rattle.vx_base.specs.declared.array_id.ArrayId.TheVariants.{ZigZag}
use Rattle.vx_model.specs.Tree.{zig_zag}
use Rattle.vx_scheme.specs.Lawful.{Lawful}
use Rattle.vx_scheme.specs.Meaning.{Meaning}
use Rattle.vx_scheme.specs.Rules.{Rule}
use Rattle.vx_scheme.specs.declared.estimate.CompressionEstimate.TheVariants.{Verdict, Deferred}
use Rattle.vx_scheme.specs.declared.estimate.DeferredEstimate.TheVariants.{Sample}
use Rattle.vx_scheme.specs.declared.estimate.EstimateVerdict.TheVariants.{Skip}
use Rattle.vx_scheme.specs.declared.selection.ChildSelection.TheVariants.{All}
use Rattle.vx_schemes.specs.BitPacking.Tree.{has_negative}
use Rattle.vx_schemes_common.specs.Exclusions.{not_in_codes}
use Rattle.vx_schemes_common.specs.OnePartLaws.{one_part-lawful}
use Rattle.vx_schemes.specs.ZigZag.Tree.{zigzags, zig_zag_made, zig_zag_over}
use Rattle.vx_schemes.specs.ZigZag.Laws.{zig_zag-stands}
use Rattle.vx_schemes.specs.declared.integer.zig_zag.ZigZagScheme.{ZigZagScheme}

-- no dictionary, run ends or sparse values below: they find the same equal rows before zigzag
abbrev pub not_below : List Rule
not_below =
    record { scheme = codes "vortex.int.dict"; children = All } ∷ record { scheme = codes "vortex.int.runend"; children = All }
    ∷ record { scheme = codes "vortex.int.sparse"; children = All } ∷ []

-- Skip at budget 0 and for a column without a negative value; any other is tried on a sample
abbrev pub zig_zag_meaning : ZigZagScheme → Meaning
zig_zag_meaning s = record {
  name = codes "vortex.int.zigzag";
  takes = is_integer;
  children = 1;
  options = record { count_distinct_values = false };
  produces = λ id. same_id id ZigZag;
  descendants = not_below;
  ancestors = not_in_codes;
  estimate = λ c site. if site.budget == 0 || not (has_negative c) then Verdict Skip else Deferred Sample;
  resolve = λ c site. Skip;
  splits = λ c site. zig_zag_made c;
  joined = λ c site trees. zig_zag_over c trees;
}

pub zig_zag_lawful : (s : ZigZagScheme) → Lawful (zig_zag_meaning s)
zig_zag_lawful s = one_part-lawful (zig_zag_meaning s) (λ c. not (is_unsigned c.dtype)) zigzags (λ c tree. zig_zag tree) (λ c site. refl) (λ c site tree. refl) (omega arith) zig_zag-stands
