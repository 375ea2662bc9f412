-- What the scheme of span frames means, and the list that it stands in.
use Rattle.std.specs.Prelude.{ℤ, true, false, List, [], ◌∷◌, codes, refl}
use Rattle.std.proofs.Common.{arith}
use Rattle.vx_base.specs.declared.array_id.ArrayId.TheVariants.{FoR}
use Rattle.vx_base.specs.declared.dtype.Nullability.TheVariants.{NonNullable}
use Rattle.vx_base.specs.IdNumber.{same_id}
use Rattle.vx_base.specs.PlainScalar.{scalar}
use Rattle.vx_base.specs.PlainType.{is_integer, integer_of}
use Rattle.vx_base.specs.PlainType as types
use Rattle.vx_base.specs.PlainValue.{int}
use Rattle.vx_model.specs.Column.{Column}
use Rattle.vx_model.specs.Tree.{Tree, frame_of_reference}
use Rattle.vx_scheme.specs.Lawful.{Lawful}
use Rattle.vx_scheme.specs.Meaning.{Meaning}
use Rattle.vx_stats.specs.Stats.{least_in}
use Rattle.vx_scheme.specs.declared.estimate.CompressionEstimate.TheVariants.{Verdict}
use Rattle.vx_scheme.specs.declared.estimate.EstimateVerdict.TheVariants.{Skip}
use Rattle.vx_schemes.specs.FrameOfReference.Tree.{differences}
use Rattle.vx_schemes.specs.FrameOfReference.Laws.{least_in-held, differences-part, framed-stands}
use Rattle.vx_schemes.specs.FrameOfReference.Meaning.{for_estimate}
use Rattle.vx_schemes_common.specs.OnePart.{PartStands, part_where, over_part}
use Rattle.vx_schemes_common.specs.OnePartLaws.{one_part-lawful}
use Rattle.vx_btrblocks.specs.Shipped.{shipped_schemes}

-- the least value, or the greatest of the type where every row is null
abbrev pub reference_of : Column → ℤ
reference_of c = least_in (integer_of c.dtype) c.values

-- the differences row - least value, in the unsigned type of the same width
abbrev pub above_least : Column → Column
above_least c = differences c (reference_of c)

-- the part's tree under the least value
abbrev pub frame_over : Column → Tree → Tree
frame_over c tree = frame_of_reference tree (scalar (types.primitive (integer_of c.dtype) NonNullable) (int (reference_of c)))

-- the verdict of the shipped frame; the one part is the differences
abbrev pub span_frame : Meaning
span_frame = record {
  name = codes "example.int.frame";
  takes = is_integer;
  children = 1;
  options = record { count_distinct_values = false };
  produces = λ id. same_id id FoR;
  descendants = [];
  ancestors = [];
  estimate = λ c site. Verdict (for_estimate c site);
  resolve = λ c site. Skip;
  splits = λ c site. part_where true (above_least c);
  joined = λ c site trees. over_part frame_over c trees;
}

-- the differences are a part, and under the least value any tree of them stands for the column
span_frame-stands : PartStands is_integer (λ c. true) above_least frame_over
span_frame-stands = record {
  is_part = λ c taken h few passes. differences-part c (reference_of c) taken h;
  stands = λ c tree taken h passes well same. framed-stands c (reference_of c) taken h tree (least_in-held c taken h) well same;
}

pub span_frame_lawful : Lawful span_frame
span_frame_lawful = one_part-lawful span_frame (λ c. true) above_least frame_over (λ c site. refl) (λ c site tree. refl) (omega arith) span_frame-stands

-- span frames, and behind them the shipped schemes
abbrev pub with_span_frames : List Meaning
with_span_frames = span_frame ∷ shipped_schemes
