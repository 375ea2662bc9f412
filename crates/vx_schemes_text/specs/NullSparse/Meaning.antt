-- What the sparse scheme of texts means.
use Rattle.std.specs.Prelude.{false, if◌then◌else◌, List, [], ◌∷◌, length, codes, refl}
use Rattle.std.proofs.Common.{arith}
use Rattle.vx_base.specs.IdNumber.{same_id}
use Rattle.vx_base.specs.PlainType.{is_text}
use Rattle.vx_base.specs.declared.array_id.ArrayId.TheVariants.{Sparse}
use Rattle.vx_model.specs.Column.{Column}
use Rattle.vx_scheme.specs.Lawful.{Lawful}
use Rattle.vx_scheme.specs.Meaning.{Meaning}
use Rattle.vx_scheme.specs.Rules.{Rule}
use Rattle.vx_scheme.specs.Scores.{ratio_of}
use Rattle.vx_scheme.specs.declared.estimate.CompressionEstimate.TheVariants.{Verdict}
use Rattle.vx_scheme.specs.declared.estimate.EstimateVerdict.{EstimateVerdict}
use Rattle.vx_scheme.specs.declared.estimate.EstimateVerdict.TheVariants.{Skip}
use Rattle.vx_scheme.specs.declared.selection.ChildSelection.TheVariants.{All}
use Rattle.vx_stats.specs.Rows.{valid_count}
use Rattle.vx_schemes_common.specs.OnePart.{part_where, over_part}
use Rattle.vx_schemes_common.specs.OnePartLaws.{one_part-lawful}
use Rattle.vx_schemes_text.specs.NullSparse.Laws.{sparse_texts-stand}
use Rattle.vx_schemes_text.specs.NullSparse.Tree.{is_null_dominated, value_indices, sparse_texts}
use Rattle.vx_schemes_text.specs.declared.string.sparse.NullDominatedSparseScheme.{NullDominatedSparseScheme}

-- rows / values where more than 9 of 10 rows are null, but not all; else Skip
abbrev pub null_dominated_estimate : Column → EstimateVerdict
null_dominated_estimate c = if is_null_dominated c.values then ratio_of (length c.values) (valid_count c.values) else Skip

-- below the indices, its only child, neither sparse values nor a dictionary: the indices ascend strictly, so no two are equal
abbrev pub not_below_indices : List Rule
not_below_indices = record { scheme = codes "vortex.int.sparse"; children = All } ∷ record { scheme = codes "vortex.int.dict"; children = All } ∷ []

-- the indices of the values are its one part; the values stay plain
abbrev pub null_dominated_meaning : NullDominatedSparseScheme → Meaning
null_dominated_meaning s = record {
  name = codes "vortex.string.sparse";
  takes = is_text;
  children = 1;
  options = record { count_distinct_values = false };
  produces = λ id. same_id id Sparse;
  descendants = not_below_indices;
  ancestors = [];
  estimate = λ c site. Verdict (null_dominated_estimate c);
  resolve = λ c site. Skip;
  splits = λ c site. part_where (is_null_dominated c.values) (value_indices c);
  joined = λ c site trees. over_part sparse_texts c trees;
}

pub null_dominated_lawful : (s : NullDominatedSparseScheme) → Lawful (null_dominated_meaning s)
null_dominated_lawful s =
    one_part-lawful (null_dominated_meaning s) (λ c. is_null_dominated c.values) value_indices sparse_texts (λ c site. refl) (λ c site tree. refl) (omega arith) sparse_texts-stand
