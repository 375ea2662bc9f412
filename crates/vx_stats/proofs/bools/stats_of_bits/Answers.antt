use Rattle.std.proofs.Common.{◌∙◌, map, sym}
use Rattle.std.proofs.lemmas.List.{length-map}
use Rattle.vx_base.specs.declared.dtype.Nullability.TheVariants.{Nullable}
use Rattle.vx_base.specs.PlainValue.{truth}
use Rattle.vx_model.specs.Rows.{valid_rows}
use Rattle.vx_stats.specs.Bools.{are_equal}
use Rattle.vx_stats.proofs.RootLemmas.{truths-fit}
use Rattle.vx_stats.proofs.TruthLemmas.{constant-counts, none-null}
use Rattle.vx_stats.proofs.bools.stats_of_bits.Goals as goal

pub returns : goal.returns
returns c =
    let bits = c.args.values.now in
    let vs = valid_rows c.args.valid.now (map truth bits) in
    let counts = c.counts_of_rows-null_count.ensures (map truth bits) (length-map bits truth ∙ sym c.len.ensures) (none-null bits) in
    let constant = constant-counts Nullable vs (truths-fit c.args.valid.now bits) in
    λ i. record {
      null_count = counts.0 i;
      value_count = counts.1 i;
      true_count = c.true_rows.ensures i;
      is_constant = ((λ j. are_equal (counts.1 j) (c.true_rows.ensures j)) ∙ constant) i;
    }
