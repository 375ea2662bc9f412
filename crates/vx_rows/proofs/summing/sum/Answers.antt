use Rattle.std.proofs.Common.{◌∙◌, ap, sym}
use Rattle.vx_model.specs.Column.{column_of}
use Rattle.vx_rows.specs.Totals.{is_summed, total_of}
use Rattle.vx_rules.specs.Aggregates.{sum_ptype}
use Rattle.vx_rows.proofs.SummedLemmas.{sum-answered, sum-refused}
use Rattle.vx_rows.proofs.summing.sum.Goals as goal

pub returns-then-not-is_summed-clause-answer : goal.returns-then-not-is_summed-clause-answer
returns-then-not-is_summed-clause-answer c = sum-refused (column_of c.args.array.now) _ (sym (ap is_summed c.dtype.ensures) ∙ sym c.is_summed.ensures ∙ c.if-not-is_summed.true)

pub returns-clause-answer : goal.returns-clause-answer
returns-clause-answer c =
    sum-answered (column_of c.args.array.now) c.sum_ptype-ptype.result (total_of c.in_ok-total.total) c.total_scalar.result
    (sym (ap is_summed c.dtype.ensures) ∙ sym c.is_summed.ensures ∙ c.if-not-is_summed.false) (c.sum_ptype-ptype.ensures ∙ ap sum_ptype c.dtype-2.ensures) c.in_ok-total.ensures c.total_scalar.ensures
