use Rattle.std.proofs.Common.{◌∙◌, length}
use Rattle.std.proofs.lemmas.Result.{MatchResult-weaker}
use Rattle.vx_datetime.specs.Moments.{moment_parts, row_parts}
use Rattle.vx_datetime.proofs.OrderAnswers.{held-of-each}
use Rattle.vx_time.specs.CanonicalParts.{parts_cmp}
use Rattle.vx_values.specs.IntsOf.{wholes_of}
use Rattle.vx_datetime.proofs.kernels.compared.holds_at_each.Goals as goal

pub returns : goal.returns
returns c =
    let r = c.args.rows.now in
    MatchResult-weaker c.holds_of_each.result c.holds_of_each.ensures
    (λ out is. is ∙ held-of-each (λ i. parts_cmp (row_parts r i) (moment_parts c.args.moment.now)) (length (wholes_of r.days.now)) c.as_slice.result.now (c.as_slice.ensures.value ∙ c.in_ok-orders.ensures) c.args.operator) (λ e is. is)
