use Rattle.std.proofs.Common.{◌∙◌, sym, [], arith}
use Rattle.vx_model.specs.Decoded.{is_empty}
use Rattle.vx_model.proofs.ZeroLemmas.{zero_beneath-next, zero_beneath-stop}
use Rattle.vx_values.proofs.byte_rows.are_zero_beneath.Goals as goal

pub returns-then-not-is_zero_at : goal.returns-then-not-is_zero_at
returns-then-not-is_zero_at c =
    sym (zero_beneath-stop is_empty [] c.args.mask.now c.args.rows.now c.loop-row.row (omega arith) (omega arith) (sym c.is_zero_at.ensures ∙ c.if-not-is_zero_at.true))

pub loop-row-preserved : goal.loop-row-preserved
loop-row-preserved c =
    zero_beneath-next is_empty [] c.args.mask.now c.args.rows.now c.loop-row.row (omega arith) (omega arith) c.loop-row.invariant (sym c.is_zero_at.ensures ∙ c.if-not-is_zero_at.false)
