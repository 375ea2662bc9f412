use Rattle.std.proofs.Common.{◌∙◌, ◌++◌, sym, arith}
use Rattle.vx_model.proofs.JoinedLemmas.{concatenated-next}
use Rattle.vx_values.proofs.byte_rows.joining.concatenated.Goals as goal

pub loop-row-preserved : goal.loop-row-preserved
loop-row-preserved c =
    c.in_ok-extend_from_slice.ensures.items ∙ (λ i. c.loop-row.invariant i ++ c.as_slice-in-loop-row.ensures i)
    ∙ sym (concatenated-next c.as_slice-row-items.result.now c.loop-row.row-index c.row-item.result (omega arith) c.row-item.is)
