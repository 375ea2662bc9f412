use Rattle.std.proofs.Common.{◌∙◌, sym, arith}
use Rattle.vx_file.proofs.TypeSteps.{nests-next, nests-stop}
use Rattle.vx_file.proofs.nesting.+nests.Goals as goal

pub each_nests-returns-then-not-nests : goal.each_nests-returns-then-not-nests
each_nests-returns-then-not-nests t c =
    nests-stop c.as_slice-dtype-items.result.now c.loop-dtype.dtype-index c.loop-dtype-item.result c.args.limit _ (omega arith) c.loop-dtype-item.is (sym c.nests.ensures ∙ c.if-not-nests.true) c.loop-dtype.invariant

pub each_nests-loop-dtype-preserved : goal.each_nests-loop-dtype-preserved
each_nests-loop-dtype-preserved t c =
    nests-next c.as_slice-dtype-items.result.now c.loop-dtype.dtype-index c.loop-dtype-item.result c.args.limit _ (omega arith) c.loop-dtype-item.is (sym c.nests.ensures ∙ c.if-not-nests.false) c.loop-dtype.invariant
