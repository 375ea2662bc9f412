use Rattle.std.proofs.Common.{arith}
use Rattle.vx_base.specs.PlainValue.{truth}
use Rattle.vx_values.proofs.Cells.{length-flat_rows, each-all}
use Rattle.vx_values.proofs.bits.each_null_or.Goals as goal

pub returns : goal.returns
returns c =
    let long = length-flat_rows truth c.args.bits.now c.args.valid.now c.requires in
    each-all (truth c.args.bit) _ c.loop-row.row (omega (arith, long)) c.loop-row.invariant
