use Rattle.std.proofs.Common.{arith}
use Rattle.vx_base.specs.PlainValue.{bytes}
use Rattle.vx_values.proofs.Cells.{length-flat_rows, each-all}
use Rattle.vx_values.proofs.byte_rows.each_null_or.Goals as goal

pub returns : goal.returns
returns c =
    let long = length-flat_rows bytes c.args.rows.now c.args.valid.now c.requires in
    each-all (bytes c.args.value.now) _ c.loop-row.row (omega (arith, long)) c.loop-row.invariant
