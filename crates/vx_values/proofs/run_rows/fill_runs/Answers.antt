use Rattle.std.proofs.Common.{map, arith}
use Rattle.std.proofs.lemmas.List.{length-map}
use Rattle.vx_base.specs.PlainValue.{int}
use Rattle.vx_values.proofs.Placed.{filled-none, filled-resized, filled-all}
use Rattle.vx_values.proofs.run_rows.fill_runs.Goals as goal

pub loop-run-init : goal.loop-run-init
loop-run-init g c = filled-none (map int (map g.C.Integer.whole c.args.ends.now)) c.args.items.now c.args.other c.in_ok-rows.rows.items c.in_ok-rows.ensures.items

pub loop-run-preserved : goal.loop-run-preserved
loop-run-preserved g c =
    let zs = map g.C.Integer.whole c.args.ends.now in
    let ends = map int zs in
    filled-resized ends c.args.items.now c.args.other c.loop-run.rows.items c.resize.new.self.items c.item_at.result c.loop-run.run c.end_at.result c.loop-run.rows.len c.requires
    (omega (arith, length-map zs int, length-map c.args.ends.now g.C.Integer.whole, c.loop-run-test.true)) c.end_at.ensures (omega arith) c.item_at.ensures c.in_ok-resize.ensures.items c.loop-run.invariant

pub returns : goal.returns
returns g c =
    let zs = map g.C.Integer.whole c.args.ends.now in
    let ends = map int zs in
    filled-all ends c.args.items.now c.args.other c.loop-run.rows.items c.loop-run.run (omega (arith, length-map zs int, length-map c.args.ends.now g.C.Integer.whole, c.loop-run-test.false)) c.loop-run.invariant
