use Rattle.std.proofs.Common.{[], ◌∙◌, map, arith}
use Rattle.std.proofs.lemmas.List.{length-map}
use Rattle.vx_base.specs.PlainValue.{int}
use Rattle.vx_values.proofs.Placed.{filled-none, filled-room, filled-more, filled-all}
use Rattle.vx_values.proofs.byte_rows.filling.fill_runs.Goals as goal

pub loop-run-init : goal.loop-run-init
loop-run-init g c = filled-none (map int (map g.C.Integer.whole c.args.ends.now)) c.args.rows.now [] c.in_ok-all.all.items c.in_ok-all.ensures.items

pub overflow_sub-count : goal.overflow_sub-count
overflow_sub-count g c =
    let zs = map g.C.Integer.whole c.args.ends.now in
    let room = filled-room (map int zs) c.args.rows.now [] c.loop-run.all.items c.loop-run.run c.end_at.result c.requires
    (omega (arith, length-map zs int, length-map c.args.ends.now g.C.Integer.whole, c.loop-run-test.true)) c.end_at.ensures c.loop-run.invariant in
    omega arith

pub loop-run-preserved : goal.loop-run-preserved
loop-run-preserved g c =
    let zs = map g.C.Integer.whole c.args.ends.now in
    let ends = map int zs in
    filled-more ends c.args.rows.now [] c.loop-run.all.items c.add_copies.new.all.items c.bytes_or_none-row.result.now c.loop-run.run c.end_at.result c.len.result c.requires
    (omega (arith, length-map zs int, length-map c.args.ends.now g.C.Integer.whole, c.loop-run-test.true)) c.end_at.ensures (omega (arith, c.len.ensures)) c.bytes_or_none-row.ensures c.in_ok-add_copies.ensures c.loop-run.invariant

pub returns : goal.returns
returns g c =
    let zs = map g.C.Integer.whole c.args.ends.now in
    let ends = map int zs in
    c.from_vec.ensures ∙ filled-all ends c.args.rows.now [] c.loop-run.all.items c.loop-run.run (omega (arith, length-map zs int, length-map c.args.ends.now g.C.Integer.whole, c.loop-run-test.false)) c.loop-run.invariant
