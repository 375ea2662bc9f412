use Rattle.std.proofs.Common.{◌∙◌, ap, arith, length, map, sym}
use Rattle.vx_base.specs.Masks.{rows_between}
use Rattle.vx_base.specs.TypeOf.{value_of}
use Rattle.vx_model.specs.Rows.{rows}
use Rattle.vx_pieces.proofs.RepeatLemmas.{repeated-empty, repeated-more}
use Rattle.vx_pieces.proofs.WithinLemmas.{between-none}
use Rattle.vx_array.proofs.array.ArrayRef.add_blocks.Goals as goal

pub returns-then-start-end : goal.returns-then-start-end
returns-then-start-end c =
    let all = rows c.args.self.now in
    let none = ap (rows_between all c.args.start) (sym c.if-start-end.true) ∙ between-none all c.args.start in
    repeated-empty (map value_of c.args.values.now.items) c.args.times (rows_between all c.args.start c.args.end) (omega (arith, ap length none))

pub loop-time-preserved : goal.loop-time-preserved
loop-time-preserved c = repeated-more (map value_of c.args.values.now.items) (rows_between (rows c.args.self.now) c.args.start c.args.end) c.loop-time._time c.in_ok-add_rows.ensures c.loop-time.invariant
