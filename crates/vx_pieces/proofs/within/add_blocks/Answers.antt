use Rattle.std.proofs.Common.{◌≡◌, ◌++◌, ◌∙◌, ap, arith, subst, sym}
use Rattle.vx_base.specs.Masks.{rows_between}
use Rattle.vx_base.specs.PlainValue.{null}
use Rattle.vx_model.specs.Rows.{masked_rows}
use Rattle.vx_pieces.specs.Pieces.{Gives, repeated}
use Rattle.vx_pieces.proofs.RepeatLemmas.{repeated-none}
use Rattle.vx_pieces.proofs.WithinLemmas.{between-none, gives-block, gives-none}
use Rattle.vx_pieces.proofs.within.add_blocks.Goals as goal

pub returns-then-start-end : goal.returns-then-start-end
returns-then-start-end c = λ values rows e g.
    let masked = masked_rows c.args.mask.now values in
    let none = ap (rows_between masked c.args.start) (sym c.if-start-end.true) ∙ between-none masked c.args.start in
    gives-none c.args.out.now.items values rows (repeated c.args.times (rows_between masked c.args.start c.args.end)) (ap (repeated c.args.times) none ∙ repeated-none c.args.times) g

pub loop-time-preserved : goal.loop-time-preserved
loop-time-preserved c = λ values rows e g.
    let block = rows_between (masked_rows c.args.mask.now values) c.args.start c.args.end in
    let time = c.loop-time._time in
    gives-block c.add_part.new.out.items values rows block time (c.in_ok-add_part.ensures values (rows ++ repeated time block) e (c.loop-time.invariant values rows e g))

pub returns : goal.returns
returns c = λ values rows e g.
    let last : c.loop-time._time ≡ c.args.times = omega (arith, c.loop-time.auto._time-end, c.loop-time-test.false) in
    subst (λ time. Gives null c.loop-time.out.items values (rows ++ repeated time (rows_between (masked_rows c.args.mask.now values) c.args.start c.args.end))) last (c.loop-time.invariant values rows e g)
