use Rattle.std.proofs.Common.{◌∙◌, arith, sym}
use Rattle.vx_base.specs.TypeOf.{value_of}
use Rattle.vx_model.specs.Rows.{rows}
use Rattle.vx_rows.proofs.ConstantLemmas.{equal-all, equal-first, equal-more, equal-none, equal-not}
use Rattle.vx_rows.proofs.constancy.values_are_equal.Goals as goal

pub returns-then-len-eq0 : goal.returns-then-len-eq0
returns-then-len-eq0 c = equal-none (rows c.args.tree.now) (omega (arith, c.len-len.ensures))

pub loop-row-init : goal.loop-row-init
loop-row-init c = equal-first (value_of c.in_ok-first.first) (rows c.args.tree.now) (omega (arith, c.len-len.ensures)) c.in_ok-first.ensures

pub loop-row-preserved : goal.loop-row-preserved
loop-row-preserved c =
    equal-more (value_of c.in_ok-first.first) (rows c.args.tree.now) c.loop-row.row (omega (arith, c.len-len.ensures)) c.loop-row.invariant
    (sym c.in_ok-equal.ensures ∙ c.if-not-equal.false)

pub returns-then-not-equal : goal.returns-then-not-equal
returns-then-not-equal c =
    equal-not (value_of c.in_ok-first.first) (rows c.args.tree.now) c.loop-row.row (omega arith) (omega (arith, c.len-len.ensures)) c.in_ok-first.ensures
    (sym c.in_ok-equal.ensures ∙ c.if-not-equal.true)

pub returns : goal.returns
returns c = equal-all (value_of c.in_ok-first.first) (rows c.args.tree.now) c.loop-row.row (omega (arith, c.len-len.ensures)) c.in_ok-first.ensures (omega (arith, c.len-len.ensures)) c.loop-row.invariant
