use Rattle.std.proofs.Common.{◌∙◌, map, sym, ap, subst, arith}
use Rattle.std.proofs.lemmas.List.{drop_all}
use Rattle.vx_stats.proofs.DistinctLemmas.{RunsSoFar, runs-begun, runs-next, rising-distinct}
use Rattle.vx_stats.proofs.integer.rising.runs_of_all.Goals as goal

pub loop-row-init : goal.loop-row-init
loop-row-init g c =
    record {
      few = omega arith;
      so_far = runs-begun g.T.Integer.whole c.args.items.now c.index-items-0.result (sym c.if-is_empty.ensures) c.index-items-0.is;
    }

pub loop-row-preserved : goal.loop-row-preserved
loop-row-preserved g c =
    let items = c.args.items.now in
    let above = sym c.is_less.ensures ∙ c.if-is_less.false in
    record {
      few = omega (arith, c.change-runs.ensures.most, c.loop-row.invariant.few);
      so_far = runs-next g.T.Integer.whole items c.loop-row.row c.loop-row.last c.index-items-row.result c.loop-row.runs c.change-runs.result (map g.T.Integer.whole items) (omega arith) c.index-items-row.is above c.change-runs.ensures.value c.loop-row.invariant.so_far;
    }

pub returns : goal.returns
returns g c =
    let whole = g.T.Integer.whole in
    let items = c.args.items.now in
    let none = ap (map whole) (drop_all c.loop-row.row items (omega arith)) in
    let all = subst (λ l. RunsSoFar (whole c.loop-row.last) c.loop-row.runs l (map whole items)) none c.loop-row.invariant.so_far in
    omega (arith, all.count) ∙ rising-distinct (map whole items) (all.rising tt)
