use Rattle.std.proofs.Common.{◌≡◌, ◌∙◌, ◌+◌, ◌+ℤ◌, pos, map, take, ap, arith}
use Rattle.std.proofs.lemmas.List.{length-map, take_all}
use Rattle.vx_base.specs.Undelta.{total}
use Rattle.vx_base.specs.Wrapping.{wrap}
use Rattle.vx_blocks.proofs.DeltaSums.{sums, sums-none, sums-next}
use Rattle.vx_blocks.proofs.Sequences.{whole-at}
use Rattle.vx_blocks.proofs.Written.{written-more}
use Rattle.vx_blocks.proofs.undeltas.undelta_part.Goals as goal

pub loop-k-init : goal.loop-k-init
loop-k-init g c =
    let whole = g.T.Integer.whole in
    record {
      last = sums-none g.T.Integer.kind (whole c.args.before) (map whole c.args.deltas.now) c.to_whole-before.ensures.held;
      rows = λ j h. absurd (omega arith);
    }

pub loop-k-preserved : goal.loop-k-preserved
loop-k-preserved g c =
    let whole = g.T.Integer.whole in
    let kind = g.T.Integer.kind in
    let ds = map whole c.args.deltas.now in
    let k = c.loop-k.k in
    let delta = whole-at whole c.args.deltas.now k c.index-deltas-k.result c.loop-k-test.true c.index-deltas-k.is in
    let made = sums-next kind (whole c.args.before) ds k (whole c.loop-k.last) (whole c.index-deltas-k.result) (whole c.sum-last.result) (omega (arith, length-map c.args.deltas.now whole)) c.loop-k.invariant.last delta c.sum-last.ensures in
    record {
      last = made;
      rows = written-more whole (pos 0) (λ j. sums kind (whole c.args.before) ds (j + 1)) c.loop-k.rows k c.sum-last.result (k + 1) (omega (arith, c.loop-k.auto.rows, c.requires)) made c.loop-k.invariant.rows (omega arith);
    }

pub returns-clause-last : goal.returns-clause-last
returns-clause-last g c =
    let ds = map g.T.Integer.whole c.args.deltas.now in
    let all : take c.loop-k.k ds ≡ ds = take_all c.loop-k.k ds (omega (arith, length-map c.args.deltas.now g.T.Integer.whole)) in
    c.loop-k.invariant.last ∙ ap (λ zs. wrap g.T.Integer.kind (g.T.Integer.whole c.args.before +ℤ total zs)) all
