use Rattle.std.proofs.Common.{◌+◌, ◌-◌, take, drop, sym, ap, subst, arith}
use Rattle.vx_values.proofs.DifferenceRows.{part-long}
use Rattle.vx_stats.specs.Tally.{IsTallyAfter, SpansLast}
use Rattle.vx_stats.proofs.TallyLemmas.{left, left-parted, none-left, both-tallied, still-spans, none-tallied, one-spans}
use Rattle.vx_stats.proofs.integer.tally.tally_groups.Goals as goal

pub loop-start-init : goal.loop-start-init
loop-start-init g c =
    let whole = g.T.Integer.whole in
    record {
      few = omega (arith, ap (λ t. t.changes) c.of-tally.ensures);
      spans = subst (SpansLast whole) (sym c.of-tally.ensures) (one-spans whole c.args.first);
      rest = λ t. subst (λ b. IsTallyAfter whole b (left whole c.args.items.now c.args.bits.now 0) t) c.of-tally.ensures;
    }

pub tally_group-tally-requires-clause-few : goal.tally_group-tally-requires-clause-few
tally_group-tally-requires-clause-few g c =
    let items = c.args.items.now in
    omega (arith, part-long items c.loop-start.start c.min.result (omega (arith, c.min.ensures)), c.min.ensures, c.loop-start.invariant.few, c.requires.few)

pub tally_group-tally-requires-clause-last : goal.tally_group-tally-requires-clause-last
tally_group-tally-requires-clause-last g c = c.loop-start.invariant.spans

pub loop-start-preserved : goal.loop-start-preserved
loop-start-preserved g c =
    let whole = g.T.Integer.whole in
    let items = c.args.items.now in
    let bits = c.args.bits.now in
    let start = c.loop-start.start in
    let n = c.min.result in
    let part = left whole (take (start + n - start) (drop start items)) (take (start + n - start) (drop start bits)) 0 in
    let rest = left whole items bits (start + n) in
    let before = c.loop-start.tally in
    let now = c.tally_group-tally.result in
    let here = left-parted whole items bits start n c.requires.bits in
    record {
      few = omega (arith, c.tally_group-tally.ensures.most, part-long items start n (omega (arith, c.min.ensures)), c.loop-start.invariant.few);
      spans = still-spans whole part before now c.loop-start.invariant.spans c.tally_group-tally.ensures.tally;
      rest = λ t after. c.loop-start.invariant.rest t (subst (λ l. IsTallyAfter whole before l t) (sym here) (both-tallied whole part rest before now t c.tally_group-tally.ensures.tally after));
    }

pub returns : goal.returns
returns g c =
    let whole = g.T.Integer.whole in
    let now = c.loop-start.tally in
    let none = none-left whole c.args.items.now c.args.bits.now c.loop-start.start (omega (arith, c.requires.bits)) in
    c.loop-start.invariant.rest now (subst (λ l. IsTallyAfter whole now l now) (sym none) (none-tallied whole now))
