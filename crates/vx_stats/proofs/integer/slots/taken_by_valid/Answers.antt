use Rattle.std.proofs.Common.{subst, arith, false, get_or, ◌+◌}
use Rattle.vx_stats.proofs.SlotLemmas.{TakenBut, none-seen, one-more, some-seen}
use Rattle.vx_stats.proofs.TallyLemmas.{left, left-next}
use Rattle.vx_stats.proofs.integer.slots.taken_by_valid.Goals as goal

pub loop-row-init : goal.loop-row-init
loop-row-init g c = none-seen g.T.Integer.kind (left g.T.Integer.whole c.args.items.now c.args.bits.now 0) c.in_ok-slots.slots (c.in_ok-slots.ensures g.T.Integer.kind)

pub loop-row-preserved : goal.loop-row-preserved
loop-row-preserved g c =
    let whole = g.T.Integer.whole in
    let kind = g.T.Integer.kind in
    let items = c.args.items.now in
    let bits = c.args.bits.now in
    let row = c.loop-row.row in
    let x = c.index-items-row.result in
    let all = left whole items bits 0 in
    let next = left-next whole items bits row x (omega arith) c.requires.bits c.index-items-row.is in
    one-more kind (get_or bits row false) all (whole x) (left whole items bits (row + 1)) c.loop-row.slots c.take.new.self c.take.ensures (subst (λ l. TakenBut kind all l c.loop-row.slots) next c.loop-row.invariant)

pub returns : goal.returns
returns g c = some-seen g.T.Integer.kind (left g.T.Integer.whole c.args.items.now c.args.bits.now 0) (left g.T.Integer.whole c.args.items.now c.args.bits.now c.loop-row.row) c.loop-row.slots c.loop-row.invariant

pub returns-then-slots-enough : goal.returns-then-slots-enough
returns-then-slots-enough g c = some-seen g.T.Integer.kind (left g.T.Integer.whole c.args.items.now c.args.bits.now 0) (left g.T.Integer.whole c.args.items.now c.args.bits.now c.loop-row.row) c.loop-row.slots c.loop-row.invariant
