use Rattle.std.proofs.Common.{true, map, drop, ap, subst, arith, ◌∷◌, ◌+◌, ◌∙◌, sym}
use Rattle.std.proofs.lemmas.List.{drop_more}
use Rattle.vx_stats.proofs.SlotLemmas.{TakenBut, none-seen, one-more, some-seen}
use Rattle.vx_stats.proofs.integer.slots.taken_by_all.Goals as goal

pub loop-row-init : goal.loop-row-init
loop-row-init g c = none-seen g.T.Integer.kind (map g.T.Integer.whole c.args.items.now) c.in_ok-slots.slots (c.in_ok-slots.ensures g.T.Integer.kind)

pub loop-row-preserved : goal.loop-row-preserved
loop-row-preserved g c =
    let whole = g.T.Integer.whole in
    let items = c.args.items.now in
    let all = map whole items in
    let x = c.index-items-row.result in
    let rest = drop (c.loop-row.row + 1) items in
    let next = ap (map whole) (drop_more items c.loop-row.row x (omega arith) ∙ ap (λ y. y ∷ rest) (sym c.index-items-row.is)) in
    one-more g.T.Integer.kind true all (whole x) (map whole rest) c.loop-row.slots c.take.new.self c.take.ensures (subst (λ left. TakenBut g.T.Integer.kind all left c.loop-row.slots) next c.loop-row.invariant)

pub returns : goal.returns
returns g c = some-seen g.T.Integer.kind (map g.T.Integer.whole c.args.items.now) (map g.T.Integer.whole (drop c.loop-row.row c.args.items.now)) c.loop-row.slots c.loop-row.invariant

pub returns-then-slots-enough : goal.returns-then-slots-enough
returns-then-slots-enough g c = some-seen g.T.Integer.kind (map g.T.Integer.whole c.args.items.now) (map g.T.Integer.whole (drop c.loop-row.row c.args.items.now)) c.loop-row.slots c.loop-row.invariant
