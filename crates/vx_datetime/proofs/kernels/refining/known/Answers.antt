use Rattle.std.proofs.Common.{◌≡◌, ◌<◌, ◌∙◌, ap, arith, length, map, pos, subst, sym, true}
use Rattle.std.proofs.lemmas.List.{get_or-map}
use Rattle.vx_base.specs.Integers.{lies_in}
use Rattle.vx_datetime.specs.Orders.{whole_in}
use Rattle.vx_datetime.proofs.Refinings.{in-front-or}
use Rattle.vx_datetime.proofs.kernels.refining.known.Goals as goal

pub loop-row-init : goal.loop-row-init
loop-row-init g c = λ i s b. absurd (omega (arith, s, b))

pub loop-row-preserved : goal.loop-row-preserved
loop-row-preserved g c =
    let whole = g.T.Integer.whole in
    let items = c.args.items.now in
    let row = c.loop-row.row in
    let x = c.index-items-row.result in
    let there : row < length items = omega arith in
    let item : whole x ≡ whole_in (map whole items) row = ap whole c.index-items-row.is ∙ sym (get_or-map whole items row x (pos 0) there) in
    let here : lies_in g.T.Integer.kind (whole_in (map whole items) row) ≡ true = ap (lies_in g.T.Integer.kind) (sym item) ∙ c.to_whole-whole.ensures.held in
    λ i s b. in-front-or i row (c.loop-row.invariant i s) (λ k. let same : row ≡ i = omega (arith, b, k) in subst (λ j. lies_in g.T.Integer.kind (whole_in (map whole items) j) ≡ true) same here)

pub returns : goal.returns
returns g c = λ i s b. c.loop-row.invariant i s (omega (arith, b))
