use Rattle.std.proofs.Common.{◌≡◌, ◌<◌, ◌∙◌, ap, sym, map, length, take, arith, pos}
use Rattle.std.specs.Prelude.{◌&&◌}
use Rattle.std.proofs.lemmas.List.{length-map}
use Rattle.vx_model.specs.Decoded.{zero_beneath, is_zero}
use Rattle.vx_values.proofs.ZeroGroups.{zero_beneath-more}
use Rattle.vx_values.proofs.ints.zeroing.part_is_zero_beneath.Goals as goal

pub loop-row-init : goal.loop-row-init
loop-row-init g c = sym c.requires.before

pub loop-row-preserved : goal.loop-row-preserved
loop-row-preserved g c =
    let wholes = map g.T.Integer.whole c.args.items.now in
    let within : c.loop-row.row < length wholes = omega (arith, length-map c.args.items.now g.T.Integer.whole) in
    (λ i. c.loop-row.invariant i && c.is_zero_at-all.ensures i) ∙ sym (zero_beneath-more is_zero (pos 0) c.args.bits.now wholes c.loop-row.row (omega arith) within)

pub returns : goal.returns
returns g c =
    let end : c.loop-row.row ≡ c.args.end = omega arith in
    c.loop-row.invariant ∙ ap (λ k. zero_beneath is_zero (take k c.args.bits.now) (map g.T.Integer.whole c.args.items.now)) end
