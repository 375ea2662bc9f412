use Rattle.std.proofs.Common.{◌≡◌, ◌∙◌, ap, sym, take, false, arith}
use Rattle.std.specs.Prelude.{not, ◌&&◌}
use Rattle.vx_model.specs.Decoded.{zero_beneath}
use Rattle.vx_values.proofs.ZeroGroups.{zero_beneath-more}
use Rattle.vx_values.proofs.bits.part_is_zero_beneath.Goals as goal

pub loop-row-init : goal.loop-row-init
loop-row-init c = sym c.requires.before

pub loop-row-preserved : goal.loop-row-preserved
loop-row-preserved c = (λ i. c.loop-row.invariant i && c.is_zero_at-all.ensures i) ∙ sym (zero_beneath-more not false c.args.mask.now c.args.bits.now c.loop-row.row (omega arith) (omega arith))

pub returns : goal.returns
returns c =
    let end : c.loop-row.row ≡ c.args.end = omega arith in
    c.loop-row.invariant ∙ ap (λ k. zero_beneath not (take k c.args.mask.now) c.args.bits.now) end
