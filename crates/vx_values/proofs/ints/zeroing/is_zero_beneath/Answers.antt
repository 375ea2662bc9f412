use Rattle.std.proofs.Common.{◌∙◌, ◌+◌, sym, map}
use Rattle.vx_model.specs.Decoded.{is_zero}
use Rattle.vx_values.proofs.ZeroGroups.{zero_beneath-part}
use Rattle.vx_values.proofs.ints.zeroing.is_zero_beneath.Goals as goal

pub returns-then-not-part_is_zero_beneath : goal.returns-then-not-part_is_zero_beneath
returns-then-not-part_is_zero_beneath g c =
    sym (zero_beneath-part is_zero c.args.bits.now (map g.T.Integer.whole c.args.items.now) (c.loop-start.start + c.min.result) (sym c.part_is_zero_beneath.ensures ∙ c.if-not-part_is_zero_beneath.true))

pub loop-start-preserved : goal.loop-start-preserved
loop-start-preserved g c = sym c.part_is_zero_beneath.ensures ∙ c.if-not-part_is_zero_beneath.false
