use Rattle.std.proofs.Common.{◌∙◌, ◌+◌, sym}
use Rattle.std.specs.Prelude.{not}
use Rattle.vx_values.proofs.ZeroGroups.{zero_beneath-part}
use Rattle.vx_values.proofs.bits.are_zero_beneath.Goals as goal

pub returns-then-not-part_is_zero_beneath : goal.returns-then-not-part_is_zero_beneath
returns-then-not-part_is_zero_beneath c =
    sym (zero_beneath-part not c.args.mask.now c.args.bits.now (c.loop-start.start + c.min.result) (sym c.part_is_zero_beneath.ensures ∙ c.if-not-part_is_zero_beneath.true))

pub loop-start-preserved : goal.loop-start-preserved
loop-start-preserved c = sym c.part_is_zero_beneath.ensures ∙ c.if-not-part_is_zero_beneath.false
