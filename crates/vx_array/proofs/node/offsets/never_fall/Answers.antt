use Rattle.std.proofs.Common.{◌∙◌, sym, arith}
use Rattle.vx_model.specs.Rows.{rows}
use Rattle.vx_array.proofs.Falls.{falls-stop}
use Rattle.vx_array.proofs.node.offsets.never_fall.Goals as goal

pub returns-then-not-is_at_most : goal.returns-then-not-is_at_most
returns-then-not-is_at_most c = sym (falls-stop (rows c.args.offsets.now) c.loop-place.place (omega arith) (omega arith) (sym c.is_at_most.ensures ∙ c.if-not-is_at_most.true))
