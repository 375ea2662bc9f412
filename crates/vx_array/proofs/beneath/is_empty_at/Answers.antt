use Rattle.std.proofs.Common.{length}
use Rattle.vx_model.specs.Rows.{rows}
use Rattle.vx_model.proofs.OffsetLemmas.{offset_step}
use Rattle.vx_array.proofs.DefaultLemmas.{empty-between}
use Rattle.vx_array.proofs.beneath.is_empty_at.Goals as goal

pub returns : goal.returns
returns c =
    let step = offset_step (length (rows c.args.elements.now)) (rows c.args.offsets.now) c.args.row c.requires.ends c.requires.in_range in
    rw (c.offset_at.ensures, c.offset_at-2.ensures) (empty-between (rows c.args.elements.now) _ _ step.rising step.within)
