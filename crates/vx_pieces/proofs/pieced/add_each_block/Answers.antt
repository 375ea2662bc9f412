use Rattle.vx_pieces.proofs.RepeatLemmas.{repeated-more}
use Rattle.vx_pieces.proofs.pieced.add_each_block.Goals as goal

pub loop-time-preserved : goal.loop-time-preserved
loop-time-preserved g c = repeated-more c.args.all.now.items c.args.block.now c.loop-time._time c.in_ok-extend_from_slice.ensures.items c.loop-time.invariant
