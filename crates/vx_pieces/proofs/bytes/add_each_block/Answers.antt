use Rattle.vx_pieces.proofs.RepeatLemmas.{repeated-more}
use Rattle.vx_pieces.proofs.bytes.add_each_block.Goals as goal

pub loop-time-preserved : goal.loop-time-preserved
loop-time-preserved c = repeated-more c.args.all.now.items c.args.block.now c.loop-time._time c.in_ok-add_copied.ensures c.loop-time.invariant
