use Rattle.vx_blocks.proofs.Windows.{short-more}
use Rattle.vx_blocks.proofs.reading.short_word.Goals as goal

pub loop-i-preserved : goal.loop-i-preserved
loop-i-preserved c = short-more c.args.bytes.now c.loop-i.i c.loop-i.word (λ k. (c.type_inv.bytes k).fits) c.requires c.loop-i-test.true c.loop-i.invariant
