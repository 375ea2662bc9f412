use Rattle.vx_blocks.proofs.RowsRead.{words_read}
use Rattle.vx_blocks.proofs.unpacking.unpack.Goals as goal

pub returns : goal.returns
returns c = words_read c.args.packed.now c.args.width c.args.start c.args.end c.in_ok-rows.rows.items c.requires.width c.in_ok-rows.ensures
