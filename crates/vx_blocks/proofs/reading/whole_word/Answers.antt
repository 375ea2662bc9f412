use Rattle.vx_blocks.proofs.Windows.{eight-bytes}
use Rattle.vx_blocks.proofs.reading.whole_word.Goals as goal

pub returns : goal.returns
returns c = eight-bytes c.args.packed.now c.args.byte c.from_le_bytes.result (λ k. (c.type_inv.packed k).fits) c.requires c.from_le_bytes.ensures
