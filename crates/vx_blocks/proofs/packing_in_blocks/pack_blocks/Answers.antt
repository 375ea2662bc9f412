use Rattle.std.proofs.Math.Nat as nat
use Rattle.vx_blocks.proofs.Blocks.{bits_of-most}
use Rattle.vx_blocks.proofs.packing_in_blocks.pack_blocks.Goals as goal

pub pack_blocks_of-requires-clause-within : goal.pack_blocks_of-requires-clause-within
pack_blocks_of-requires-clause-within g c = rw c.as_slice-2.ensures (λ block below. nat.le_trans (c.requires.within block below) (bits_of-most g.T.Integer.kind))
