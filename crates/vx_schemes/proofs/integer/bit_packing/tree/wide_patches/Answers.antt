use Rattle.vx_values.specs.IntsOf.{ptype_of, wholes_of}
use Rattle.vx_schemes.specs.BitPacking.Rising.{wide_rows-ascend}
use Rattle.vx_schemes.proofs.integer.bit_packing.tree.wide_patches.Goals as goal

pub patches_of-requires : goal.patches_of-requires
patches_of-requires c = rw c.in_ok-wide.ensures (wide_rows-ascend (ptype_of c.args.values.now) c.args.width (wholes_of c.args.values.now) c.args.valid.now)
