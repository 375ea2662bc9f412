use Rattle.std.proofs.Common.{◌<◌, ◌^◌, length, arith}
use Rattle.vx_base.specs.Integers.{natural_bits}
use Rattle.vx_base.specs.Packed.{block_count}
use Rattle.vx_values.specs.IntsOf.{wholes_of}
use Rattle.vx_values.proofs.BlockOffsets.{offsets_are_words}
use Rattle.vx_values.proofs.ints.Ints.unpacked_blocks.Goals as goal

pub words-requires : goal.words-requires
words-requires c =
    let few : length c.args.packed.now < 2 ^ 64 = omega arith in
    offsets_are_words (natural_bits c.args.ptype) (wholes_of c.args.offsets.now) (block_count c.args.len) (length c.args.packed.now) c.requires.widths c.requires.blocks c.requires.sized few
