use Rattle.vx_base.specs.Integers.{bits_of}
use Rattle.vx_blocks.proofs.Counts.{by_zeros-push}
use Rattle.vx_blocks.proofs.widths.count_row.Goals as goal

pub returns : goal.returns
returns g c rows h =
    rw (← c.to_bits.ensures.value) (by_zeros-push (bits_of g.T.Integer.kind) rows c.args.counts.now c.to_bits.result c.args.valid h c.told-counts c.to_bits.type_inv c.to_bits.ensures.small)
