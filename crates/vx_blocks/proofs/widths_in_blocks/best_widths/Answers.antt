use Rattle.std.proofs.Common.{◌∙◌, ap, length}
use Rattle.vx_base.specs.Integers.{bits_in}
use Rattle.vx_base.specs.Packed.{block_count}
use Rattle.vx_blocks.proofs.Rows.{kept_rows-length}
use Rattle.vx_blocks.proofs.widths_in_blocks.best_widths.Goals as goal

pub returns-clause-blocks : goal.returns-clause-blocks
returns-clause-blocks g c =
    ap length c.from_vec.ensures ∙ c.in_ok-widths.ensures.size
    ∙ ap block_count (kept_rows-length (bits_in g.T.Integer.kind) g.T.Integer.whole 64 c.args.values.now c.as_slice.result.now (ap length c.as_slice.ensures ∙ c.requires))
