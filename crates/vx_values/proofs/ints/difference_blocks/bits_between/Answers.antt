use Rattle.std.proofs.Common.{◌∙◌, true, replicate, sym, ap}
use Rattle.std.specs.Prelude.{unwrap_or}
use Rattle.vx_base.specs.Masks.{rows_between}
use Rattle.vx_values.proofs.DifferenceBlocks.{part-all}
use Rattle.vx_values.proofs.ints.difference_blocks.bits_between.Goals as goal

pub returns-in_ok-vec-in-None : goal.returns-in_ok-vec-in-None
returns-in_ok-vec-in-None c =
    c.from_bits-in-None.ensures ∙ c.in_ok-vec-in-None.ensures.items_if_clones_equal (λ b h. h) ∙ sym (part-all c.args.len c.args.start c.args.end c.requires.order c.requires.room)
    ∙ ap (λ valid. rows_between (unwrap_or valid (replicate c.args.len true)) c.args.start c.args.end) (sym c.in-None.is)
