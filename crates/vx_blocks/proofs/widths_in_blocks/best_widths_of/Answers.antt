use Rattle.std.proofs.Common.{◌≡◌, ◌+◌, ◌-◌, ◌*◌, ◌∙◌, length, map, arith, ap, sym, subst}
use Rattle.vx_base.specs.Integers.{bits_in}
use Rattle.vx_base.specs.Packed.{kept_rows, block_count}
use Rattle.vx_blocks.specs.InBlocks.{IsBestOf}
use Rattle.vx_blocks.proofs.Blocks.{kept_rows-block, kept_rows-slices}
use Rattle.vx_blocks.proofs.BlockWidths.{BestSoFar, best-more}
use Rattle.vx_blocks.proofs.Rows.{kept_rows-length}
use Rattle.vx_blocks.proofs.widths_in_blocks.best_widths_of.Goals as goal

pub loop-block-init : goal.loop-block-init
loop-block-init g c = record { size = ap length c.in_ok-widths.ensures.items; each = λ block below. absurd (omega arith) }

pub loop-block-preserved : goal.loop-block-preserved
loop-block-preserved g c =
    let f = bits_in g.T.Integer.kind in
    let h = g.T.Integer.whole in
    let xs = c.args.values.now in
    let rows = kept_rows 64 (map f (map h xs)) c.args.valid.now in
    let block = c.loop-block.block in
    let part = 1024 * block + c.min.result - 1024 * block in
    let slices = kept_rows-slices f h 64 xs c.args.valid.now block part c.requires (omega (arith, c.min.ensures)) in
    let best = subst (λ l. IsBestOf g.T.Integer.kind l c.best_width_of-width.result) (slices ∙ sym (kept_rows-block 64 (map f (map h xs)) c.args.valid.now block)) c.best_width_of-width.ensures in
    subst (BestSoFar g.T.Integer.kind rows (block + 1)) (sym c.in_ok-push.ensures.items) (best-more g.T.Integer.kind rows block c.loop-block.widths.items c.best_width_of-width.result c.loop-block.invariant best)

pub returns : goal.returns
returns g c =
    let rows = kept_rows 64 (map (bits_in g.T.Integer.kind) (map g.T.Integer.whole c.args.values.now)) c.args.valid.now in
    let len = kept_rows-length (bits_in g.T.Integer.kind) g.T.Integer.whole 64 c.args.values.now c.args.valid.now c.requires in
    let end : c.loop-block.block ≡ block_count (length rows) = omega (arith, len, c.div_ceil-blocks.ensures) in
    record {
      size = c.loop-block.invariant.size ∙ end;
      each = λ block below. c.loop-block.invariant.each block (omega (arith, c.loop-block.invariant.size));
    }
