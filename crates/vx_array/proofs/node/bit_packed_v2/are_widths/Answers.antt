use Rattle.std.proofs.Common.{◌≡◌, ◌-◌, ◌∙◌, length, refl, sym, ap, arith, true}
use Rattle.std.specs.List.{list_all, range_with_len}
use Rattle.vx_model.specs.Rows.{rows, row_at, is_index}
use Rattle.vx_model.specs.WellFormed.{is_block_width}
use Rattle.vx_array.proofs.ChunkCounts.{all-next, all-fail}
use Rattle.vx_array.proofs.LinearRows.{offsets-linear}
use Rattle.vx_array.proofs.node.bit_packed_v2.are_widths.Goals as goal

pub loop-block-preserved : goal.loop-block-preserved
loop-block-preserved c = all-next (is_block_width c.args.most (rows c.args.offsets.now)) c.loop-block.block c.loop-block.invariant (sym c.is_block_width.ensures ∙ c.if-not-is_block_width.false)

pub returns-then-not-is_block_width : goal.returns-then-not-is_block_width
returns-then-not-is_block_width c =
    let os = rows c.args.offsets.now in
    let first : is_index (row_at os 0) 0 ≡ true = (λ i. is_index (sym c.integer_at.ensures i) 0) ∙ sym c.is_count.ensures ∙ c.if-not-is_count.false in
    let fails = all-fail (is_block_width c.args.most os) (length os - 1) c.loop-block.block (omega arith) (sym c.is_block_width.ensures ∙ c.if-not-is_block_width.true) in
    rw (first, fails) refl

pub returns : goal.returns
returns c =
    let os = rows c.args.offsets.now in
    let first : is_index (row_at os 0) 0 ≡ true = (λ i. is_index (sym c.integer_at.ensures i) 0) ∙ sym c.is_count.ensures ∙ c.if-not-is_count.false in
    let end : c.loop-block.block ≡ length os - 1 = omega arith in
    let each : list_all (is_block_width c.args.most os) (range_with_len 0 (length os - 1)) ≡ true = ap (λ n. list_all (is_block_width c.args.most os) (range_with_len 0 n)) (sym end) ∙ c.loop-block.invariant in
    rw (first, each) refl

pub returns-then-is_linear : goal.returns-then-is_linear
returns-then-is_linear c =
    let os = rows c.args.offsets.now in
    let first : is_index (row_at os 0) 0 ≡ true = (λ i. is_index (sym c.integer_at.ensures i) 0) ∙ sym c.is_count.ensures ∙ c.if-not-is_count.false in
    c.is_first_width.ensures ∙ sym (offsets-linear c.args.most os (c.is_linear.ensures c.if-is_linear.true) c.requires.some first)
