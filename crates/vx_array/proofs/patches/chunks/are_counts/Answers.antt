use Rattle.std.proofs.Common.{◌≡◌, ◌+◌, ◌*◌, ◌^◌, ◌∙◌, length, ap, sym, arith}
use Rattle.vx_model.specs.Rows.{rows, row_at, is_index, block_rows}
use Rattle.vx_model.specs.WellFormed.{indices_below}
use Rattle.vx_model.proofs.ChunkLemmas.{below-rises}
use Rattle.vx_array.proofs.ChunkCounts.{all-next, all-fail}
use Rattle.vx_array.proofs.patches.chunks.are_counts.Goals as goal

pub returns-then-not-is_count : goal.returns-then-not-is_count
returns-then-not-is_count c =
    let is = rows c.args.indices.now in
    let os = rows c.args.chunks.now in
    let chunk = c.loop-chunk.chunk in
    let count : c.place_behind-below.result ≡ indices_below (block_rows * chunk) is = c.place_behind-below.ensures ∙ ap (λ n. indices_below (block_rows * n) is) c.from.ensures in
    let fails = (λ i. is_index (sym c.integer_at.ensures i) (sym count i)) ∙ sym c.is_count.ensures ∙ c.if-not-is_count.true in
    sym (all-fail (λ n. is_index (row_at os n) (indices_below (block_rows * n) is)) (length os) chunk (omega (arith, c.loop-chunk-test.true, c.len-chunk-end.ensures)) fails)

pub loop-chunk-preserved : goal.loop-chunk-preserved
loop-chunk-preserved c =
    let is = rows c.args.indices.now in
    let os = rows c.args.chunks.now in
    let chunk = c.loop-chunk.chunk in
    let count : c.place_behind-below.result ≡ indices_below (block_rows * chunk) is = c.place_behind-below.ensures ∙ ap (λ n. indices_below (block_rows * n) is) c.from.ensures in
    let passes = (λ i. is_index (sym c.integer_at.ensures i) (sym count i)) ∙ sym c.is_count.ensures ∙ c.if-not-is_count.false in
    record {
      behind = omega (arith, count, below-rises 0 (2 ^ 65) (block_rows * chunk) (block_rows * (chunk + 1)) is c.requires.rising (omega arith));
      counted = all-next (λ n. is_index (row_at os n) (indices_below (block_rows * n) is)) chunk c.loop-chunk.invariant.counted passes;
    }
