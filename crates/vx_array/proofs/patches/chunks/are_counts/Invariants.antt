use Rattle.std.proofs.Common.{◌≡◌, ◌≤◌, ◌*◌, true}
use Rattle.std.specs.List.{list_all, range_with_len}
use Rattle.vx_model.specs.Rows.{rows, row_at, is_index, block_rows}
use Rattle.vx_model.specs.WellFormed.{indices_below}
use Rattle.vx_array.proofs.patches.chunks.are_counts.Given as goal

abbrev pub invariant-loop-chunk : goal.invariant-loop-chunk
invariant-loop-chunk l =
    record {
      behind : l.below ≤ indices_below (block_rows * l.chunk) (rows l.fn.indices);
      counted : list_all (λ c. is_index (row_at (rows l.fn.chunks) c) (indices_below (block_rows * c) (rows l.fn.indices))) (range_with_len 0 l.chunk) ≡ true;
    }
