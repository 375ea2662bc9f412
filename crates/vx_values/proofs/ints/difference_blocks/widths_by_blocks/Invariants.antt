use Rattle.std.proofs.Common.{◌≡◌, ◌*◌, length, map, min, replicate, take, true}
use Rattle.std.specs.Prelude.{unwrap_or}
use Rattle.vx_base.specs.Integers.{bits_of}
use Rattle.vx_base.specs.Packed.{kept_rows}
use Rattle.vx_blocks.specs.Histogram.{IsHistogram}
use Rattle.vx_values.specs.Differences.{difference_bits}
use Rattle.vx_values.proofs.ints.difference_blocks.widths_by_blocks.Given as goal

abbrev pub invariant-loop-block : goal.invariant-loop-block
invariant-loop-block g l =
    let bits = difference_bits g.T.Integer.kind (g.T.Integer.whole l.reference) (map g.T.Integer.whole l.items) in
    let rows = kept_rows 64 bits (unwrap_or l.valid (replicate (length (map g.T.Integer.whole l.items)) true)) in
    record {
      counts : IsHistogram (bits_of g.D.Integer.kind) (take (min (1024 * l.block) (length l.items)) rows) l.counts.items;
      room : length l.buffer.items ≡ 1024;
    }
