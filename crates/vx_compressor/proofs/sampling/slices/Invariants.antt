use Rattle.std.proofs.Common.{◌≡◌}
use Rattle.vx_model.specs.Rows.{below}
use Rattle.vx_compressor.specs.Sampling.{partition_start, slice_of}
use Rattle.vx_compressor.proofs.sampling.slices.Given as goal

abbrev pub invariant-loop-place : goal.invariant-loop-place
invariant-loop-place l = record {
  start : l.start ≡ partition_start l.len l.count l.place;
  so_far : l.ranges.items ≡ below (slice_of l.len l.words) l.place;
}
