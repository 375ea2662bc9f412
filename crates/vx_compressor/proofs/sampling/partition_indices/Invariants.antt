use Rattle.std.proofs.Common.{◌≡◌}
use Rattle.vx_model.specs.Rows.{below}
use Rattle.vx_compressor.specs.Sampling.{partition, partition_start}
use Rattle.vx_compressor.proofs.sampling.partition_indices.Given as goal

abbrev pub invariant-loop-place : goal.invariant-loop-place
invariant-loop-place l = record {
  start : l.start ≡ partition_start l.length l.num_partitions l.place;
  so_far : l.ranges.items ≡ below (partition l.length l.num_partitions) l.place;
}
