-- Measures by which writers of trees end.
use Rattle.std.proofs.Common.{◌<◌, ◌+◌, ℕ, suc, Option, Some, None, arith}
use Rattle.vx_model.specs.Tree.{Tree, PlainPacked, PlainBlocks, PlainPatches, packed_of, blocks_of, node_count}

-- the nodes of patches without their chunk offsets and 1, 0 where there are no patches
abbrev pub maybe_count : Option PlainPatches → ℕ
maybe_count None = 0
maybe_count (Some p) = suc (node_count p.indices + node_count p.values)

pub count-packed_of : (k : PlainPacked) (o : Option PlainPatches) → maybe_count o < node_count (packed_of k o)
count-packed_of k None = omega arith
count-packed_of k (Some p) = omega arith

pub count-blocks_of : (k : PlainBlocks) (offsets : Tree) (o : Option PlainPatches) → node_count offsets + maybe_count o < node_count (blocks_of k offsets o)
count-blocks_of k offsets None = omega arith
count-blocks_of k offsets (Some p) = omega arith
