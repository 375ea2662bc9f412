-- A child has fewer nodes than the tree.
use Rattle.std.specs.Prelude.{◌≡◌, ◌≤◌, ◌+◌, ℕ, max, List, [], ◌∷◌, Option, None, Some}
use Rattle.std.proofs.Common.{arith}
use Rattle.vx_array.specs.declared.array.Node.{Node}
use Rattle.vx_array.specs.declared.array.Node.TheVariants.{Bool, Primitive, VarBinView, VarBin, Timestamp, Constant, Masked, BitPacked, FoR, ZigZag, Dict, Null, Struct, FixedSizeList, Sparse, RunEnd, Rle, Sequence, Delta, BitPackedV2, DateTimeParts, FoRV2}
use Rattle.vx_array.specs.declared.array.Node.TheVariants as nodes
use Rattle.vx_array.specs.declared.array.ArrayRef.TheDeep.{deep-Node}
use Rattle.vx_array.specs.declared.array.ArrayRef.TheShapes.{weighed-Patches-chunks}
use denote.Param.Weighed.{most}
use Rattle.vx_base.specs.PlainScalar.{PlainScalar}
use Rattle.vx_model.specs.Tree.{Tree, PlainPatches, chunked, node_count, list_count, patches_count, sparse_of}
use Rattle.vx_array.specs.HasNoChunks.{HasNoChunks}
use Rattle.vx_array.specs.TreeOf.{tree_of}

-- each of several trees has fewer nodes than they have together
pub most_le-list_count : (ts : List Tree) → most (λ t. node_count t + 1) ts ≤ list_count ts
most_le-list_count [] = omega arith
most_le-list_count (t ∷ ts) = omega (arith, most_le-list_count ts)

-- chunk offsets have fewer nodes than the patches
pub chunks-depth : (len offset : ℕ) (indices values : Tree) (o : Option Tree) → weighed-Patches-chunks.weight Tree (λ t. node_count t + 1) o ≤ patches_count (chunked len offset indices values o)
chunks-depth len offset indices values None = omega arith
chunks-depth len offset indices values (Some chunks) = omega arith

-- patches without them have as many nodes as their indices and values
plain-either : (len offset : ℕ) (indices values : Tree) (o : Option Tree) → o ≡ None → patches_count (chunked len offset indices values o) ≡ node_count indices + node_count values + 1
plain-either len offset indices values None e = omega arith
plain-either len offset indices values (Some chunks) e = absurd cc

pub plain-depth : (p : PlainPatches) → p.chunks ≡ None → patches_count p ≡ node_count p.indices + node_count p.values + 1
plain-depth p e = plain-either p.array_len p.offset p.indices p.values p.chunks e

-- patches have fewer nodes than a tree over them, with chunk offsets or without
depth-either : (len offset : ℕ) (indices values : Tree) (fill : PlainScalar) (o : Option Tree) → patches_count (chunked len offset indices values o) + 1 ≤ node_count (sparse_of (chunked len offset indices values o) fill)
depth-either len offset indices values fill None = omega arith
depth-either len offset indices values fill (Some chunks) = omega arith

pub sparse-depth : (p : PlainPatches) (fill : PlainScalar) → patches_count p + 1 ≤ node_count (sparse_of p fill)
sparse-depth p fill = depth-either p.array_len p.offset p.indices p.values fill p.chunks

pub depth_le-node_count : (n : Node) → HasNoChunks n → max (deep-Node n) 0 ≤ node_count (tree_of n)
depth_le-node_count (Bool bs valid n) h = omega arith
depth_le-node_count (Primitive xs valid n) h = omega arith
depth_le-node_count (VarBinView vs valid t) h = omega arith
depth_le-node_count (VarBin offsets bytes valid t) h = omega arith
depth_le-node_count (Timestamp storage k) h = omega arith
depth_le-node_count (Constant s len) h = omega arith
depth_le-node_count (Masked child valid) h = omega arith
depth_le-node_count (BitPacked p width bytes len valid None n) h = omega arith
depth_le-node_count (BitPacked p width bytes len valid (Some patches) n) h = omega (arith, plain-depth patches.value h)
depth_le-node_count (FoR encoded reference) h = omega arith
depth_le-node_count (ZigZag encoded) h = omega arith
depth_le-node_count (Dict codes values) h = omega arith
depth_le-node_count (Null len) h = omega arith
depth_le-node_count (Struct names fields len valid n) h = omega arith
depth_le-node_count (nodes.List elements offsets valid n) h = omega arith
depth_le-node_count (FixedSizeList elements size len valid n) h = omega arith
depth_le-node_count (Sparse patches fill) h = omega (arith, sparse-depth patches.value fill)
depth_le-node_count (RunEnd ends values) h = omega arith
depth_le-node_count (Rle values indices offsets len) h = omega arith
depth_le-node_count (Sequence p n first step len) h = omega arith
depth_le-node_count (Delta bases deltas len valid n) h = omega arith
depth_le-node_count (BitPackedV2 p bytes offsets len valid None n) h = omega arith
depth_le-node_count (BitPackedV2 p bytes offsets len valid (Some patches) n) h = omega (arith, plain-depth patches.value h)
depth_le-node_count (DateTimeParts k n days seconds subseconds) h = omega arith
depth_le-node_count (FoRV2 encoded references) h = omega arith
