-- The tree of a node.
use Rattle.std.specs.Prelude.{Option, None, Some, Box}
use Rattle.std.specs.declared.alloc.Global.{Global}
use Rattle.vx_base.specs.TypeOf.{type_of}
use Rattle.vx_values.specs.IntsOf.{ptype_of, wholes_of}
use Rattle.vx_array.specs.declared.array.Node.{Node}
use Rattle.vx_array.specs.declared.array.Node.TheVariants.{Bool, Primitive, VarBinView, VarBin, Timestamp, Constant, Masked, BitPacked, FoR, ZigZag, Dict, Null, Struct, List, FixedSizeList, Sparse, RunEnd, Rle, Sequence, Delta, BitPackedV2, DateTimeParts, FoRV2}
use Rattle.vx_model.specs.Tree.{Tree, PlainPatches, bool, primitive, var_bin_view, var_bin, timestamp, constant, masked, plain_packed, packed_of, plain_blocks, blocks_of, sparse_of, frame_of_reference, zig_zag, dict, nulls, structure, list, fixed_size_list, of_list, run_end, rle, sequence, delta, datetime_parts, frame_of_reference_v2}

-- patches out of their box
abbrev pub unboxed : Option (Box PlainPatches Global) → Option PlainPatches
unboxed None = None
unboxed (Some p) = Some p.value

-- the tree whose root a node is, one level: its children are seen as trees already
abbrev pub tree_of : Node → Tree
tree_of (Bool bs valid n) = bool bs valid n
tree_of (Primitive xs valid n) = primitive (ptype_of xs) (wholes_of xs) valid n
tree_of (VarBinView vs valid t) = var_bin_view vs valid (type_of t)
tree_of (VarBin offsets bytes valid t) = var_bin offsets.array.value bytes valid (type_of t)
tree_of (Timestamp storage k) = timestamp storage.array.value k
tree_of (Constant s len) = constant s len
tree_of (Masked child valid) = masked child.array.value valid
tree_of (BitPacked p width bytes len valid patches n) = packed_of (plain_packed p width bytes len valid n) (unboxed patches)
tree_of (FoR encoded reference) = frame_of_reference encoded.array.value reference
tree_of (ZigZag encoded) = zig_zag encoded.array.value
tree_of (Dict codes values) = dict codes.array.value values.array.value
tree_of (Null len) = nulls len
tree_of (Struct names fields len valid n) = structure names (of_list fields) len valid n
tree_of (List elements offsets valid n) = list elements.array.value offsets.array.value valid n
tree_of (FixedSizeList elements size len valid n) = fixed_size_list elements.array.value size len valid n
tree_of (Sparse patches fill) = sparse_of patches.value fill
tree_of (RunEnd ends values) = run_end ends.array.value values.array.value
tree_of (Rle values indices offsets len) = rle values.array.value indices.array.value offsets.array.value len
tree_of (Sequence p n first step len) = sequence p n first step len
tree_of (Delta bases deltas len valid n) = delta bases.array.value deltas.array.value len valid n
tree_of (BitPackedV2 p bytes offsets len valid patches n) = blocks_of (plain_blocks p bytes len valid n) offsets.array.value (unboxed patches)
tree_of (DateTimeParts k n days seconds subseconds) = datetime_parts k n days.array.value seconds.array.value subseconds.array.value
tree_of (FoRV2 encoded references) = frame_of_reference_v2 encoded.array.value references.array.value
