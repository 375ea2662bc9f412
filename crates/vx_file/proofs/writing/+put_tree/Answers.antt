use Rattle.std.proofs.Common.{◌∙◌, ◌≡◌, ◌&&◌, rules, of_z, to_z, refl, sym, ap, subst, length, arith}
use Rattle.std.proofs.lemmas.Bool.{and_parts}
use Rattle.std.proofs.lemmas.Int.{to_z-of_z}
use Rattle.std.specs.Int.{w128}
use Rattle.vx_array.specs.TreeFalls.{sparse-depth}
use Rattle.vx_array.specs.TreeOf.{unboxed}
use Rattle.vx_base.specs.TypeOf.{type_of}
use Rattle.vx_spelling.specs.LeafParts.{sequence_parts}
use Rattle.vx_spelling.specs.Storable.{all_within}
use Rattle.vx_model.specs.Tree.{PlainPatches, node_count, list_count, patches_count, of_list, constant, plain_packed, plain_blocks}
use Rattle.vx_model.proofs.TreesLemmas.{item_falls_at, list_of-of_list}
use Rattle.vx_spelling.specs.TreeSpelling.{tree_text}
use Rattle.vx_values.specs.IntsOf.{ptype_of, wholes_of}
use Rattle.vx_file.specs.Writing.{ChunksWithin, PatchesWithin}
use Rattle.vx_file.proofs.Bodies.{body-bool, body-primitive, body-var_bin_view, body-var_bin, body-masked, body-structure, body-list, body-fixed_size_list, body-delta, body-packed_of, body-blocks_of, sparse_text, within-packed_of, within-blocks_of, within-sparse_of, within-shallow, frame-shallow, fill-shallow, packed-narrow}
use Rattle.vx_file.proofs.Counts.{count-packed_of, count-blocks_of}
use Rattle.vx_file.proofs.NodeSteps.{root_is, put_at, below_at, within_at, fields_within, fields_body_more}
use Rattle.vx_file.proofs.Steps.{two_parts, part_more}
use Rattle.vx_file.proofs.writing.+put_tree.Goals as goal

-- ---- nodes without children

pub tree::put_node-returns-in-Null : goal.tree::put_node-returns-in-Null
tree::put_node-returns-in-Null t c =
    let at = c.in-Null in
    let a = root_is c.node.ensures.tree c.node.ensures.well_formed at.is in
    put_at c.put_varint.result c.args.out.now.items c.put_varint.new.out.items _ a.is refl c.put_varint.ensures

pub tree::put_node-returns-in-Bool : goal.tree::put_node-returns-in-Bool
tree::put_node-returns-in-Bool t c =
    let at = c.in-Bool in
    let a = root_is c.node.ensures.tree c.node.ensures.well_formed at.is in
    put_at c.put_bool.result c.args.out.now.items c.put_bool.new.out.items _ a.is (body-bool at.values at.valid at.nulls a.well_formed) c.put_bool.ensures

pub tree::put_node-returns-in-Primitive : goal.tree::put_node-returns-in-Primitive
tree::put_node-returns-in-Primitive t c =
    let at = c.in-Primitive in
    let a = root_is c.node.ensures.tree c.node.ensures.well_formed at.is in
    put_at c.put_primitive.result c.args.out.now.items c.put_primitive.new.out.items _ a.is (body-primitive (ptype_of at.values) (wholes_of at.values) at.valid at.nulls a.well_formed) c.put_primitive.ensures

pub tree::put_node-returns-in-VarBinView : goal.tree::put_node-returns-in-VarBinView
tree::put_node-returns-in-VarBinView t c =
    let at = c.in-VarBinView in
    let a = root_is c.node.ensures.tree c.node.ensures.well_formed at.is in
    put_at c.put_view.result c.args.out.now.items c.put_view.new.out.items _ a.is (body-var_bin_view at.values at.valid (type_of at.dtype) a.well_formed) c.put_view.ensures

pub tree::put_node-put_constant-requires : goal.tree::put_node-put_constant-requires
tree::put_node-put_constant-requires t c =
    let at = c.in-Constant in
    let a = root_is c.node.ensures.tree c.node.ensures.well_formed at.is in
    within-shallow (constant at.value at.len) (within_at a.is c.requires)

pub tree::put_node-returns-in-Constant : goal.tree::put_node-returns-in-Constant
tree::put_node-returns-in-Constant t c =
    let at = c.in-Constant in
    let a = root_is c.node.ensures.tree c.node.ensures.well_formed at.is in
    put_at c.put_constant.result c.args.out.now.items c.put_constant.new.out.items _ a.is refl c.put_constant.ensures

pub tree::put_node-returns-in-Sequence : goal.tree::put_node-returns-in-Sequence
tree::put_node-returns-in-Sequence t c =
    let at = c.in-Sequence in
    let a = root_is c.node.ensures.tree c.node.ensures.well_formed at.is in
    let first : at.first ≡ to_z w128 (of_z w128 at.first) = sym (to_z-of_z w128 at.first (search rules)) in
    let step : at.step ≡ to_z w128 (of_z w128 at.step) = sym (to_z-of_z w128 at.step (search rules)) in
    put_at c.put_sequence.result c.args.out.now.items c.put_sequence.new.out.items _ a.is (λ i. sequence_parts.spell ((at.ptype, at.nulls), ((first i, step i), at.len))) c.put_sequence.ensures

-- ---- nodes with children

pub tree::put_parent-put_struct-requires : goal.tree::put_parent-put_struct-requires
tree::put_parent-put_struct-requires t c =
    let at = c.in-Struct in
    let a = root_is c.node.ensures.tree c.node.ensures.well_formed at.is in
    let count = ap node_count a.is in
    (omega arith, (a.well_formed.1.named ∙ ap length (list_of-of_list at.fields), below_at a.is c.requires.within))

pub tree::put_parent-returns-in-Struct : goal.tree::put_parent-returns-in-Struct
tree::put_parent-returns-in-Struct t c =
    let at = c.in-Struct in
    let a = root_is c.node.ensures.tree c.node.ensures.well_formed at.is in
    put_at c.put_struct.result c.args.out.now.items c.put_struct.new.out.items _ a.is (body-structure at.names (of_list at.fields) at.len at.valid at.nulls a.well_formed) c.put_struct.ensures

pub tree::put_parent-put_list-requires : goal.tree::put_parent-put_list-requires
tree::put_parent-put_list-requires t c =
    let at = c.in-List in
    let a = root_is c.node.ensures.tree c.node.ensures.well_formed at.is in
    let count = ap node_count a.is in
    let b = and_parts (all_within at.elements.array.value) (all_within at.offsets.array.value) (below_at a.is c.requires.within) in
    (omega arith, (b.0, b.1))

pub tree::put_parent-returns-in-List : goal.tree::put_parent-returns-in-List
tree::put_parent-returns-in-List t c =
    let at = c.in-List in
    let a = root_is c.node.ensures.tree c.node.ensures.well_formed at.is in
    put_at c.put_list.result c.args.out.now.items c.put_list.new.out.items _ a.is (body-list at.elements.array.value at.offsets.array.value at.valid at.nulls a.well_formed) c.put_list.ensures

pub tree::put_parent-put_fixed_size_list-requires : goal.tree::put_parent-put_fixed_size_list-requires
tree::put_parent-put_fixed_size_list-requires t c =
    let at = c.in-FixedSizeList in
    let a = root_is c.node.ensures.tree c.node.ensures.well_formed at.is in
    let count = ap node_count a.is in
    (omega arith, below_at a.is c.requires.within)

pub tree::put_parent-returns-in-FixedSizeList : goal.tree::put_parent-returns-in-FixedSizeList
tree::put_parent-returns-in-FixedSizeList t c =
    let at = c.in-FixedSizeList in
    let a = root_is c.node.ensures.tree c.node.ensures.well_formed at.is in
    put_at c.put_fixed_size_list.result c.args.out.now.items c.put_fixed_size_list.new.out.items _ a.is (body-fixed_size_list at.elements.array.value at.size at.len at.valid at.nulls a.well_formed) c.put_fixed_size_list.ensures

pub tree::put_parent-put_timestamp-requires : goal.tree::put_parent-put_timestamp-requires
tree::put_parent-put_timestamp-requires t c =
    let at = c.in-Timestamp in
    let a = root_is c.node.ensures.tree c.node.ensures.well_formed at.is in
    let count = ap node_count a.is in
    (omega arith, below_at a.is c.requires.within)

pub tree::put_parent-returns-in-Timestamp : goal.tree::put_parent-returns-in-Timestamp
tree::put_parent-returns-in-Timestamp t c =
    let at = c.in-Timestamp in
    let a = root_is c.node.ensures.tree c.node.ensures.well_formed at.is in
    put_at c.put_timestamp.result c.args.out.now.items c.put_timestamp.new.out.items _ a.is refl c.put_timestamp.ensures

pub tree::put_parent-put_masked-requires : goal.tree::put_parent-put_masked-requires
tree::put_parent-put_masked-requires t c =
    let at = c.in-Masked in
    let a = root_is c.node.ensures.tree c.node.ensures.well_formed at.is in
    let count = ap node_count a.is in
    (omega arith, below_at a.is c.requires.within)

pub tree::put_parent-returns-in-Masked : goal.tree::put_parent-returns-in-Masked
tree::put_parent-returns-in-Masked t c =
    let at = c.in-Masked in
    let a = root_is c.node.ensures.tree c.node.ensures.well_formed at.is in
    put_at c.put_masked.result c.args.out.now.items c.put_masked.new.out.items _ a.is (body-masked at.child.array.value at.valid a.well_formed) c.put_masked.ensures

pub tree::put_parent-put_two-requires : goal.tree::put_parent-put_two-requires
tree::put_parent-put_two-requires t c =
    let at = c.in-Dict in
    let a = root_is c.node.ensures.tree c.node.ensures.well_formed at.is in
    let count = ap node_count a.is in
    let b = and_parts (all_within at.first.array.value) (all_within at.second.array.value) (below_at a.is c.requires.within) in
    (omega arith, (b.0, b.1))

pub tree::put_parent-returns-in-Dict : goal.tree::put_parent-returns-in-Dict
tree::put_parent-returns-in-Dict t c =
    let at = c.in-Dict in
    let a = root_is c.node.ensures.tree c.node.ensures.well_formed at.is in
    put_at c.put_two.result c.args.out.now.items c.put_two.new.out.items _ a.is refl c.put_two.ensures

pub tree::put_parent-put_two-requires-in-RunEnd : goal.tree::put_parent-put_two-requires-in-RunEnd
tree::put_parent-put_two-requires-in-RunEnd t c =
    let at = c.in-RunEnd in
    let a = root_is c.node.ensures.tree c.node.ensures.well_formed at.is in
    let count = ap node_count a.is in
    let b = and_parts (all_within at.first.array.value) (all_within at.second.array.value) (below_at a.is c.requires.within) in
    (omega arith, (b.0, b.1))

pub tree::put_parent-returns-in-RunEnd : goal.tree::put_parent-returns-in-RunEnd
tree::put_parent-returns-in-RunEnd t c =
    let at = c.in-RunEnd in
    let a = root_is c.node.ensures.tree c.node.ensures.well_formed at.is in
    put_at c.put_two-in-RunEnd.result c.args.out.now.items c.put_two-in-RunEnd.new.out.items _ a.is refl c.put_two-in-RunEnd.ensures

pub tree::put_parent-put_two-requires-in-FoRV2 : goal.tree::put_parent-put_two-requires-in-FoRV2
tree::put_parent-put_two-requires-in-FoRV2 t c =
    let at = c.in-FoRV2 in
    let a = root_is c.node.ensures.tree c.node.ensures.well_formed at.is in
    let count = ap node_count a.is in
    let b = and_parts (all_within at.first.array.value) (all_within at.second.array.value) (below_at a.is c.requires.within) in
    (omega arith, (b.0, b.1))

pub tree::put_parent-returns-in-FoRV2 : goal.tree::put_parent-returns-in-FoRV2
tree::put_parent-returns-in-FoRV2 t c =
    let at = c.in-FoRV2 in
    let a = root_is c.node.ensures.tree c.node.ensures.well_formed at.is in
    put_at c.put_two-in-FoRV2.result c.args.out.now.items c.put_two-in-FoRV2.new.out.items _ a.is refl c.put_two-in-FoRV2.ensures

pub tree::put_parent-put_var_bin-requires : goal.tree::put_parent-put_var_bin-requires
tree::put_parent-put_var_bin-requires t c =
    let at = c.in-VarBin in
    let a = root_is c.node.ensures.tree c.node.ensures.well_formed at.is in
    let count = ap node_count a.is in
    (omega arith, below_at a.is c.requires.within)

pub tree::put_parent-returns-in-VarBin : goal.tree::put_parent-returns-in-VarBin
tree::put_parent-returns-in-VarBin t c =
    let at = c.in-VarBin in
    let a = root_is c.node.ensures.tree c.node.ensures.well_formed at.is in
    put_at c.put_var_bin.result c.args.out.now.items c.put_var_bin.new.out.items _ a.is (body-var_bin at.offsets.array.value at.bytes at.valid (type_of at.dtype) a.well_formed) c.put_var_bin.ensures

pub tree::put_parent-put_datetime_parts-requires : goal.tree::put_parent-put_datetime_parts-requires
tree::put_parent-put_datetime_parts-requires t c =
    let at = c.in-DateTimeParts in
    let a = root_is c.node.ensures.tree c.node.ensures.well_formed at.is in
    let count = ap node_count a.is in
    let b = and_parts (all_within at.days.array.value) (all_within at.seconds.array.value && all_within at.subseconds.array.value) (below_at a.is c.requires.within) in
    let d = and_parts (all_within at.seconds.array.value) (all_within at.subseconds.array.value) b.1 in
    (omega arith, (b.0, (d.0, d.1)))

pub tree::put_parent-returns-in-DateTimeParts : goal.tree::put_parent-returns-in-DateTimeParts
tree::put_parent-returns-in-DateTimeParts t c =
    let at = c.in-DateTimeParts in
    let a = root_is c.node.ensures.tree c.node.ensures.well_formed at.is in
    put_at c.put_datetime_parts.result c.args.out.now.items c.put_datetime_parts.new.out.items _ a.is refl c.put_datetime_parts.ensures

pub tree::put_parent-put_rle-requires : goal.tree::put_parent-put_rle-requires
tree::put_parent-put_rle-requires t c =
    let at = c.in-Rle in
    let a = root_is c.node.ensures.tree c.node.ensures.well_formed at.is in
    let count = ap node_count a.is in
    let b = and_parts (all_within at.values.array.value) (all_within at.indices.array.value && all_within at.offsets.array.value) (below_at a.is c.requires.within) in
    let d = and_parts (all_within at.indices.array.value) (all_within at.offsets.array.value) b.1 in
    (omega arith, (b.0, (d.0, d.1)))

pub tree::put_parent-returns-in-Rle : goal.tree::put_parent-returns-in-Rle
tree::put_parent-returns-in-Rle t c =
    let at = c.in-Rle in
    let a = root_is c.node.ensures.tree c.node.ensures.well_formed at.is in
    put_at c.put_rle.result c.args.out.now.items c.put_rle.new.out.items _ a.is refl c.put_rle.ensures

pub tree::put_parent-put_tree-requires : goal.tree::put_parent-put_tree-requires
tree::put_parent-put_tree-requires t c =
    let at = c.in-ZigZag in
    let a = root_is c.node.ensures.tree c.node.ensures.well_formed at.is in
    let count = ap node_count a.is in
    let same = ap node_count c.deref.ensures in
    (omega arith, ap all_within c.deref.ensures ∙ below_at a.is c.requires.within)

pub tree::put_parent-returns-in-ZigZag : goal.tree::put_parent-returns-in-ZigZag
tree::put_parent-returns-in-ZigZag t c =
    let at = c.in-ZigZag in
    let a = root_is c.node.ensures.tree c.node.ensures.well_formed at.is in
    put_at c.put_tree.result c.args.out.now.items c.put_tree.new.out.items _ a.is (ap tree_text (sym c.deref.ensures)) c.put_tree.ensures

-- ---- packed and patched nodes

pub tree::put_packed-put_sparse-requires : goal.tree::put_packed-put_sparse-requires
tree::put_packed-put_sparse-requires t c =
    let at = c.in-Sparse in
    let a = root_is c.node.ensures.tree c.node.ensures.well_formed at.is in
    let count = ap node_count a.is in
    let p = at.patches.value in
    let b = within-sparse_of p at.fill (below_at a.is c.requires.within) in
    let same = ap patches_count c.deref.ensures in
    let own = sparse-depth p at.fill in (
      omega (arith, own, same, count),
      (subst PatchesWithin (sym c.deref.ensures) b.0, (subst (λ (q : PlainPatches). ChunksWithin q.chunks) (sym c.deref.ensures) b.1, fill-shallow p at.fill (within_at a.is c.requires.within))),
    )

pub tree::put_packed-returns-in-Sparse : goal.tree::put_packed-returns-in-Sparse
tree::put_packed-returns-in-Sparse t c =
    let at = c.in-Sparse in
    let a = root_is c.node.ensures.tree c.node.ensures.well_formed at.is in
    let p = at.patches.value in
    let is = sparse_text c.deref.result.now p at.fill c.deref.ensures in
    put_at c.put_sparse.result c.args.out.now.items c.put_sparse.new.out.items _ a.is is c.put_sparse.ensures

pub tree::put_packed-put_bit_packed-requires : goal.tree::put_packed-put_bit_packed-requires
tree::put_packed-put_bit_packed-requires t c =
    let at = c.in-BitPacked in
    let a = root_is c.node.ensures.tree c.node.ensures.well_formed at.is in
    let count = ap node_count a.is in
    let k = plain_packed at.ptype at.width at.packed at.len at.valid at.nulls in
    let o = unboxed at.patches in
    (omega (arith, count-packed_of k o), (packed-narrow k o a.well_formed, within-packed_of k o (below_at a.is c.requires.within)))

pub tree::put_packed-returns-in-BitPacked : goal.tree::put_packed-returns-in-BitPacked
tree::put_packed-returns-in-BitPacked t c =
    let at = c.in-BitPacked in
    let a = root_is c.node.ensures.tree c.node.ensures.well_formed at.is in
    put_at c.put_bit_packed.result c.args.out.now.items c.put_bit_packed.new.out.items _ a.is (body-packed_of (plain_packed at.ptype at.width at.packed at.len at.valid at.nulls) (unboxed at.patches) a.well_formed) c.put_bit_packed.ensures

pub tree::put_packed-put_bit_packed_v2-requires : goal.tree::put_packed-put_bit_packed_v2-requires
tree::put_packed-put_bit_packed_v2-requires t c =
    let at = c.in-BitPackedV2 in
    let a = root_is c.node.ensures.tree c.node.ensures.well_formed at.is in
    let count = ap node_count a.is in
    let k = plain_blocks at.ptype at.packed at.len at.valid at.nulls in
    let o = unboxed at.patches in
    let offsets = at.offsets.array.value in
    (omega (arith, count-blocks_of k offsets o), within-blocks_of k offsets o (below_at a.is c.requires.within))

pub tree::put_packed-returns-in-BitPackedV2 : goal.tree::put_packed-returns-in-BitPackedV2
tree::put_packed-returns-in-BitPackedV2 t c =
    let at = c.in-BitPackedV2 in
    let a = root_is c.node.ensures.tree c.node.ensures.well_formed at.is in
    put_at c.put_bit_packed_v2.result c.args.out.now.items c.put_bit_packed_v2.new.out.items _ a.is (body-blocks_of (plain_blocks at.ptype at.packed at.len at.valid at.nulls) at.offsets.array.value (unboxed at.patches) a.well_formed) c.put_bit_packed_v2.ensures

pub tree::put_packed-put_for-requires : goal.tree::put_packed-put_for-requires
tree::put_packed-put_for-requires t c =
    let at = c.in-FoR in
    let a = root_is c.node.ensures.tree c.node.ensures.well_formed at.is in
    let count = ap node_count a.is in
    (omega arith, (below_at a.is c.requires.within, frame-shallow at.encoded.array.value at.reference a.well_formed))

pub tree::put_packed-returns-in-FoR : goal.tree::put_packed-returns-in-FoR
tree::put_packed-returns-in-FoR t c =
    let at = c.in-FoR in
    let a = root_is c.node.ensures.tree c.node.ensures.well_formed at.is in
    put_at c.put_for.result c.args.out.now.items c.put_for.new.out.items _ a.is refl c.put_for.ensures

pub tree::put_packed-put_delta-requires : goal.tree::put_packed-put_delta-requires
tree::put_packed-put_delta-requires t c =
    let at = c.in-Delta in
    let a = root_is c.node.ensures.tree c.node.ensures.well_formed at.is in
    let count = ap node_count a.is in
    let b = and_parts (all_within at.bases.array.value) (all_within at.deltas.array.value) (below_at a.is c.requires.within) in
    (omega arith, (b.0, b.1))

pub tree::put_packed-returns-in-Delta : goal.tree::put_packed-returns-in-Delta
tree::put_packed-returns-in-Delta t c =
    let at = c.in-Delta in
    let a = root_is c.node.ensures.tree c.node.ensures.well_formed at.is in
    put_at c.put_delta.result c.args.out.now.items c.put_delta.new.out.items _ a.is (body-delta at.bases.array.value at.deltas.array.value at.len at.valid at.nulls a.well_formed) c.put_delta.ensures

-- ---- fields

pub nested::put_fields-put_tree-requires : goal.nested::put_fields-put_tree-requires
nested::put_fields-put_tree-requires t c =
    let ts = c.as_slice-fields.result.now in
    let i = c.loop-place.place in
    let f = c.index-fields-place.result in
    let falls = item_falls_at ts i f (omega arith) c.index-fields-place.is in
    let count = ap list_count c.as_slice-fields.ensures in
    (omega arith, (fields_within ts i f (omega arith) c.index-fields-place.is c.loop-place.invariant.within).0)

pub nested::put_fields-loop-place-preserved : goal.nested::put_fields-loop-place-preserved
nested::put_fields-loop-place-preserved t c =
    let ns = c.as_slice-names.result.now in
    let ts = c.as_slice-fields.result.now in
    let i = c.loop-place.place in
    let n = c.index-names-place.result in
    let f = c.index-fields-place.result in
    record {
      lengths = c.loop-place.invariant.lengths;
      within = (fields_within ts i f (omega arith) c.index-fields-place.is c.loop-place.invariant.within).1;
      text = part_more _ _ _ _ _ _ (two_parts _ _ _ _ _ _ c.in_ok-put_name.ensures c.in_ok-put_tree.ensures refl) (fields_body_more ns ts i n f (omega arith) (omega arith) c.index-names-place.is c.index-fields-place.is) c.loop-place.invariant.text;
    }
