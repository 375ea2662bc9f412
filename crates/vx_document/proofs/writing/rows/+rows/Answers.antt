use Rattle.std.proofs.Common.{◌≡◌, ◌<◌, ◌+◌, ◌*◌, ◌-◌, ◌∙◌, false, ap, sym, subst, arith, rules, length}
use Rattle.std.specs.List.{list_all}
use Rattle.std.specs.Prelude.{nat_lt}
use Rattle.std.proofs.lemmas.Bool.{ltb-true}
use Rattle.std.proofs.lemmas.List.Quantifiers.{position-Some}
use Rattle.std.proofs.lemmas.Result.{on_ok_weaker}
use Rattle.vx_base.specs.PlainScalar.{fits}
use Rattle.vx_base.specs.PlainType.{is_flat}
use Rattle.vx_base.specs.PlainValue.{null}
use Rattle.vx_base.specs.TypeText.{value_text}
use Rattle.vx_model.specs.Rows.{rows, offset_at, is_index, patched}
use Rattle.vx_model.specs.Tree.{node_count, list_count, patches_count}
use Rattle.vx_model.specs.TreeType.{tree_type}
use Rattle.vx_model.specs.WellFormed.{WellFormed}
use Rattle.vx_model.proofs.FixedSizeListLemmas.{length-fixed_size_list}
use Rattle.vx_model.proofs.FrameOfReferenceLemmas.{row_fits}
use Rattle.vx_model.proofs.ListLemmas.{length-list}
use Rattle.vx_model.proofs.OffsetLemmas.{offset_step}
use Rattle.vx_model.proofs.PatchedLemmas.{patched-place, patched-fill}
use Rattle.vx_model.proofs.SparseLemmas.{length-sparse_of, parts-sparse_of}
use Rattle.vx_model.proofs.StructLemmas.{length-structure}
use Rattle.vx_model.proofs.TreesLemmas.{item_falls_at}
use Rattle.vx_array.specs.TreeFalls.{sparse-depth}
use Rattle.vx_array.proofs.ValueAt.{sized-within, passes_at, in_rows, no_other}
use Rattle.vx_document.specs.CappedText.{put}
use Rattle.vx_document.specs.RowText.{or_null, part_text, row_text}
use Rattle.vx_document.proofs.AtRoots.{at_root}
use Rattle.vx_document.proofs.CappedTexts.{put_more, put_over}
use Rattle.vx_document.proofs.PartLengths.{part-least}
use Rattle.vx_document.proofs.RowNodes.{text-structure, text-list, text-fixed_size_list, text-sparse_of}
use Rattle.vx_document.proofs.RowTexts.{part_more, rows_more}
use Rattle.vx_document.proofs.writing.rows.+rows.Goals as goal

-- ---- a row, by the root of its tree

pub push_row-push_cell-requires : goal.push_row-push_cell-requires
push_row-push_cell-requires t c =
    record { fitting = (λ i. fits (c.dtype-then-is_flat.ensures i) (c.cell_at.ensures i)) ∙ row_fits c.args.tree.now c.args.row c.known.ensures c.requires.in_range }

pub push_row-unreachable-requires : goal.push_row-unreachable-requires
push_row-unreachable-requires t c =
    let flat : is_flat (tree_type c.args.tree.now) ≡ false = sym (c.is_flat.ensures ∙ ap is_flat c.dtype.ensures) ∙ c.if-is_flat.false in
    no_other c.node.result.now (subst WellFormed (sym c.node.ensures.tree) c.node.ensures.well_formed) (ap (λ tree. is_flat (tree_type tree)) c.node.ensures.tree ∙ flat)
    c.in_default.not-Constant c.in_default.not-Null c.in_default.not-Struct c.in_default.not-List c.in_default.not-FixedSizeList c.in_default.not-Sparse

pub push_row-push_struct-requires : goal.push_row-push_struct-requires
push_row-push_struct-requires t c =
    let a = at_root c.node.ensures.tree c.node.ensures.well_formed c.in-Struct.is in
    let l = length-structure _ _ _ _ _ a.well_formed in
    (omega (arith, ap node_count a.is), in_rows _ c.args.row c.in-Struct.fields (omega (arith, l, rw a.is at c.requires.in_range)) a.well_formed.1.lengths)

pub push_row-returns-in-Struct : goal.push_row-returns-in-Struct
push_row-returns-in-Struct t c =
    let a = at_root c.node.ensures.tree c.node.ensures.well_formed c.in-Struct.is in
    let l = length-structure _ _ _ _ _ a.well_formed in
    let own = text-structure _ _ _ _ _ c.args.row a.well_formed (omega (arith, l, rw a.is at c.requires.in_range)) in
    on_ok_weaker c.push_struct.result (λ e. e ∙ ap (put c.args.text.now) (own ∙ ap (λ tree. row_text tree c.args.row) (sym a.is))) c.push_struct.ensures

pub push_row-push_list-requires : goal.push_row-push_list-requires
push_row-push_list-requires t c =
    let a = at_root c.node.ensures.tree c.node.ensures.well_formed c.in-List.is in
    let l = length-list _ _ _ _ a.well_formed in
    let within : c.args.row + 1 < length (rows c.in-List.offsets.array.value) = omega (arith, l, rw a.is at c.requires.in_range) in
    (omega (arith, ap node_count a.is, ap node_count c.deref.ensures), rw (c.deref.ensures, c.deref-in-List.ensures) (a.well_formed.2.offsets_type, (within, a.well_formed.2.ends)))

pub push_row-returns-in-List : goal.push_row-returns-in-List
push_row-returns-in-List t c =
    let a = at_root c.node.ensures.tree c.node.ensures.well_formed c.in-List.is in
    let l = length-list _ _ _ _ a.well_formed in
    let row = c.args.row in
    let own = text-list _ _ _ _ row a.well_formed (omega (arith, l, rw a.is at c.requires.in_range)) in
    let here = offset_at (rows c.deref-in-List.result.now) row in
    let next = offset_at (rows c.deref-in-List.result.now) (row + 1) in
    let read =
    ap (λ elements. or_null c.in-List.valid row (part_text elements here next)) c.deref.ensures
    ∙ ap (λ offsets. or_null c.in-List.valid row (part_text c.in-List.elements.array.value (offset_at (rows offsets) row) (offset_at (rows offsets) (row + 1)))) c.deref-in-List.ensures in
    on_ok_weaker c.push_list.result (λ e. e ∙ ap (put c.args.text.now) (read ∙ own ∙ ap (λ tree. row_text tree row) (sym a.is))) c.push_list.ensures

pub push_row-push_fixed-requires : goal.push_row-push_fixed-requires
push_row-push_fixed-requires t c =
    let a = at_root c.node.ensures.tree c.node.ensures.well_formed c.in-FixedSizeList.is in
    let l = length-fixed_size_list _ _ _ _ _ a.well_formed in
    let within = sized-within c.in-FixedSizeList.size c.in-FixedSizeList.field-2 c.args.row (omega (arith, l, rw a.is at c.requires.in_range)) in
    (omega (arith, ap node_count a.is, ap node_count c.deref-in-FixedSizeList.ensures), omega (arith, within, a.well_formed.1.lengths, ap (λ tree. length (rows tree)) c.deref-in-FixedSizeList.ensures))

pub push_row-returns-in-FixedSizeList : goal.push_row-returns-in-FixedSizeList
push_row-returns-in-FixedSizeList t c =
    let a = at_root c.node.ensures.tree c.node.ensures.well_formed c.in-FixedSizeList.is in
    let l = length-fixed_size_list _ _ _ _ _ a.well_formed in
    let row = c.args.row in
    let size = c.in-FixedSizeList.size in
    let own = text-fixed_size_list _ _ _ _ _ row a.well_formed (omega (arith, l, rw a.is at c.requires.in_range)) in
    let read = ap (λ tree. or_null c.in-FixedSizeList.valid row (part_text tree (row * size) (row * size + size))) c.deref-in-FixedSizeList.ensures in
    on_ok_weaker c.push_fixed.result (λ e. e ∙ ap (put c.args.text.now) (read ∙ own ∙ ap (λ tree. row_text tree row) (sym a.is))) c.push_fixed.ensures

pub push_row-push_patched-requires : goal.push_row-push_patched-requires
push_row-push_patched-requires t c =
    let a = at_root c.node.ensures.tree c.node.ensures.well_formed c.in-Sparse.is in
    let p = c.in-Sparse.patches.value in
    let l = length-sparse_of p c.in-Sparse.fill in
    let within : c.args.row < p.array_len = omega (arith, l, rw a.is at c.requires.in_range) in
    let typed = sym (parts-sparse_of p c.in-Sparse.fill a.well_formed).1.values_type in
    (omega (arith, ap node_count a.is, ap patches_count c.deref-in-Sparse.ensures, sparse-depth p c.in-Sparse.fill), rw c.deref-in-Sparse.ensures (within, typed))

pub push_row-returns-in-Sparse : goal.push_row-returns-in-Sparse
push_row-returns-in-Sparse t c =
    let a = at_root c.node.ensures.tree c.node.ensures.well_formed c.in-Sparse.is in
    let p = c.in-Sparse.patches.value in
    let row = c.args.row in
    let fill = c.in-Sparse.fill in
    let l = length-sparse_of p fill in
    let own = text-sparse_of p fill row (omega (arith, l, rw a.is at c.requires.in_range)) in
    let read = ap (λ q. value_text fill.dtype (patched (rows q.indices) (rows q.values) fill.value (q.offset + row))) c.deref-in-Sparse.ensures in
    on_ok_weaker c.push_patched.result (λ e. e ∙ ap (put c.args.text.now) (read ∙ own ∙ ap (λ tree. row_text tree row) (sym a.is))) c.push_patched.ensures

-- ---- a fill and patches

pub push_patched-push_row-requires : goal.push_patched-push_row-requires
push_patched-push_row-requires t c =
    let p = c.args.patches.now in
    let found = position-Some (λ v. is_index v (p.offset + c.args.row)) (rows p.indices) c.in-Some.place null (sym c.patch_place.ensures ∙ c.in-Some.is) in
    let lengths = c.known.ensures.2.lengths in
    (omega (arith, ap node_count c.values.ensures), omega (arith, found.0, lengths, ap (λ tree. length (rows tree)) c.values.ensures))

pub push_patched-returns-in-Some : goal.push_patched-returns-in-Some
push_patched-returns-in-Some t c =
    let p = c.args.patches.now in
    let s = c.args.text.now in
    let place = c.in-Some.place in
    let own = patched-place (rows p.indices) (rows p.values) c.args.fill.now.value (p.offset + c.args.row) place c.known.ensures.2.lengths (sym c.patch_place.ensures ∙ c.in-Some.is) in
    let read = ap (λ tree. row_text tree place) c.values.ensures ∙ (λ i. value_text (sym c.requires.typed i) (sym own i)) in
    on_ok_weaker c.push_row.result (λ e. e ∙ ap (put s) read) c.push_row.ensures

pub push_patched-returns-in-None : goal.push_patched-returns-in-None
push_patched-returns-in-None t c =
    let p = c.args.patches.now in
    let fill = c.args.fill.now in
    let own = patched-fill (rows p.indices) (rows p.values) fill.value (p.offset + c.args.row) (sym c.patch_place.ensures ∙ c.in-None.is) in
    on_ok_weaker c.push_scalar.result (λ e. e ∙ ap (λ v. put c.args.text.now (value_text fill.dtype v)) (sym own)) c.push_scalar.ensures

-- ---- lists of rows

pub push_part-loop-row-preserved : goal.push_part-loop-row-preserved
push_part-loop-row-preserved t c =
    let tree = c.args.tree.now in
    let more = part_more c.loop-row.before.now (tree_type tree) (rows tree) c.loop-row.row c.args.end (omega arith) (omega arith) in
    record {
      before_text = search rules;
      text = put_more _ _ _ _ _ _ _ _ c.in_ok-push_row.ensures c.in_ok-push-2.ensures more c.loop-row.invariant.text;
    }

pub push_struct-loop-field-preserved : goal.push_struct-loop-field-preserved
push_struct-loop-field-preserved t c =
    let more = rows_more c.loop-field.before.now c.as_slice-field-items.result.now c.args.row c.loop-field.field-index c.field-item.result (omega arith) c.field-item.is in
    record {
      before_text = search rules;
      text = put_more _ _ _ _ _ _ _ _ c.in_ok-push_row.ensures c.in_ok-push-2.ensures more c.loop-field.invariant.text;
    }

pub push_struct-push_row-requires : goal.push_struct-push_row-requires
push_struct-push_row-requires t c =
    let fields = c.as_slice-field-items.result.now in
    let place = c.loop-field.field-index in
    let falls = item_falls_at fields place c.field-item.result (omega arith) c.field-item.is in
    let all = ap (list_all (λ tree. nat_lt c.args.row (length (rows tree)))) c.as_slice-field-items.ensures ∙ c.requires in (
      omega (arith, falls, ap list_count c.as_slice-field-items.ensures),
      ltb-true c.args.row _ (passes_at (λ tree. nat_lt c.args.row (length (rows tree))) fields place c.field-item.result (omega arith) c.field-item.is all),
    )

pub push_list-overflow_cast-start : goal.push_list-overflow_cast-start
push_list-overflow_cast-start t c =
    let step = offset_step (length (rows c.args.elements.now)) (rows c.args.offsets.now) c.args.row c.requires.ends c.requires.in_range in
    let rising = step.rising in
    let within = step.within in
    omega arith

pub push_list-overflow_cast-end : goal.push_list-overflow_cast-end
push_list-overflow_cast-end t c =
    let step = offset_step (length (rows c.args.elements.now)) (rows c.args.offsets.now) c.args.row c.requires.ends c.requires.in_range in
    let within = step.within in
    omega arith

pub push_list-push_part-requires : goal.push_list-push_part-requires
push_list-push_part-requires t c =
    let step = offset_step (length (rows c.args.elements.now)) (rows c.args.offsets.now) c.args.row c.requires.ends c.requires.in_range in
    let rising = step.rising in
    let within = step.within in
    (omega arith, (omega arith, omega arith))

pub push_part-returns-then-not-has_room : goal.push_part-returns-then-not-has_room
push_part-returns-then-not-has_room t c =
    let tree = c.args.tree.now in
    let start = c.args.start in
    let end = c.args.end in
    let full = sym c.has_room.ensures ∙ c.if-not-has_room.true in
    c.end.ensures ∙ sym (put_over c.args.text.now (end - start) (part_text tree start end) (part-least tree start end c.requires.in_range) full)
