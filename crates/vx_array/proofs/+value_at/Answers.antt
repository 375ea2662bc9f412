use Rattle.std.proofs.Common.{◌≡◌, ◌<◌, ◌+◌, ◌*◌, ◌-◌, ◌++◌, ◌∷◌, [], ◌∙◌, false, ap, sym, subst, arith, cond, length, map}
use Rattle.std.specs.List.{list_all}
use Rattle.std.proofs.lemmas.Bool.{ltb-true}
use Rattle.std.proofs.lemmas.List.{map-append}
use Rattle.std.specs.Prelude.{nat_lt}
use Rattle.vx_base.specs.Answers.{OrMemory}
use Rattle.vx_base.specs.Masks.{rows_between}
use Rattle.vx_base.specs.PlainType.{is_flat}
use Rattle.vx_base.specs.PlainValue.{null, items, of_list}
use Rattle.vx_base.specs.TypeOf.{value_of}
use Rattle.vx_model.specs.Rows.{rows, row_at, is_valid_at, offset_at, list_value, patched}
use Rattle.vx_model.specs.Tree.{node_count, list_count, patches_count}
use Rattle.vx_model.specs.TreeType.{tree_type}
use Rattle.vx_model.proofs.FixedSizeListLemmas.{length-fixed_size_list, row_at-fixed_size_list}
use Rattle.vx_model.proofs.ListLemmas.{length-list, row_at-list}
use Rattle.vx_model.proofs.OffsetLemmas.{offset_step}
use Rattle.vx_model.proofs.PatchedLemmas.{patched-place, patched-fill}
use Rattle.vx_model.proofs.SparseLemmas.{length-sparse_of, row_at-sparse_of}
use Rattle.vx_model.proofs.StructLemmas.{length-structure, row_at-structure}
use Rattle.vx_model.proofs.TreesLemmas.{list_of-of_list, item_falls_at}
use Rattle.vx_array.specs.TreeFalls.{sparse-depth}
use Rattle.vx_array.proofs.AtNode.{at_node}
use Rattle.vx_array.proofs.ValueAt.{between_next, sized-within, passes_at, in_rows, no_other}
use Rattle.vx_array.proofs.+value_at.Goals as goal

-- ---- the row of a tree, node by node

pub array::ArrayRef::value_at-unreachable-requires : goal.array::ArrayRef::value_at-unreachable-requires
array::ArrayRef::value_at-unreachable-requires t c =
    let flat : is_flat (tree_type c.args.self.now) ≡ false = sym (c.is_flat.ensures ∙ ap is_flat c.dtype.ensures) ∙ c.if-is_flat.false in
    no_other c.self.inside.node c.self.invariant.0.well_formed (ap (λ tree. is_flat (tree_type tree)) c.self.view_is ∙ flat)
    c.in_default.not-Constant c.in_default.not-Null c.in_default.not-Struct c.in_default.not-List c.in_default.not-FixedSizeList c.in_default.not-Sparse

pub array::ArrayRef::value_at-struct_at-requires : goal.array::ArrayRef::value_at-struct_at-requires
array::ArrayRef::value_at-struct_at-requires t c =
    let a = at_node c.self.view_is c.self.invariant c.in-Struct.is in
    let l = length-structure _ _ _ _ _ a.well_formed in
    (omega (arith, ap node_count a.is), in_rows _ c.args.row c.in-Struct.fields (omega (arith, l, rw a.is at c.requires.in_range)) a.well_formed.1.lengths)

pub array::ArrayRef::value_at-returns-in-Struct : goal.array::ArrayRef::value_at-returns-in-Struct
array::ArrayRef::value_at-returns-in-Struct t c =
    let a = at_node c.self.view_is c.self.invariant c.in-Struct.is in
    let l = length-structure _ _ _ _ _ a.well_formed in
    let row = c.args.row in
    let own =
    ap (λ tree. row_at (rows tree) row) a.is ∙ row_at-structure _ _ _ _ _ a.well_formed row (omega (arith, l, rw a.is at c.requires.in_range))
    ∙ ap (λ ts. cond (is_valid_at c.in-Struct.valid row) (items (of_list (map (λ tree. row_at (rows tree) row) ts))) null) (list_of-of_list c.in-Struct.fields) in
    subst (λ v. OrMemory c.struct_at.result (λ value. value_of value ≡ v)) (sym own) c.struct_at.ensures

pub array::ArrayRef::value_at-list_at-requires : goal.array::ArrayRef::value_at-list_at-requires
array::ArrayRef::value_at-list_at-requires t c =
    let a = at_node c.self.view_is c.self.invariant c.in-List.is in
    let l = length-list _ _ _ _ a.well_formed in
    let within : c.args.row + 1 < length (rows c.in-List.offsets.array.value) = omega (arith, l, rw a.is at c.requires.in_range) in
    (omega (arith, ap node_count a.is, ap node_count c.deref.ensures), rw (c.deref.ensures, c.deref-in-List.ensures) (a.well_formed.2.offsets_type, (within, a.well_formed.2.ends)))

pub array::ArrayRef::value_at-returns-in-List : goal.array::ArrayRef::value_at-returns-in-List
array::ArrayRef::value_at-returns-in-List t c =
    let a = at_node c.self.view_is c.self.invariant c.in-List.is in
    let l = length-list _ _ _ _ a.well_formed in
    let row = c.args.row in
    let within : row < length (rows c.in-List.offsets.array.value) - 1 = omega (arith, l, rw a.is at c.requires.in_range) in
    let own = ap (λ tree. row_at (rows tree) row) a.is ∙ row_at-list _ _ _ _ a.well_formed row within in
    let here = offset_at (rows c.deref-in-List.result.now) row in
    let next = offset_at (rows c.deref-in-List.result.now) (row + 1) in
    let read =
    ap (λ es. cond (is_valid_at c.in-List.valid row) (list_value (rows_between (rows es) here next)) null) c.deref.ensures
    ∙ ap (λ os. cond (is_valid_at c.in-List.valid row) (list_value (rows_between (rows c.in-List.elements.array.value) (offset_at (rows os) row) (offset_at (rows os) (row + 1)))) null) c.deref-in-List.ensures in
    subst (λ v. OrMemory c.list_at.result (λ value. value_of value ≡ v)) (read ∙ sym own) c.list_at.ensures

pub array::ArrayRef::value_at-fixed_at-requires : goal.array::ArrayRef::value_at-fixed_at-requires
array::ArrayRef::value_at-fixed_at-requires t c =
    let a = at_node c.self.view_is c.self.invariant c.in-FixedSizeList.is in
    let l = length-fixed_size_list _ _ _ _ _ a.well_formed in
    let within = sized-within c.in-FixedSizeList.size c.in-FixedSizeList.field-2 c.args.row (omega (arith, l, rw a.is at c.requires.in_range)) in
    (omega (arith, ap node_count a.is, ap node_count c.deref-in-FixedSizeList.ensures), omega (arith, within, a.well_formed.1.lengths, ap (λ tree. length (rows tree)) c.deref-in-FixedSizeList.ensures))

pub array::ArrayRef::value_at-returns-in-FixedSizeList : goal.array::ArrayRef::value_at-returns-in-FixedSizeList
array::ArrayRef::value_at-returns-in-FixedSizeList t c =
    let a = at_node c.self.view_is c.self.invariant c.in-FixedSizeList.is in
    let l = length-fixed_size_list _ _ _ _ _ a.well_formed in
    let row = c.args.row in
    let size = c.in-FixedSizeList.size in
    let own = ap (λ tree. row_at (rows tree) row) a.is ∙ row_at-fixed_size_list _ _ _ _ _ a.well_formed row (omega (arith, l, rw a.is at c.requires.in_range)) in
    let read = ap (λ tree. cond (is_valid_at c.in-FixedSizeList.valid row) (list_value (rows_between (rows tree) (row * size) (row * size + size))) null) c.deref-in-FixedSizeList.ensures in
    subst (λ v. OrMemory c.fixed_at.result (λ value. value_of value ≡ v)) (read ∙ sym own) c.fixed_at.ensures

-- ---- the trees within

pub value_at::struct_at-value_at-requires : goal.value_at::struct_at-value_at-requires
value_at::struct_at-value_at-requires t c =
    let fields = c.as_slice-field-items.result.now in
    let place = c.loop-field.field-index in
    let falls = item_falls_at fields place c.field-item.result (omega arith) c.field-item.is in
    let all = ap (list_all (λ tree. nat_lt c.args.row (length (rows tree)))) c.as_slice-field-items.ensures ∙ c.requires in (
      omega (arith, falls, ap list_count c.as_slice-field-items.ensures),
      ltb-true c.args.row _ (passes_at (λ tree. nat_lt c.args.row (length (rows tree))) fields place c.field-item.result (omega arith) c.field-item.is all),
    )

pub value_at::list_at-overflow_cast-start : goal.value_at::list_at-overflow_cast-start
value_at::list_at-overflow_cast-start t c =
    let step = offset_step (length (rows c.args.elements.now)) (rows c.args.offsets.now) c.args.row c.requires.ends c.requires.in_range in
    let rising = step.rising in
    let within = step.within in
    omega arith

pub value_at::list_at-overflow_cast-end : goal.value_at::list_at-overflow_cast-end
value_at::list_at-overflow_cast-end t c =
    let step = offset_step (length (rows c.args.elements.now)) (rows c.args.offsets.now) c.args.row c.requires.ends c.requires.in_range in
    let within = step.within in
    omega arith

pub value_at::list_at-elements_between-requires : goal.value_at::list_at-elements_between-requires
value_at::list_at-elements_between-requires t c =
    let step = offset_step (length (rows c.args.elements.now)) (rows c.args.offsets.now) c.args.row c.requires.ends c.requires.in_range in
    let rising = step.rising in
    let within = step.within in
    (omega arith, (omega arith, omega arith))

pub value_at::elements_between-loop-row-preserved : goal.value_at::elements_between-loop-row-preserved
value_at::elements_between-loop-row-preserved t c =
    let own = value_of c.in_ok-value_at.field-0 in
    let all = rows c.args.elements.now in
    ap (map value_of) c.in_ok-push.ensures.items ∙ map-append value_of c.loop-row.values.items (c.in_ok-value_at.field-0 ∷ []) ∙ ap (λ vs. vs ++ own ∷ []) c.loop-row.invariant
    ∙ sym (between_next all c.args.start c.loop-row.row own (omega arith) (omega arith) c.in_ok-value_at.ensures)

pub array::ArrayRef::value_at-sparse_value_at-requires : goal.array::ArrayRef::value_at-sparse_value_at-requires
array::ArrayRef::value_at-sparse_value_at-requires t c =
    let a = at_node c.self.view_is c.self.invariant c.in-Sparse.is in
    let p = c.in-Sparse.patches.value in
    let l = length-sparse_of p c.in-Sparse.fill in
    let within : c.args.row < p.array_len = omega (arith, l, rw a.is at c.requires.in_range) in
    (omega (arith, ap node_count a.is, ap patches_count c.deref-in-Sparse.ensures, sparse-depth p c.in-Sparse.fill), rw c.deref-in-Sparse.ensures within)

pub array::ArrayRef::value_at-returns-in-Sparse : goal.array::ArrayRef::value_at-returns-in-Sparse
array::ArrayRef::value_at-returns-in-Sparse t c =
    let a = at_node c.self.view_is c.self.invariant c.in-Sparse.is in
    let p = c.in-Sparse.patches.value in
    let l = length-sparse_of p c.in-Sparse.fill in
    let within : c.args.row < p.array_len = omega (arith, l, rw a.is at c.requires.in_range) in
    let own = ap (λ tree. row_at (rows tree) c.args.row) a.is ∙ row_at-sparse_of p c.in-Sparse.fill c.args.row within in
    let read = ap (λ q. patched (rows q.indices) (rows q.values) c.in-Sparse.fill.value (q.offset + c.args.row)) c.deref-in-Sparse.ensures in
    subst (λ v. OrMemory c.sparse_value_at.result (λ value. value_of value ≡ v)) (read ∙ sym own) c.sparse_value_at.ensures

-- ---- a fill and patches

pub node::sparse::sparse_value_at-returns-in-Some : goal.node::sparse::sparse_value_at-returns-in-Some
node::sparse::sparse_value_at-returns-in-Some t c =
    let p = c.args.patches.now in
    let lengths = subst (λ q. length (rows q.indices) ≡ length (rows q.values)) c.patches.view_is c.patches.invariant.2.lengths in
    let found = sym c.place_of.ensures ∙ c.in-Some.is in
    let own = patched-place (rows p.indices) (rows p.values) c.args.fill.now.value (p.offset + c.args.row) c.in-Some.place lengths found in
    let read = ap (λ q. row_at (rows q.values) c.in-Some.place) c.patches.view_is in
    subst (λ v. OrMemory c.value_at.result (λ value. value_of value ≡ v)) (read ∙ sym own) c.value_at.ensures

pub node::sparse::sparse_value_at-returns-in-None : goal.node::sparse::sparse_value_at-returns-in-None
node::sparse::sparse_value_at-returns-in-None t c =
    let p = c.args.patches.now in
    let none = sym c.place_of.ensures ∙ c.in-None.is in
    let own = patched-fill (rows p.indices) (rows p.values) c.args.fill.now.value (p.offset + c.args.row) none in
    subst (λ v. OrMemory c.copy.result (λ value. value_of value ≡ v)) (c.value.ensures ∙ sym own) c.copy.ensures
