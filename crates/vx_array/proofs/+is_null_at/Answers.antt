use Rattle.std.proofs.Common.{◌≡◌, ◌<◌, ◌+◌, ◌∙◌, length, ap, sym, subst, refl, arith, rules}
use Rattle.std.specs.Prelude.{not}
use Rattle.vx_base.specs.PlainType.{is_flat}
use Rattle.vx_base.specs.PlainValue.{is_null}
use Rattle.vx_model.specs.Rows.{rows, row_at, is_valid_at}
use Rattle.vx_model.specs.TreeType.{tree_type}
use Rattle.vx_model.proofs.FixedSizeListLemmas.{length-fixed_size_list, row_at-fixed_size_list}
use Rattle.vx_model.proofs.ListLemmas.{length-list, row_at-list}
use Rattle.vx_model.proofs.PatchedLemmas.{patched-place, patched-fill}
use Rattle.vx_model.proofs.SparseLemmas.{length-sparse_of, row_at-sparse_of}
use Rattle.vx_model.proofs.StructLemmas.{length-structure, row_at-structure}
use Rattle.vx_array.proofs.AtNode.{at_node}
use Rattle.vx_array.proofs.DefaultLemmas.{flat_other, null-where}
use Rattle.vx_array.proofs.+is_null_at.Goals as goal

pub array::ArrayRef::is_null_at-cell_at-requires : goal.array::ArrayRef::is_null_at-cell_at-requires
array::ArrayRef::is_null_at-cell_at-requires t c =
    let flat = flat_other c.self.inside.node c.self.invariant.0.well_formed c.in_default.not-Constant c.in_default.not-Null c.in_default.not-Struct c.in_default.not-List c.in_default.not-FixedSizeList c.in_default.not-Sparse in
    record { flat = ap (λ tree. is_flat (tree_type tree)) (sym c.self.view_is) ∙ flat; in_range = c.requires }

pub array::ArrayRef::is_null_at-returns-in-Struct : goal.array::ArrayRef::is_null_at-returns-in-Struct
array::ArrayRef::is_null_at-returns-in-Struct t c =
    let a = at_node c.self.view_is c.self.invariant c.in-Struct.is in
    let l = length-structure _ _ _ _ _ a.well_formed in
    let row = c.args.row in
    let own = ap (λ tree. row_at (rows tree) row) a.is ∙ row_at-structure _ _ _ _ _ a.well_formed row (omega (arith, l, rw a.is at c.requires)) in
    ap not c.is_valid.ensures ∙ null-where (is_valid_at c.in-Struct.valid row) _ refl ∙ sym (ap is_null own)

pub array::ArrayRef::is_null_at-returns-in-List : goal.array::ArrayRef::is_null_at-returns-in-List
array::ArrayRef::is_null_at-returns-in-List t c =
    let a = at_node c.self.view_is c.self.invariant c.in-List.is in
    let l = length-list _ _ _ _ a.well_formed in
    let row = c.args.row in
    let own = ap (λ tree. row_at (rows tree) row) a.is ∙ row_at-list _ _ _ _ a.well_formed row (omega (arith, l, rw a.is at c.requires)) in
    ap not c.is_valid-in-List.ensures ∙ null-where (is_valid_at c.in-List.valid row) _ refl ∙ sym (ap is_null own)

pub array::ArrayRef::is_null_at-returns-in-FixedSizeList : goal.array::ArrayRef::is_null_at-returns-in-FixedSizeList
array::ArrayRef::is_null_at-returns-in-FixedSizeList t c =
    let a = at_node c.self.view_is c.self.invariant c.in-FixedSizeList.is in
    let l = length-fixed_size_list _ _ _ _ _ a.well_formed in
    let row = c.args.row in
    let own = ap (λ tree. row_at (rows tree) row) a.is ∙ row_at-fixed_size_list _ _ _ _ _ a.well_formed row (omega (arith, l, rw a.is at c.requires)) in
    ap not c.is_valid-in-FixedSizeList.ensures ∙ null-where (is_valid_at c.in-FixedSizeList.valid row) _ refl ∙ sym (ap is_null own)

pub array::ArrayRef::is_null_at-sparse_is_null_at-requires : goal.array::ArrayRef::is_null_at-sparse_is_null_at-requires
array::ArrayRef::is_null_at-sparse_is_null_at-requires t c =
    let a = at_node c.self.view_is c.self.invariant c.in-Sparse.is in
    let p = c.in-Sparse.patches.value in
    let l = length-sparse_of p c.in-Sparse.fill in
    let within : c.args.row < p.array_len = omega (arith, l, rw a.is at c.requires) in
    (search rules, rw c.deref.ensures within)

pub array::ArrayRef::is_null_at-returns-in-Sparse : goal.array::ArrayRef::is_null_at-returns-in-Sparse
array::ArrayRef::is_null_at-returns-in-Sparse t c =
    let a = at_node c.self.view_is c.self.invariant c.in-Sparse.is in
    let p = c.in-Sparse.patches.value in
    let l = length-sparse_of p c.in-Sparse.fill in
    let within : c.args.row < p.array_len = omega (arith, l, rw a.is at c.requires) in
    rw a.is (rw c.deref.ensures at c.sparse_is_null_at.ensures ∙ sym (ap is_null (row_at-sparse_of p c.in-Sparse.fill c.args.row within)))

-- ---- a fill and patches

pub node::sparse::sparse_is_null_at-returns-in-Some : goal.node::sparse::sparse_is_null_at-returns-in-Some
node::sparse::sparse_is_null_at-returns-in-Some t c =
    let p = c.args.patches.now in
    let lengths = subst (λ q. length (rows q.indices) ≡ length (rows q.values)) c.patches.view_is c.patches.invariant.2.lengths in
    let found = sym c.place_of.ensures ∙ c.in-Some.is in
    let own = patched-place (rows p.indices) (rows p.values) c.args.fill.now.value (p.offset + c.args.row) c.in-Some.place lengths found in
    c.is_null_at.ensures ∙ ap (λ q. is_null (row_at (rows q.values) c.in-Some.place)) c.patches.view_is ∙ sym (ap is_null own)

pub node::sparse::sparse_is_null_at-returns-in-None : goal.node::sparse::sparse_is_null_at-returns-in-None
node::sparse::sparse_is_null_at-returns-in-None t c =
    let p = c.args.patches.now in
    let none = sym c.place_of.ensures ∙ c.in-None.is in
    c.is_null.ensures ∙ sym (ap is_null (patched-fill (rows p.indices) (rows p.values) c.args.fill.now.value (p.offset + c.args.row) none))
