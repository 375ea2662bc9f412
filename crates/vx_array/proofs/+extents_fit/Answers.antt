use Rattle.std.proofs.Common.{◌≡◌, ◌∙◌, Bool, true, false, ap, sym, refl, arith, length}
use Rattle.std.specs.Prelude.{nat_le, ◌&&◌}
use Rattle.std.specs.List.{list_all}
use Rattle.vx_model.specs.Extents.{extents_fit, row_limit}
use Rattle.vx_model.specs.Rows.{rows}
use Rattle.vx_model.specs.Tree.{plain_blocks}
use Rattle.vx_model.proofs.BlocksLemmas.{extents-blocks_of}
use Rattle.vx_model.proofs.RunEndLemmas.{length-run_end}
use Rattle.vx_model.proofs.TreesLemmas.{few-of_list}
use Rattle.vx_array.specs.TreeOf.{tree_of, unboxed}
use Rattle.vx_array.proofs.AtNode.{at_node}
use Rattle.vx_flat.proofs.Views.{all-stop, all-end}
use Rattle.vx_array.proofs.+extents_fit.Goals as goal

pub arrays::Arrays::extents_fit-returns-then-not-extents_fit : goal.arrays::Arrays::extents_fit-returns-then-not-extents_fit
arrays::Arrays::extents_fit-returns-then-not-extents_fit t c =
    let many = ap extents_fit (sym c.tree-item.is) ∙ sym c.extents_fit.ensures ∙ c.if-not-extents_fit.true in
    let stop = all-stop extents_fit c.tree-item.result c.as_slice-tree-items.result.now c.loop-tree.tree-index (omega arith) many in
    sym (few-of_list c.args.self.now ∙ ap (list_all extents_fit) (sym c.as_slice-tree-items.ensures) ∙ stop)

pub arrays::Arrays::extents_fit-returns : goal.arrays::Arrays::extents_fit-returns
arrays::Arrays::extents_fit-returns t c =
    let end = all-end extents_fit c.as_slice-tree-items.result.now c.loop-tree.tree-index (omega arith) c.loop-tree.invariant in
    sym (few-of_list c.args.self.now ∙ ap (list_all extents_fit) (sym c.as_slice-tree-items.ensures) ∙ end)

with_true : (b : Bool) → b ≡ (b && true)
with_true true = refl
with_true false = refl

pub array::ArrayRef::extents_fit-returns-in-RunEnd : goal.array::ArrayRef::extents_fit-returns-in-RunEnd
array::ArrayRef::extents_fit-returns-in-RunEnd t c =
    let a = at_node c.self.view_is c.self.invariant c.in-RunEnd.is in
    let count = c.self.invariant.0.len_is ∙ ap (λ node. length (rows (tree_of node))) c.in-RunEnd.is ∙ length-run_end c.in-RunEnd.field-0.array.value c.in-RunEnd.field-1.array.value in
    rw a.is (c.is_few-in-RunEnd.ensures ∙ ap (λ n. nat_le n row_limit) count ∙ with_true _)

pub array::ArrayRef::extents_fit-returns-in-BitPackedV2 : goal.array::ArrayRef::extents_fit-returns-in-BitPackedV2
array::ArrayRef::extents_fit-returns-in-BitPackedV2 t c =
    let here = c.in-BitPackedV2 in
    let a = at_node c.self.view_is c.self.invariant here.is in
    let k = plain_blocks here.field-0 here.field-1 here.len here.field-4 here.field-6 in
    let extents_are = extents-blocks_of k here.field-2.array.value (unboxed here.field-5) in
    rw a.is (c.is_few-in-BitPackedV2.ensures ∙ with_true _ ∙ ap (list_all (λ extent. nat_le extent row_limit)) (sym extents_are))
