use Rattle.std.proofs.Common.{◌∙◌, ◌-◌, ◌^◌, ap, sym, arith}
use Rattle.std.specs.Prelude.{min, sum_by}
use Rattle.std.proofs.lemmas.List.{take_all}
use Rattle.vx_model.specs.Size.{nbytes, size}
use Rattle.vx_model.specs.Tree.{plain_blocks}
use Rattle.vx_model.proofs.BlocksLemmas.{size-blocks_of}
use Rattle.vx_model.proofs.TreesLemmas.{sizes-of_list}
use Rattle.vx_array.specs.TreeOf.{unboxed}
use Rattle.vx_array.proofs.AtNode.{at_node}
use Rattle.vx_array.proofs.+nbytes.Goals as goal

pub arrays::Arrays::nbytes-returns : goal.arrays::Arrays::nbytes-returns
arrays::Arrays::nbytes-returns t c =
    let all = take_all c.loop-tree.tree-index c.as_slice-tree-items.result.now (omega arith) ∙ c.as_slice-tree-items.ensures in
    c.loop-tree.invariant ∙ ap (λ ts. min (sum_by size ts) (2 ^ 128 - 1)) all ∙ ap (λ n. min n (2 ^ 128 - 1)) (sym (sizes-of_list c.args.self.now))

pub array::ArrayRef::nbytes-returns-in-BitPackedV2 : goal.array::ArrayRef::nbytes-returns-in-BitPackedV2
array::ArrayRef::nbytes-returns-in-BitPackedV2 t c =
    let here = c.in-BitPackedV2 in
    let a = at_node c.self.view_is c.self.invariant here.is in
    let k = plain_blocks here.field-0 here.packed here.field-3 here.valid here.field-6 in
    let offsets = here.offsets.array.value in
    let inside = c.nbytes-in-BitPackedV2.ensures ∙ ap nbytes c.deref-in-BitPackedV2.ensures in
    rw a.is (c.blocks_bytes.ensures (size offsets) inside ∙ ap (λ n. min n (2 ^ 128 - 1)) (sym (size-blocks_of k offsets (unboxed here.patches))))
