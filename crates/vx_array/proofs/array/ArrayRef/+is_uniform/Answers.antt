use Rattle.std.proofs.Common.{◌≡◌, ◌∙◌, length, sym, ap, subst, not, rules, FitsSigned}
use Rattle.std.specs.Int.{w128, cast_signed, cast_unsigned}
use Rattle.std.proofs.lemmas.Bool.{and_parts, eqb-true}
use Rattle.std.proofs.lemmas.Int.{to_z-of_z}
use Rattle.vx_model.specs.Rows.{rows}
use Rattle.vx_model.specs.Tree.{plain_blocks, plain_packed}
use Rattle.vx_model.specs.WellFormed.{WellFormed}
use Rattle.vx_array.specs.Linear.{IsUniform}
use Rattle.vx_array.proofs.AtNode.{at_node, blocks_alone, none_of, packed_alone}
use Rattle.vx_array.proofs.UniformTrees.{uniform-constant, uniform-sequence, uniform-bit_packed, uniform-blocks, uniform-frame_of_reference, uniform-zig_zag, uniform-dict, uniform-run_end, uniform-sparse_of, uniform-rle, uniform-frame_of_reference_v2}
use Rattle.vx_array.proofs.array.ArrayRef.+is_uniform.Goals as goal

pub returns-in-Constant : goal.returns-in-Constant
returns-in-Constant t c =
    let a = at_node c.self.view_is c.self.invariant c.in-Constant.is in
    λ h. rw a.is (uniform-constant c.in-Constant.field-0 c.in-Constant.field-1)

pub returns-in-Sequence : goal.returns-in-Sequence
returns-in-Sequence t c =
    let here = c.in-Sequence in
    let a = at_node c.self.view_is c.self.invariant here.is in
    let s : FitsSigned w128 here.step = search rules in
    λ h. rw a.is (uniform-sequence here.field-0 here.field-1 here.field-2 here.step here.field-4 (sym (to_z-of_z w128 here.step s) ∙ ap (cast_signed w128) (eqb-true (cast_unsigned w128 here.step) 0 h)))

pub returns-in-BitPacked : goal.returns-in-BitPacked
returns-in-BitPacked t c =
    let here = c.in-BitPacked in
    let a = at_node c.self.view_is c.self.invariant here.is in
    let k = plain_packed here.field-0 here.width here.field-2 here.field-3 here.valid here.field-6 in
    λ h. (
    let all = and_parts _ _ h in
    let two = and_parts _ _ all.0 in
    let is = packed_alone k here.patches (c.is_none-in-BitPacked.ensures ∙ ap not all.1) in
    rw (a.is, is) (uniform-bit_packed k (eqb-true here.width 0 two.0) (none_of here.valid (c.is_none.ensures ∙ ap not two.1)) (subst WellFormed is a.well_formed))
    )

pub returns-in-BitPackedV2 : goal.returns-in-BitPackedV2
returns-in-BitPackedV2 t c =
    let here = c.in-BitPackedV2 in
    let a = at_node c.self.view_is c.self.invariant here.is in
    let k = plain_blocks here.field-0 here.packed here.field-3 here.valid here.field-6 in
    λ h. (
    let all = and_parts _ _ h in
    let two = and_parts _ _ all.0 in
    let is = blocks_alone k here.field-2.array.value here.patches (c.is_none-in-BitPackedV2-2.ensures ∙ ap not all.1) in
    rw (a.is, is) (uniform-blocks k here.field-2.array.value (sym c.len.ensures ∙ eqb-true c.len.result 0 two.0) (none_of here.valid (c.is_none-in-BitPackedV2.ensures ∙ ap not two.1)) (subst WellFormed is a.well_formed))
    )

pub returns-in-FoR : goal.returns-in-FoR
returns-in-FoR t c =
    let here = c.in-FoR in
    let a = at_node c.self.view_is c.self.invariant here.is in
    λ h. rw a.is (uniform-frame_of_reference here.encoded.array.value here.field-1 (subst (λ t. IsUniform (rows t)) c.deref.ensures (c.is_uniform.ensures h)))

pub returns-in-ZigZag : goal.returns-in-ZigZag
returns-in-ZigZag t c =
    let here = c.in-ZigZag in
    let a = at_node c.self.view_is c.self.invariant here.is in
    λ h. rw a.is (uniform-zig_zag here.encoded.array.value (subst (λ t. IsUniform (rows t)) c.deref-in-ZigZag.ensures (c.is_uniform-in-ZigZag.ensures h)))

pub returns-in-Dict : goal.returns-in-Dict
returns-in-Dict t c =
    let here = c.in-Dict in
    let a = at_node c.self.view_is c.self.invariant here.is in
    λ h. rw a.is (uniform-dict here.codes.array.value here.field-1.array.value (subst (λ t. IsUniform (rows t)) c.deref-in-Dict.ensures (c.is_uniform-in-Dict.ensures h)))

pub returns-in-Sparse : goal.returns-in-Sparse
returns-in-Sparse t c =
    let here = c.in-Sparse in
    let a = at_node c.self.view_is c.self.invariant here.is in
    λ h. rw a.is (uniform-sparse_of here.patches.value here.field-1 (subst (λ p. length (rows p.indices) ≡ 0) c.deref-in-Sparse.ensures (sym c.num_patches.ensures ∙ eqb-true c.num_patches.result 0 h)))

pub returns-in-RunEnd : goal.returns-in-RunEnd
returns-in-RunEnd t c =
    let here = c.in-RunEnd in
    let a = at_node c.self.view_is c.self.invariant here.is in
    λ h. rw a.is (uniform-run_end here.field-0.array.value here.values.array.value (subst (λ t. IsUniform (rows t)) c.deref-in-RunEnd.ensures (c.is_uniform-in-RunEnd.ensures h)) a.well_formed)

pub returns-then-is_uniform : goal.returns-then-is_uniform
returns-then-is_uniform t c =
    let here = c.in-Rle in
    let a = at_node c.self.view_is c.self.invariant here.is in
    let indices = subst (λ t. IsUniform (rows t)) c.deref-in-Rle.ensures (c.is_uniform-in-Rle.ensures c.if-is_uniform.true) in
    λ h. rw a.is (uniform-rle here.field-0.array.value here.indices.array.value here.offsets.array.value here.field-3 indices (subst (λ t. IsUniform (rows t)) c.deref-then-is_uniform.ensures (c.is_uniform-then-is_uniform.ensures h)) a.well_formed)

pub returns-then-is_uniform-2 : goal.returns-then-is_uniform-2
returns-then-is_uniform-2 t c =
    let here = c.in-FoRV2 in
    let a = at_node c.self.view_is c.self.invariant here.is in
    let encoded = subst (λ t. IsUniform (rows t)) c.deref-in-FoRV2.ensures (c.is_uniform-in-FoRV2.ensures c.if-is_uniform-2.true) in
    λ h. rw a.is (uniform-frame_of_reference_v2 here.encoded.array.value here.references.array.value encoded (subst (λ t. IsUniform (rows t)) c.deref-then-is_uniform-2.ensures (c.is_uniform-then-is_uniform-2.ensures h)) a.well_formed)
