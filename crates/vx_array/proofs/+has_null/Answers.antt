use Rattle.std.proofs.Common.{◌≡◌, ◌-◌, ◌∙◌, ℕ, zero, suc, length, refl, sym, ap, subst, arith}
use Rattle.std.specs.List.{list_any}
use Rattle.std.specs.Prelude.{nat_lt, replicate, ◌&&◌, ◌||◌}
use Rattle.std.proofs.lemmas.Bool.{lt-ltb}
use Rattle.vx_base.specs.PlainValue.{null, is_null}
use Rattle.vx_model.specs.Rows.{rows}
use Rattle.vx_model.proofs.BlocksLemmas.{any_null-blocks_of}
use Rattle.vx_model.proofs.BoolLemmas.{any_null-bool}
use Rattle.vx_model.proofs.DictDecodeLemmas.{any_null-codes, any_null-dict}
use Rattle.vx_model.proofs.DeltaLemmas.{any_null-delta}
use Rattle.vx_model.proofs.FixedSizeListLemmas.{any_null-fixed_size_list}
use Rattle.vx_model.proofs.ListLemmas.{any_null-list}
use Rattle.vx_model.proofs.NullLemmas.{any_null-primitive}
use Rattle.vx_model.proofs.SequenceLemmas.{any_null-sequence}
use Rattle.vx_model.proofs.StructLemmas.{any_null-structure}
use Rattle.vx_model.specs.Tree.{sparse_of}
use Rattle.vx_model.specs.TreeType.{tree_type}
use Rattle.vx_model.proofs.PackedDecodeLemmas.{any_null-frame_of_reference}
use Rattle.vx_model.proofs.PackedOfLemmas.{any_null-packed_of}
use Rattle.vx_model.proofs.VarBinLemmas.{any_null-var_bin}
use Rattle.vx_model.proofs.ViewLemmas.{any_null-var_bin_view}
use Rattle.vx_model.proofs.ZigZagLemmas.{any_null-zig_zag}
use Rattle.vx_model.specs.WellFormed.{IsPatches}
use Rattle.vx_model.proofs.DateTimePartsLemmas.{any_null-datetime_parts}
use Rattle.vx_model.proofs.FrameOfReferenceV2Lemmas.{any_null-frame_of_reference_v2}
use Rattle.vx_array.proofs.AtNode.{at_node}
use Rattle.vx_array.proofs.Flat.{dict_flat}
use Rattle.vx_array.proofs.RunNulls.{any_null-sparse, no_null-rle}
use Rattle.vx_array.proofs.RunTests.{any-run_end}
use Rattle.vx_array.proofs.+has_null.Goals as goal

-- some row is null where there are rows
nulls-some : (len : ℕ) → nat_lt 0 len ≡ list_any is_null (replicate len null)
nulls-some zero = refl
nulls-some (suc len) = lt-ltb 0 (suc len) (omega arith)

pub array::ArrayRef::has_null-returns-in-Bool : goal.array::ArrayRef::has_null-returns-in-Bool
array::ArrayRef::has_null-returns-in-Bool t c =
    let a = at_node c.self.view_is c.self.invariant c.in-Bool.is in
    rw a.is (c.is_some.ensures ∙ sym (any_null-bool _ _ _ a.well_formed))

pub array::ArrayRef::has_null-returns-in-Primitive : goal.array::ArrayRef::has_null-returns-in-Primitive
array::ArrayRef::has_null-returns-in-Primitive t c =
    let a = at_node c.self.view_is c.self.invariant c.in-Primitive.is in
    rw a.is (c.is_some-in-Primitive.ensures ∙ sym (any_null-primitive _ _ _ _ a.well_formed))

pub array::ArrayRef::has_null-returns-in-VarBinView : goal.array::ArrayRef::has_null-returns-in-VarBinView
array::ArrayRef::has_null-returns-in-VarBinView t c =
    let a = at_node c.self.view_is c.self.invariant c.in-VarBinView.is in
    rw a.is (c.is_some-in-VarBinView.ensures ∙ sym (any_null-var_bin_view _ _ _ a.well_formed))

pub array::ArrayRef::has_null-returns-in-VarBin : goal.array::ArrayRef::has_null-returns-in-VarBin
array::ArrayRef::has_null-returns-in-VarBin t c =
    let a = at_node c.self.view_is c.self.invariant c.in-VarBin.is in
    rw a.is (c.is_some-in-VarBin.ensures ∙ sym (any_null-var_bin _ _ _ _ a.well_formed))

pub array::ArrayRef::has_null-returns-in-BitPacked : goal.array::ArrayRef::has_null-returns-in-BitPacked
array::ArrayRef::has_null-returns-in-BitPacked t c =
    let a = at_node c.self.view_is c.self.invariant c.in-BitPacked.is in
    rw a.is (c.is_some-in-BitPacked.ensures ∙ sym (any_null-packed_of _ _ a.well_formed))

pub array::ArrayRef::has_null-returns-in-FoR : goal.array::ArrayRef::has_null-returns-in-FoR
array::ArrayRef::has_null-returns-in-FoR t c =
    let a = at_node c.self.view_is c.self.invariant c.in-FoR.is in
    rw a.is (c.has_null-in-FoR.ensures ∙ ap (λ t. list_any is_null (rows t)) c.deref-in-FoR.ensures ∙ sym (any_null-frame_of_reference c.in-FoR.encoded.array.value c.in-FoR.field-1))

pub array::ArrayRef::has_null-returns-in-ZigZag : goal.array::ArrayRef::has_null-returns-in-ZigZag
array::ArrayRef::has_null-returns-in-ZigZag t c =
    let a = at_node c.self.view_is c.self.invariant c.in-ZigZag.is in
    rw a.is (c.has_null-in-ZigZag.ensures ∙ ap (λ t. list_any is_null (rows t)) c.deref-in-ZigZag.ensures ∙ sym (any_null-zig_zag c.in-ZigZag.encoded.array.value))

pub array::ArrayRef::has_null-returns-then-has_null : goal.array::ArrayRef::has_null-returns-then-has_null
array::ArrayRef::has_null-returns-then-has_null t c =
    let a = at_node c.self.view_is c.self.invariant c.in-Dict.is in
    let some = ap (λ t. list_any is_null (rows t)) (sym c.deref-in-Dict.ensures) ∙ sym c.has_null-in-Dict.ensures ∙ c.if-has_null.true in
    rw a.is (c.if-has_null.true ∙ sym (any_null-codes c.in-Dict.codes.array.value c.in-Dict.values.array.value some))

pub array::ArrayRef::has_null-returns-else-has_null-2 : goal.array::ArrayRef::has_null-returns-else-has_null-2
array::ArrayRef::has_null-returns-else-has_null-2 t c =
    let a = at_node c.self.view_is c.self.invariant c.in-Dict.is in
    let codes = c.in-Dict.codes.array.value in
    let values = c.in-Dict.values.array.value in
    let none = ap (λ t. list_any is_null (rows t)) (sym c.deref-in-Dict.ensures) ∙ sym c.has_null-in-Dict.ensures ∙ c.if-has_null.false in
    let none_of_values = ap (λ t. list_any is_null (rows t)) (sym c.deref-else-has_null.ensures) ∙ sym c.has_null-else-has_null.ensures ∙ c.if-has_null-2.false in
    rw a.is (c.if-has_null-2.false ∙ sym (any_null-dict codes values a.well_formed none_of_values ∙ none))

pub array::ArrayRef::has_null-has_null_row-requires : goal.array::ArrayRef::has_null-has_null_row-requires
array::ArrayRef::has_null-has_null_row-requires t c =
    let a = at_node c.self.view_is c.self.invariant c.in-Dict.is in
    rw a.is (dict_flat (tree_type c.in-Dict.codes.array.value) (tree_type c.in-Dict.values.array.value) a.well_formed.2.values_type)

pub array::ArrayRef::has_null-returns-in-Null : goal.array::ArrayRef::has_null-returns-in-Null
array::ArrayRef::has_null-returns-in-Null t c =
    let a = at_node c.self.view_is c.self.invariant c.in-Null.is in
    rw a.is (nulls-some c.in-Null.len)

pub array::ArrayRef::has_null-returns-in-Struct : goal.array::ArrayRef::has_null-returns-in-Struct
array::ArrayRef::has_null-returns-in-Struct t c =
    let a = at_node c.self.view_is c.self.invariant c.in-Struct.is in
    rw a.is (c.is_some-in-Struct.ensures ∙ sym (any_null-structure _ _ _ _ _ a.well_formed))

pub array::ArrayRef::has_null-returns-in-List : goal.array::ArrayRef::has_null-returns-in-List
array::ArrayRef::has_null-returns-in-List t c =
    let a = at_node c.self.view_is c.self.invariant c.in-List.is in
    rw a.is (c.is_some-in-List.ensures ∙ sym (any_null-list _ _ _ _ a.well_formed))

pub array::ArrayRef::has_null-returns-in-FixedSizeList : goal.array::ArrayRef::has_null-returns-in-FixedSizeList
array::ArrayRef::has_null-returns-in-FixedSizeList t c =
    let a = at_node c.self.view_is c.self.invariant c.in-FixedSizeList.is in
    rw a.is (c.is_some-in-FixedSizeList.ensures ∙ sym (any_null-fixed_size_list _ _ _ _ _ a.well_formed))

pub array::ArrayRef::has_null-returns-in-Sparse : goal.array::ArrayRef::has_null-returns-in-Sparse
array::ArrayRef::has_null-returns-in-Sparse t c =
    let a = at_node c.self.view_is c.self.invariant c.in-Sparse.is in
    rw a.is (c.sparse_has_null.ensures ∙ ap (λ p. list_any is_null (rows (sparse_of p c.in-Sparse.fill))) c.deref-in-Sparse.ensures)

pub array::ArrayRef::has_null-returns-in-RunEnd : goal.array::ArrayRef::has_null-returns-in-RunEnd
array::ArrayRef::has_null-returns-in-RunEnd t c =
    let a = at_node c.self.view_is c.self.invariant c.in-RunEnd.is in
    rw a.is (c.has_null-in-RunEnd.ensures ∙ ap (λ t. list_any is_null (rows t)) c.deref-in-RunEnd.ensures ∙ sym (any-run_end is_null c.in-RunEnd.field-0.array.value c.in-RunEnd.values.array.value a.well_formed))

pub array::ArrayRef::has_null-returns-in-Sequence : goal.array::ArrayRef::has_null-returns-in-Sequence
array::ArrayRef::has_null-returns-in-Sequence t c =
    let a = at_node c.self.view_is c.self.invariant c.in-Sequence.is in
    let here = c.in-Sequence in
    rw a.is (sym (any_null-sequence here.field-0 here.field-1 here.field-2 here.field-3 here.field-4))

pub array::ArrayRef::has_null-returns-in-DateTimeParts : goal.array::ArrayRef::has_null-returns-in-DateTimeParts
array::ArrayRef::has_null-returns-in-DateTimeParts t c =
    let here = c.in-DateTimeParts in
    let a = at_node c.self.view_is c.self.invariant here.is in
    rw a.is (c.has_null-in-DateTimeParts.ensures ∙ ap (λ t. list_any is_null (rows t)) c.deref-in-DateTimeParts.ensures ∙ sym (any_null-datetime_parts here.field-0 here.field-1 here.days.array.value here.field-3.array.value here.field-4.array.value))

pub array::ArrayRef::has_null-returns-in-FoRV2 : goal.array::ArrayRef::has_null-returns-in-FoRV2
array::ArrayRef::has_null-returns-in-FoRV2 t c =
    let here = c.in-FoRV2 in
    let a = at_node c.self.view_is c.self.invariant here.is in
    rw a.is (c.has_null-in-FoRV2.ensures ∙ ap (λ t. list_any is_null (rows t)) c.deref-in-FoRV2.ensures ∙ sym (any_null-frame_of_reference_v2 here.encoded.array.value here.field-1.array.value))

pub array::ArrayRef::has_null-returns-in-Delta : goal.array::ArrayRef::has_null-returns-in-Delta
array::ArrayRef::has_null-returns-in-Delta t c =
    let a = at_node c.self.view_is c.self.invariant c.in-Delta.is in
    rw a.is (c.is_some-in-Delta.ensures ∙ sym (any_null-delta _ _ _ _ _ a.well_formed))

pub array::ArrayRef::has_null-returns-else-has_null-3 : goal.array::ArrayRef::has_null-returns-else-has_null-3
array::ArrayRef::has_null-returns-else-has_null-3 t c =
    let a = at_node c.self.view_is c.self.invariant c.in-Rle.is in
    let none = ap (λ t. list_any is_null (rows t)) (sym c.deref-in-Rle.ensures) ∙ sym c.has_null-in-Rle.ensures ∙ c.if-has_null-3.false in
    rw a.is (c.if-has_null-3.false ∙ sym (no_null-rle _ _ _ _ a.well_formed none))

-- ---- a fill and patches

pub node::sparse::sparse_has_null-returns-then-has_null : goal.node::sparse::sparse_has_null-returns-then-has_null
node::sparse::sparse_has_null-returns-then-has_null t c =
    let p = c.args.patches.now in
    let fill = c.args.fill.now in
    let held = subst (λ p. IsPatches p.array_len p.offset p.indices p.values) c.patches.view_is c.patches.invariant.2 in
    let some = ap (λ q. list_any is_null (rows q.values)) (sym c.patches.view_is) ∙ sym c.has_null.ensures ∙ c.if-has_null.true in
    c.if-has_null.true ∙ sym (any_null-sparse p fill held ∙ ap (λ b. b || (is_null fill.value && nat_lt 0 (p.array_len - length (rows p.values)))) some)

pub node::sparse::sparse_has_null-returns-then-is_null : goal.node::sparse::sparse_has_null-returns-then-is_null
node::sparse::sparse_has_null-returns-then-is_null t c =
    let p = c.args.patches.now in
    let fill = c.args.fill.now in
    let held = subst (λ p. IsPatches p.array_len p.offset p.indices p.values) c.patches.view_is c.patches.invariant.2 in
    let none = ap (λ q. list_any is_null (rows q.values)) (sym c.patches.view_is) ∙ sym c.has_null.ensures ∙ c.if-has_null.false in
    let fill_null = sym c.is_null.ensures ∙ c.if-is_null.true in
    ap (nat_lt 0) c.unpatched.ensures ∙ sym (any_null-sparse p fill held ∙ (λ i. none i || (fill_null i && nat_lt 0 (p.array_len - length (rows p.values)))))

pub node::sparse::sparse_has_null-returns-else-is_null : goal.node::sparse::sparse_has_null-returns-else-is_null
node::sparse::sparse_has_null-returns-else-is_null t c =
    let p = c.args.patches.now in
    let fill = c.args.fill.now in
    let held = subst (λ p. IsPatches p.array_len p.offset p.indices p.values) c.patches.view_is c.patches.invariant.2 in
    let none = ap (λ q. list_any is_null (rows q.values)) (sym c.patches.view_is) ∙ sym c.has_null.ensures ∙ c.if-has_null.false in
    let fill_some = sym c.is_null.ensures ∙ c.if-is_null.false in
    c.if-is_null.false ∙ sym (any_null-sparse p fill held ∙ (λ i. none i || (fill_some i && nat_lt 0 (p.array_len - length (rows p.values)))))

pub array::ArrayRef::has_null-returns-in-BitPackedV2 : goal.array::ArrayRef::has_null-returns-in-BitPackedV2
array::ArrayRef::has_null-returns-in-BitPackedV2 t c =
    let a = at_node c.self.view_is c.self.invariant c.in-BitPackedV2.is in
    rw a.is (c.is_some-in-BitPackedV2.ensures ∙ sym (any_null-blocks_of _ _ _ a.well_formed))
