use Rattle.std.proofs.Common.{◌≡◌, ◌<◌, ◌≤◌, ◌∙◌, ◌+◌, ◌-◌, ◌*◌, ◌/◌, ◌%◌, ◌^◌, pos, drop, negsuc, length, arith, refl, sym, ap, subst, rules, true, cond, Some, None}
use Rattle.vx_base.proofs.IntegerLemmas.{is_unsigned-is_integer}
use Rattle.vx_base.proofs.PackedLemmas.{packed_size_le}
use Rattle.std.specs.Prelude.{◌≤ℤ◌, ◌+ℤ◌, ◌*ℤ◌, IfSome, ◌||◌}
use Rattle.std.proofs.lemmas.Int.{ints}
use Rattle.std.proofs.lemmas.Bool.{lt-ltb}
use Rattle.vx_base.specs.Packed.{packed_row}
use Rattle.vx_base.specs.PlainType.{is_flat, is_integer, integer_of}
use Rattle.vx_base.specs.Integers.{lies_in}
use Rattle.vx_base.specs.IntegersIn.{integer_in}
use Rattle.vx_base.specs.PlainValue.{null, int, cell, is_null, whole_or_zero}
use Rattle.vx_base.specs.Wrapping.{wrap}
use Rattle.vx_model.specs.Rows.{rows, row_at, place_of, offset_at, block_rows, is_valid_at, looked_up, packed_in_block, rle_place, each_int}
use Rattle.vx_model.specs.Tree.{plain_blocks, plain_packed}
use Rattle.vx_model.specs.TreeType.{tree_type}
use Rattle.vx_model.specs.WellFormed.{WellFormedPatches, IsSequence, is_place, indices_below, is_canonical_at}
use Rattle.vx_model.proofs.BlocksLemmas.{length-blocks_of, row_at-blocks_of}
use Rattle.vx_model.proofs.BoolLemmas.{length-bool, row_at-bool}
use Rattle.vx_model.proofs.CellLemmas.{IsWord, cell-row_at, word-difference, word-encoded}
use Rattle.vx_model.proofs.DateTimePartsLemmas.{length-datetime_parts, row_at-datetime_parts}
use Rattle.vx_model.proofs.DeltaLemmas.{length-delta, row_at-delta}
use Rattle.vx_model.proofs.DictLemmas.{length-dict, code_is}
use Rattle.vx_model.proofs.FrameOfReferenceV2Lemmas.{length-frame_of_reference_v2, row_at-frame_of_reference_v2}
use Rattle.vx_model.proofs.NumberedLemmas.{below_passes}
use Rattle.vx_model.proofs.OffsetLemmas.{offset_step}
use Rattle.vx_model.proofs.PackedLemmas.{length-frame_of_reference}
use Rattle.vx_model.proofs.PackedOfLemmas.{length-packed_of, row_at-packed_of, packed-packed_of}
use Rattle.vx_model.proofs.PatchLemmas.{place-none}
use Rattle.vx_model.proofs.PatchedLemmas.{patched-place, patched-fill}
use Rattle.vx_model.proofs.RleLemmas.{length-rle, row_at-rle, rle-within, rle-code, block-within}
use Rattle.vx_model.proofs.RunEndLemmas.{EndsBefore, EndsAbove, length-run_end, row_at-run_end, run-within, run_value-place}
use Rattle.vx_model.proofs.SequenceLemmas.{length-sequence, row_at-sequence}
use Rattle.vx_model.proofs.SparseLemmas.{length-sparse_of, row_at-sparse_of, type-sparse_of, parts-sparse_of}
use Rattle.vx_model.proofs.RowLemmas.{length-primitive, row_at-primitive}
use Rattle.vx_model.proofs.VarBinLemmas.{length-var_bin, row_at-var_bin}
use Rattle.vx_model.proofs.ViewLemmas.{length-var_bin_view, row_at-var_bin_view}
use Rattle.vx_model.proofs.ZigZagLemmas.{length-zig_zag}
use Rattle.vx_time.specs.CanonicalParts.{is_canonical}
use Rattle.vx_time.specs.PartsOf.{parts, sum_of, units_per_second}
use Rattle.vx_array.specs.Sums.{sum_before}
use Rattle.vx_array.specs.TreeOf.{unboxed}
use Rattle.vx_array.proofs.AtNode.{at_node}
use Rattle.vx_array.proofs.BlockRows.{block_row_of, flat_blocks, width-narrow, width-order}
use Rattle.vx_array.proofs.ChunkCounts.{before-offset, before-last, before-most, where_some, chunk_order, chunk_below, chunk_from}
use Rattle.vx_array.proofs.Flat.{integer_flat, patches_flat}
use Rattle.vx_array.proofs.Frames.{frame-word, reference-held}
use Rattle.vx_array.proofs.PartArrays.{whole-integer}
use Rattle.vx_array.proofs.Looks.{IsRead, read_of, found-there, half-after, half-before, read-none}
use Rattle.vx_array.proofs.Runs.{before-next, above-next}
use Rattle.vx_flat.proofs.Steps.{whole-near, first-signed, step-signed, near-signed}
use Rattle.vx_array.proofs.SumLemmas.{whole_row, sum-start, sum-next}
use Rattle.vx_array.proofs.Unpacked.{width-le}
use Rattle.vx_array.proofs.+cell_at.Goals as goal

-- ---- the row of a tree, node by node

pub array::ArrayRef::cell_at-returns-in-Bool : goal.array::ArrayRef::cell_at-returns-in-Bool
array::ArrayRef::cell_at-returns-in-Bool t c =
    let a = at_node c.self.view_is c.self.invariant c.in-Bool.is in
    let l = length-bool _ _ _ a.well_formed in
    rw a.is (c.truth_at.ensures ∙ sym (row_at-bool _ _ _ a.well_formed c.args.row (omega (arith, l, rw a.is at c.requires.in_range))))

pub array::ArrayRef::cell_at-view_at-requires : goal.array::ArrayRef::cell_at-view_at-requires
array::ArrayRef::cell_at-view_at-requires t c =
    let a = at_node c.self.view_is c.self.invariant c.in-VarBinView.is in
    let l = length-var_bin_view _ _ _ a.well_formed in
    omega (arith, l, rw a.is at c.requires.in_range)

pub array::ArrayRef::cell_at-returns-in-VarBinView : goal.array::ArrayRef::cell_at-returns-in-VarBinView
array::ArrayRef::cell_at-returns-in-VarBinView t c =
    let a = at_node c.self.view_is c.self.invariant c.in-VarBinView.is in
    let l = length-var_bin_view _ _ _ a.well_formed in
    rw a.is (c.view_at.ensures ∙ sym (row_at-var_bin_view _ _ _ a.well_formed c.args.row (omega (arith, l, rw a.is at c.requires.in_range))))

pub array::ArrayRef::cell_at-piece_at-requires : goal.array::ArrayRef::cell_at-piece_at-requires
array::ArrayRef::cell_at-piece_at-requires t c =
    let a = at_node c.self.view_is c.self.invariant c.in-VarBin.is in
    let l = length-var_bin _ _ _ _ a.well_formed in
    let within : c.args.row + 1 < length (rows c.in-VarBin.offsets.array.value) = omega (arith, l, rw a.is at c.requires.in_range) in
    (search rules, rw c.deref.ensures (a.well_formed.1.offsets_type, (within, a.well_formed.1.ends)))

pub array::ArrayRef::cell_at-returns-in-VarBin : goal.array::ArrayRef::cell_at-returns-in-VarBin
array::ArrayRef::cell_at-returns-in-VarBin t c =
    let a = at_node c.self.view_is c.self.invariant c.in-VarBin.is in
    let l = length-var_bin _ _ _ _ a.well_formed in
    let within : c.args.row < length (rows c.in-VarBin.offsets.array.value) - 1 = omega (arith, l, rw a.is at c.requires.in_range) in
    rw a.is (rw c.deref.ensures at c.piece_at.ensures ∙ sym (row_at-var_bin _ _ _ _ a.well_formed c.args.row within))

pub array::ArrayRef::cell_at-primitive_at-requires : goal.array::ArrayRef::cell_at-primitive_at-requires
array::ArrayRef::cell_at-primitive_at-requires t c =
    let a = at_node c.self.view_is c.self.invariant c.in-Primitive.is in
    let l = length-primitive _ _ _ _ a.well_formed in
    omega (arith, l, rw a.is at c.requires.in_range)

pub array::ArrayRef::cell_at-returns-in-Primitive : goal.array::ArrayRef::cell_at-returns-in-Primitive
array::ArrayRef::cell_at-returns-in-Primitive t c =
    let a = at_node c.self.view_is c.self.invariant c.in-Primitive.is in
    let l = length-primitive _ _ _ _ a.well_formed in
    rw a.is (c.primitive_at.ensures ∙ sym (row_at-primitive _ _ _ _ c.args.row a.well_formed (omega (arith, l, rw a.is at c.requires.in_range))))

pub array::ArrayRef::cell_at-unpacked_at-requires : goal.array::ArrayRef::cell_at-unpacked_at-requires
array::ArrayRef::cell_at-unpacked_at-requires t c =
    let a = at_node c.self.view_is c.self.invariant c.in-BitPacked.is in
    let l = length-packed_of _ _ a.well_formed in
    let packed = packed-packed_of _ _ a.well_formed in
    let next : c.args.row + 1 ≤ c.in-BitPacked.field-3 = omega (arith, l, rw a.is at c.requires.in_range) in
    let room = packed_size_le c.in-BitPacked.width (c.args.row + 1) c.in-BitPacked.field-3 next in
    (search rules, (width-le c.in-BitPacked.width c.in-BitPacked.field-0 packed.narrow, (omega (arith, room, packed.sized), patches_flat _ _ a.well_formed)))

pub array::ArrayRef::cell_at-returns-in-BitPacked : goal.array::ArrayRef::cell_at-returns-in-BitPacked
array::ArrayRef::cell_at-returns-in-BitPacked t c =
    let a = at_node c.self.view_is c.self.invariant c.in-BitPacked.is in
    let k = plain_packed c.in-BitPacked.field-0 c.in-BitPacked.width c.in-BitPacked.packed c.in-BitPacked.field-3 c.in-BitPacked.valid c.in-BitPacked.field-6 in
    let l = length-packed_of _ _ a.well_formed in
    let within : c.args.row < c.in-BitPacked.field-3 = omega (arith, l, rw a.is at c.requires.in_range) in
    rw a.is (c.unpacked_at.ensures k refl refl ∙ sym (row_at-packed_of k (unboxed c.in-BitPacked.patches) c.args.row a.well_formed within))

pub array::ArrayRef::cell_at-moved_at-requires-clause-held : goal.array::ArrayRef::cell_at-moved_at-requires-clause-held
array::ArrayRef::cell_at-moved_at-requires-clause-held t c =
    let encoded = c.in-FoR.encoded.array.value in
    let a = at_node c.self.view_is c.self.invariant c.in-FoR.is in
    let within : c.args.row < length (rows encoded) = omega (arith, length-frame_of_reference encoded c.in-FoR.reference, rw a.is at c.requires.in_range) in
    let read = c.cell_at-in-FoR.ensures ∙ ap (λ t. row_at (rows t) c.args.row) c.deref-in-FoR.ensures in
    subst IsWord (sym read) (word-difference encoded c.in-FoR.reference c.args.row a.well_formed within)

pub array::ArrayRef::cell_at-cell_at-requires-in-ZigZag : goal.array::ArrayRef::cell_at-cell_at-requires-in-ZigZag
array::ArrayRef::cell_at-cell_at-requires-in-ZigZag t c =
    let encoded = c.in-ZigZag.encoded.array.value in
    let a = at_node c.self.view_is c.self.invariant c.in-ZigZag.is in
    let within : c.args.row < length (rows encoded) = omega (arith, length-zig_zag encoded, rw a.is at c.requires.in_range) in
    (search rules, rw c.deref-in-ZigZag.ensures (integer_flat (tree_type encoded) (is_unsigned-is_integer (tree_type encoded) a.well_formed.1.unsigned), within))

pub array::ArrayRef::cell_at-cell_at-requires-in-Dict : goal.array::ArrayRef::cell_at-cell_at-requires-in-Dict
array::ArrayRef::cell_at-cell_at-requires-in-Dict t c =
    let codes = c.in-Dict.codes.array.value in
    let values = c.in-Dict.values.array.value in
    let a = at_node c.self.view_is c.self.invariant c.in-Dict.is in
    let within : c.args.row < length (rows codes) = omega (arith, length-dict codes values, rw a.is at c.requires.in_range) in
    (search rules, rw c.deref-in-Dict-2.ensures (integer_flat (tree_type codes) a.well_formed.2.codes_type, within))

pub array::ArrayRef::cell_at-unzigzagged_at-requires : goal.array::ArrayRef::cell_at-unzigzagged_at-requires
array::ArrayRef::cell_at-unzigzagged_at-requires t c =
    let encoded = c.in-ZigZag.encoded.array.value in
    let a = at_node c.self.view_is c.self.invariant c.in-ZigZag.is in
    let within : c.args.row < length (rows encoded) = omega (arith, length-zig_zag encoded, rw a.is at c.requires.in_range) in
    let read = c.cell_at-in-ZigZag.ensures ∙ ap (λ t. row_at (rows t) c.args.row) c.deref-in-ZigZag.ensures in
    subst IsWord (sym read) (word-encoded encoded c.args.row a.well_formed within)

-- ---- the row of a sparse, run-end, run-length, sequence or delta node

pub array::ArrayRef::cell_at-sparse_at-requires : goal.array::ArrayRef::cell_at-sparse_at-requires
array::ArrayRef::cell_at-sparse_at-requires t c =
    let a = at_node c.self.view_is c.self.invariant c.in-Sparse.is in
    let p = c.in-Sparse.patches.value in
    let flat = ap is_flat (sym (type-sparse_of p c.in-Sparse.fill)) ∙ rw a.is at c.requires.flat in
    (search rules, rw c.deref-in-Sparse.ensures (ap is_flat (parts-sparse_of p c.in-Sparse.fill a.well_formed).1.values_type ∙ flat, flat))

pub array::ArrayRef::cell_at-returns-in-Sparse : goal.array::ArrayRef::cell_at-returns-in-Sparse
array::ArrayRef::cell_at-returns-in-Sparse t c =
    let a = at_node c.self.view_is c.self.invariant c.in-Sparse.is in
    let p = c.in-Sparse.patches.value in
    let l = length-sparse_of p c.in-Sparse.fill in
    let within : c.args.row < p.array_len = omega (arith, l, rw a.is at c.requires.in_range) in
    rw a.is (rw c.deref-in-Sparse.ensures at c.sparse_at.ensures ∙ sym (row_at-sparse_of p c.in-Sparse.fill c.args.row within))

pub array::ArrayRef::cell_at-run_at-run-requires : goal.array::ArrayRef::cell_at-run_at-run-requires
array::ArrayRef::cell_at-run_at-run-requires t c =
    let a = at_node c.self.view_is c.self.invariant c.in-RunEnd.is in
    let own = a.well_formed.2 in
    (search rules, rw c.deref-in-RunEnd.ensures (own.ends_type, own.rising))

pub array::ArrayRef::cell_at-cell_at-requires-in-RunEnd : goal.array::ArrayRef::cell_at-cell_at-requires-in-RunEnd
array::ArrayRef::cell_at-cell_at-requires-in-RunEnd t c =
    let a = at_node c.self.view_is c.self.invariant c.in-RunEnd.is in
    let ends = c.in-RunEnd.ends.array.value in
    let values = c.in-RunEnd.values.array.value in
    let own = a.well_formed.2 in
    let l = length-run_end ends values in
    let inside : c.args.row < offset_at (rows ends) (length (rows ends) - 1) = omega (arith, l, rw a.is at c.requires.in_range) in
    let before = subst (λ t. EndsBefore (rows t) c.args.row c.run_at-run.result) c.deref-in-RunEnd.ensures c.run_at-run.ensures.before in
    let within = run-within (rows ends) c.args.row c.run_at-run.result before inside in
    let same = own.lengths in
    let there : c.run_at-run.result < length (rows values) = omega (arith, same, within) in
    (search rules, rw c.deref-in-RunEnd-2.ensures (integer_flat (tree_type values) own.values_type, there))

pub array::ArrayRef::cell_at-returns-in-RunEnd : goal.array::ArrayRef::cell_at-returns-in-RunEnd
array::ArrayRef::cell_at-returns-in-RunEnd t c =
    let a = at_node c.self.view_is c.self.invariant c.in-RunEnd.is in
    let ends = c.in-RunEnd.ends.array.value in
    let values = c.in-RunEnd.values.array.value in
    let run = c.run_at-run.result in
    let own = a.well_formed.2 in
    let l = length-run_end ends values in
    let inside : c.args.row < offset_at (rows ends) (length (rows ends) - 1) = omega (arith, l, rw a.is at c.requires.in_range) in
    let before = subst (λ t. EndsBefore (rows t) c.args.row run) c.deref-in-RunEnd.ensures c.run_at-run.ensures.before in
    let above = subst (λ t. EndsAbove (rows t) c.args.row run) c.deref-in-RunEnd.ensures c.run_at-run.ensures.above in
    let within = run-within (rows ends) c.args.row run before inside in
    let read = c.cell_at-in-RunEnd.ensures ∙ ap (λ t. row_at (rows t) run) c.deref-in-RunEnd-2.ensures in
    let value = run_value-place (rows ends) (rows values) c.args.row run own.lengths within before (above run (omega arith) within) in
    rw a.is (read ∙ sym value ∙ sym (row_at-run_end ends values c.args.row inside))

pub array::ArrayRef::cell_at-whole_at-begin-requires : goal.array::ArrayRef::cell_at-whole_at-begin-requires
array::ArrayRef::cell_at-whole_at-begin-requires t c =
    let a = at_node c.self.view_is c.self.invariant c.in-Rle.is in
    let values = c.in-Rle.values.array.value in
    let indices = c.in-Rle.indices.array.value in
    let offsets = c.in-Rle.offsets.array.value in
    let l = length-rle values indices offsets c.in-Rle.field-3 in
    let within : c.args.row < c.in-Rle.field-3 = omega (arith, l, rw a.is at c.requires.in_range) in
    let there = rle-within values indices offsets c.in-Rle.field-3 c.args.row a.well_formed within in
    (search rules, rw c.deref-in-Rle.ensures (a.well_formed.3.offsets_type, there.0))

pub array::ArrayRef::cell_at-whole_at-index-requires : goal.array::ArrayRef::cell_at-whole_at-index-requires
array::ArrayRef::cell_at-whole_at-index-requires t c =
    let a = at_node c.self.view_is c.self.invariant c.in-Rle.is in
    let values = c.in-Rle.values.array.value in
    let indices = c.in-Rle.indices.array.value in
    let offsets = c.in-Rle.offsets.array.value in
    let l = length-rle values indices offsets c.in-Rle.field-3 in
    let within : c.args.row < c.in-Rle.field-3 = omega (arith, l, rw a.is at c.requires.in_range) in
    let there = rle-within values indices offsets c.in-Rle.field-3 c.args.row a.well_formed within in
    (search rules, rw c.deref-in-Rle-2.ensures (a.well_formed.3.indices_type, there.1))

pub array::ArrayRef::cell_at-rle_at-requires : goal.array::ArrayRef::cell_at-rle_at-requires
array::ArrayRef::cell_at-rle_at-requires t c =
    let a = at_node c.self.view_is c.self.invariant c.in-Rle.is in
    let values = c.in-Rle.values.array.value in
    let indices = c.in-Rle.indices.array.value in
    let offsets = c.in-Rle.offsets.array.value in
    let row = c.args.row in
    let l = length-rle values indices offsets c.in-Rle.field-3 in
    let within : row < c.in-Rle.field-3 = omega (arith, l, rw a.is at c.requires.in_range) in
    let code = rle-code values indices offsets c.in-Rle.field-3 row a.well_formed within in
    let place : is_place (length (rows values)) (rle_place (rows offsets) (rows indices) row) ≡ true = ap (λ z. is_place (length (rows values)) (int z)) code.is ∙ lt-ltb _ _ code.within in
    let begin = near-signed c.whole_at-begin.result c.whole_at-begin.ensures.least c.whole_at-begin.ensures.most ∙ c.whole_at-begin.ensures.whole ∙ ap (λ t. whole_or_zero (row_at (rows t) (row / block_rows))) c.deref-in-Rle.ensures in
    let index = near-signed c.whole_at-index.result c.whole_at-index.ensures.least c.whole_at-index.ensures.most ∙ c.whole_at-index.ensures.whole ∙ ap (λ t. whole_or_zero (row_at (rows t) row)) c.deref-in-Rle-2.ensures in
    let v = c.deref-in-Rle-3.ensures in
    (search rules, (subst (λ t. is_integer (tree_type t) ≡ true) (sym v) a.well_formed.3.values_type, (λ i. is_place (length (rows (v i))) (int (begin i +ℤ index i))) ∙ place))

pub array::ArrayRef::cell_at-returns-in-Rle : goal.array::ArrayRef::cell_at-returns-in-Rle
array::ArrayRef::cell_at-returns-in-Rle t c =
    let a = at_node c.self.view_is c.self.invariant c.in-Rle.is in
    let values = c.in-Rle.values.array.value in
    let indices = c.in-Rle.indices.array.value in
    let offsets = c.in-Rle.offsets.array.value in
    let row = c.args.row in
    let l = length-rle values indices offsets c.in-Rle.field-3 in
    let within : row < c.in-Rle.field-3 = omega (arith, l, rw a.is at c.requires.in_range) in
    let begin = near-signed c.whole_at-begin.result c.whole_at-begin.ensures.least c.whole_at-begin.ensures.most ∙ c.whole_at-begin.ensures.whole ∙ ap (λ t. whole_or_zero (row_at (rows t) (row / block_rows))) c.deref-in-Rle.ensures in
    let index = near-signed c.whole_at-index.result c.whole_at-index.ensures.least c.whole_at-index.ensures.most ∙ c.whole_at-index.ensures.whole ∙ ap (λ t. whole_or_zero (row_at (rows t) row)) c.deref-in-Rle-2.ensures in
    let v = c.deref-in-Rle-3.ensures in
    rw a.is (c.rle_at.ensures ∙ (λ i. looked_up (rows (v i)) (int (begin i +ℤ index i))) ∙ sym (row_at-rle values indices offsets c.in-Rle.field-3 row within))

pub array::ArrayRef::cell_at-sequence_at-requires : goal.array::ArrayRef::cell_at-sequence_at-requires
array::ArrayRef::cell_at-sequence_at-requires t c =
    let a = at_node c.self.view_is c.self.invariant c.in-Sequence.is in
    let here = c.in-Sequence in
    let l = length-sequence here.ptype here.field-1 here.first here.step here.len in
    let within : c.args.row < here.len = omega (arith, l, rw a.is at c.requires.in_range) in
    let f = first-signed here.ptype here.first here.step here.len c.args.row a.well_formed.0 within in
    let s = step-signed here.ptype here.first here.step here.len c.args.row a.well_formed.0 within in
    record { sequence = subst (λ z. z) (sym (λ i. IsSequence here.ptype (f i) (s i) here.len)) a.well_formed.0; in_range = within }

pub array::ArrayRef::cell_at-returns-in-Sequence : goal.array::ArrayRef::cell_at-returns-in-Sequence
array::ArrayRef::cell_at-returns-in-Sequence t c =
    let a = at_node c.self.view_is c.self.invariant c.in-Sequence.is in
    let here = c.in-Sequence in
    let l = length-sequence here.ptype here.field-1 here.first here.step here.len in
    let within : c.args.row < here.len = omega (arith, l, rw a.is at c.requires.in_range) in
    let f = first-signed here.ptype here.first here.step here.len c.args.row a.well_formed.0 within in
    let s = step-signed here.ptype here.first here.step here.len c.args.row a.well_formed.0 within in
    rw a.is (c.sequence_at.ensures ∙ (λ i. int (f i +ℤ pos c.args.row *ℤ s i)) ∙ sym (row_at-sequence here.ptype here.field-1 here.first here.step here.len c.args.row within))

pub array::ArrayRef::cell_at-whole_at-base-requires : goal.array::ArrayRef::cell_at-whole_at-base-requires
array::ArrayRef::cell_at-whole_at-base-requires t c =
    let a = at_node c.self.view_is c.self.invariant c.in-Delta.is in
    let bases = c.in-Delta.bases.array.value in
    let own = a.well_formed.2 in
    let l = length-delta bases c.in-Delta.deltas.array.value c.in-Delta.field-2 c.in-Delta.valid c.in-Delta.field-4 a.well_formed in
    let within : c.args.row < c.in-Delta.field-2 = omega (arith, l, rw a.is at c.requires.in_range) in
    let there = block-within c.in-Delta.field-2 c.args.row within in
    let block = there.0 in
    let many = own.bases_length in
    let begin : c.args.row / block_rows < length (rows bases) = omega (arith, block, many) in
    (search rules, rw c.deref-in-Delta.ensures (ap is_integer own.bases_type, begin))

pub array::ArrayRef::cell_at-summed_at-requires : goal.array::ArrayRef::cell_at-summed_at-requires
array::ArrayRef::cell_at-summed_at-requires t c =
    let a = at_node c.self.view_is c.self.invariant c.in-Delta.is in
    let deltas = c.in-Delta.deltas.array.value in
    let own = a.well_formed.2 in
    let l = length-delta c.in-Delta.bases.array.value deltas c.in-Delta.field-2 c.in-Delta.valid c.in-Delta.field-4 a.well_formed in
    let within : c.args.row < c.in-Delta.field-2 = omega (arith, l, rw a.is at c.requires.in_range) in
    let there = block-within c.in-Delta.field-2 c.args.row within in
    let inside = there.1 in
    let many = own.deltas_length in
    let few : c.args.row < length (rows deltas) = omega (arith, inside, many) in
    let base = c.whole_at-base.ensures in
    let own_base = sym (near-signed c.whole_at-base.result base.least base.most) in
    let d = sym c.deref-in-Delta-2.ensures in (
      search rules,
      (
        subst (λ z. negsuc (2 ^ 63 - 1) ≤ℤ z) own_base base.least,
        (subst (λ z. z ≤ℤ pos (2 ^ 64 - 1)) own_base base.most, (subst (λ t. is_integer (tree_type t) ≡ true) d (ap is_integer own.deltas_type ∙ ap is_integer own.bases_type), subst (λ t. c.args.row < length (rows t)) d few)),
      ),
    )

pub array::ArrayRef::cell_at-returns-in-Delta : goal.array::ArrayRef::cell_at-returns-in-Delta
array::ArrayRef::cell_at-returns-in-Delta t c =
    let a = at_node c.self.view_is c.self.invariant c.in-Delta.is in
    let bases = c.in-Delta.bases.array.value in
    let deltas = c.in-Delta.deltas.array.value in
    let row = c.args.row in
    let own = a.well_formed.2 in
    let l = length-delta bases deltas c.in-Delta.field-2 c.in-Delta.valid c.in-Delta.field-4 a.well_formed in
    let within : row < c.in-Delta.field-2 = omega (arith, l, rw a.is at c.requires.in_range) in
    let base = near-signed c.whole_at-base.result c.whole_at-base.ensures.least c.whole_at-base.ensures.most ∙ c.whole_at-base.ensures.whole ∙ ap (λ t. whole_or_zero (row_at (rows t) (row / block_rows))) c.deref-in-Delta.ensures ∙ whole_row (rows bases) (row / block_rows) in
    let d = c.deref-in-Delta-2.ensures in
    let typed = ap (λ t. integer_of (tree_type t)) d ∙ ap integer_of own.deltas_type in
    rw a.is
    (c.summed_at.ensures ∙ (λ i. cond (is_valid_at c.in-Delta.valid row) (int (wrap (typed i) (sum_before (base i) (rows (d i)) row (row + 1)))) null)
    ∙ sym (row_at-delta bases deltas c.in-Delta.field-2 c.in-Delta.valid c.in-Delta.field-4 a.well_formed row within))

-- ---- the row of timestamps in parts, or of frames of reference by blocks

pub array::ArrayRef::cell_at-whole_at-second-requires : goal.array::ArrayRef::cell_at-whole_at-second-requires
array::ArrayRef::cell_at-whole_at-second-requires t c =
    let here = c.in-DateTimeParts in
    let a = at_node c.self.view_is c.self.invariant here.is in
    let own = a.well_formed.3 in
    let l = length-datetime_parts here.kind here.field-1 here.days.array.value here.seconds.array.value here.subseconds.array.value in
    let same = own.seconds_length in
    let within : c.args.row < length (rows here.seconds.array.value) = omega (arith, l, same, rw a.is at c.requires.in_range) in
    (search rules, rw c.deref-in-DateTimeParts.ensures (whole-integer (tree_type here.seconds.array.value) own.seconds_type, within))

pub array::ArrayRef::cell_at-whole_at-subsecond-requires : goal.array::ArrayRef::cell_at-whole_at-subsecond-requires
array::ArrayRef::cell_at-whole_at-subsecond-requires t c =
    let here = c.in-DateTimeParts in
    let a = at_node c.self.view_is c.self.invariant here.is in
    let own = a.well_formed.3 in
    let l = length-datetime_parts here.kind here.field-1 here.days.array.value here.seconds.array.value here.subseconds.array.value in
    let same = own.subseconds_length in
    let within : c.args.row < length (rows here.subseconds.array.value) = omega (arith, l, same, rw a.is at c.requires.in_range) in
    (search rules, rw c.deref-in-DateTimeParts-2.ensures (whole-integer (tree_type here.subseconds.array.value) own.subseconds_type, within))

pub array::ArrayRef::cell_at-cell_at-requires-in-DateTimeParts : goal.array::ArrayRef::cell_at-cell_at-requires-in-DateTimeParts
array::ArrayRef::cell_at-cell_at-requires-in-DateTimeParts t c =
    let here = c.in-DateTimeParts in
    let a = at_node c.self.view_is c.self.invariant here.is in
    let l = length-datetime_parts here.kind here.field-1 here.days.array.value here.seconds.array.value here.subseconds.array.value in
    let within : c.args.row < length (rows here.days.array.value) = omega (arith, l, rw a.is at c.requires.in_range) in
    (search rules, rw c.deref-in-DateTimeParts-3.ensures (ap is_flat a.well_formed.3.days_type, within))

pub array::ArrayRef::cell_at-combined_at-requires : goal.array::ArrayRef::cell_at-combined_at-requires
array::ArrayRef::cell_at-combined_at-requires t c =
    let here = c.in-DateTimeParts in
    let a = at_node c.self.view_is c.self.invariant here.is in
    let days = here.days.array.value in
    let seconds = here.seconds.array.value in
    let subseconds = here.subseconds.array.value in
    let row = c.args.row in
    let unit = units_per_second here.kind.unit in
    let l = length-datetime_parts here.kind here.field-1 days seconds subseconds in
    let within : row < length (rows days) = omega (arith, l, rw a.is at c.requires.in_range) in
    let second = near-signed c.whole_at-second.result c.whole_at-second.ensures.least c.whole_at-second.ensures.most ∙ c.whole_at-second.ensures.whole ∙ ap (λ t. whole_or_zero (row_at (rows t) row)) c.deref-in-DateTimeParts.ensures in
    let subsecond = near-signed c.whole_at-subsecond.result c.whole_at-subsecond.ensures.least c.whole_at-subsecond.ensures.most ∙ c.whole_at-subsecond.ensures.whole ∙ ap (λ t. whole_or_zero (row_at (rows t) row)) c.deref-in-DateTimeParts-2.ensures in
    let value = c.cell_at-in-DateTimeParts.ensures ∙ ap (λ t. row_at (rows t) row) c.deref-in-DateTimeParts-3.ensures in
    let read = ap cell c.integer.ensures ∙ ap (λ v. cell (integer_in v)) value ∙ cell-row_at days row a.well_formed.0 (ap is_integer a.well_formed.3.days_type) within in
    let canonical = below_passes (is_canonical_at unit (rows days) (rows seconds) (rows subseconds)) (length (rows days)) row a.well_formed.3.canonical within in
    λ z e.
    (λ i. is_canonical unit (parts z (second i) (subsecond i)))
    ∙ subst (λ v. (is_null v || is_canonical unit (parts (whole_or_zero v) (whole_or_zero (row_at (rows seconds) row)) (whole_or_zero (row_at (rows subseconds) row)))) ≡ true) (sym read ∙ ap cell e) canonical

pub array::ArrayRef::cell_at-returns-in-DateTimeParts : goal.array::ArrayRef::cell_at-returns-in-DateTimeParts
array::ArrayRef::cell_at-returns-in-DateTimeParts t c =
    let here = c.in-DateTimeParts in
    let a = at_node c.self.view_is c.self.invariant here.is in
    let days = here.days.array.value in
    let seconds = here.seconds.array.value in
    let subseconds = here.subseconds.array.value in
    let row = c.args.row in
    let unit = units_per_second here.kind.unit in
    let l = length-datetime_parts here.kind here.field-1 days seconds subseconds in
    let within : row < length (rows days) = omega (arith, l, rw a.is at c.requires.in_range) in
    let second = near-signed c.whole_at-second.result c.whole_at-second.ensures.least c.whole_at-second.ensures.most ∙ c.whole_at-second.ensures.whole ∙ ap (λ t. whole_or_zero (row_at (rows t) row)) c.deref-in-DateTimeParts.ensures in
    let subsecond = near-signed c.whole_at-subsecond.result c.whole_at-subsecond.ensures.least c.whole_at-subsecond.ensures.most ∙ c.whole_at-subsecond.ensures.whole ∙ ap (λ t. whole_or_zero (row_at (rows t) row)) c.deref-in-DateTimeParts-2.ensures in
    let value = c.cell_at-in-DateTimeParts.ensures ∙ ap (λ t. row_at (rows t) row) c.deref-in-DateTimeParts-3.ensures in
    let read = ap cell c.integer.ensures ∙ ap (λ v. cell (integer_in v)) value ∙ cell-row_at days row a.well_formed.0 (ap is_integer a.well_formed.3.days_type) within in
    rw a.is
    (c.combined_at.ensures ∙ (λ i. each_int (λ z. sum_of unit (parts z (second i) (subsecond i))) (read i)) ∙ sym (row_at-datetime_parts here.kind here.field-1 days seconds subseconds row within))

pub array::ArrayRef::cell_at-whole_at-reference-requires : goal.array::ArrayRef::cell_at-whole_at-reference-requires
array::ArrayRef::cell_at-whole_at-reference-requires t c =
    let here = c.in-FoRV2 in
    let a = at_node c.self.view_is c.self.invariant here.is in
    let encoded = here.encoded.array.value in
    let references = here.references.array.value in
    let own = a.well_formed.2 in
    let l = length-frame_of_reference_v2 encoded references in
    let within : c.args.row < length (rows encoded) = omega (arith, l, rw a.is at c.requires.in_range) in
    let there = block-within (length (rows encoded)) c.args.row within in
    let block = there.0 in
    let many = own.lengths in
    let begin : c.args.row / block_rows < length (rows references) = omega (arith, block, many) in
    (search rules, rw c.deref-in-FoRV2.ensures (whole-integer (tree_type references) own.references_type, begin))

pub array::ArrayRef::cell_at-cell_at-requires-in-FoRV2 : goal.array::ArrayRef::cell_at-cell_at-requires-in-FoRV2
array::ArrayRef::cell_at-cell_at-requires-in-FoRV2 t c =
    let here = c.in-FoRV2 in
    let a = at_node c.self.view_is c.self.invariant here.is in
    let encoded = here.encoded.array.value in
    let within : c.args.row < length (rows encoded) = omega (arith, length-frame_of_reference_v2 encoded here.references.array.value, rw a.is at c.requires.in_range) in
    (search rules, rw c.deref-in-FoRV2-3.ensures (ap is_flat a.well_formed.2.encoded_type, within))

pub array::ArrayRef::cell_at-framed_at-requires-clause-reference : goal.array::ArrayRef::cell_at-framed_at-requires-clause-reference
array::ArrayRef::cell_at-framed_at-requires-clause-reference t c =
    let here = c.in-FoRV2 in
    let a = at_node c.self.view_is c.self.invariant here.is in
    let encoded = here.encoded.array.value in
    let references = here.references.array.value in
    let own = a.well_formed.2 in
    let row = c.args.row in
    let within : row < length (rows encoded) = omega (arith, length-frame_of_reference_v2 encoded references, rw a.is at c.requires.in_range) in
    let there = block-within (length (rows encoded)) row within in
    let block = there.0 in
    let many = own.lengths in
    let begin : row / block_rows < length (rows references) = omega (arith, block, many) in
    let base = near-signed c.whole_at-reference.result c.whole_at-reference.ensures.least c.whole_at-reference.ensures.most ∙ c.whole_at-reference.ensures.whole ∙ ap (λ t. whole_or_zero (row_at (rows t) (row / block_rows))) c.deref-in-FoRV2.ensures in
    let typed = c.ptype-ptype.ensures ∙ ap integer_of (c.dtype.ensures ∙ ap tree_type c.deref-in-FoRV2-2.ensures) in
    (λ i. lies_in (typed i) (base i)) ∙ reference-held references (row / block_rows) a.well_formed.1 (whole-integer (tree_type references) own.references_type) begin

pub array::ArrayRef::cell_at-framed_at-requires-clause-held : goal.array::ArrayRef::cell_at-framed_at-requires-clause-held
array::ArrayRef::cell_at-framed_at-requires-clause-held t c =
    let here = c.in-FoRV2 in
    let a = at_node c.self.view_is c.self.invariant here.is in
    let encoded = here.encoded.array.value in
    let references = here.references.array.value in
    let within : c.args.row < length (rows encoded) = omega (arith, length-frame_of_reference_v2 encoded references, rw a.is at c.requires.in_range) in
    let read = c.cell_at-in-FoRV2.ensures ∙ ap (λ t. row_at (rows t) c.args.row) c.deref-in-FoRV2-3.ensures in
    subst IsWord (sym read) (frame-word encoded references c.args.row a.well_formed within)

pub array::ArrayRef::cell_at-returns-in-FoRV2 : goal.array::ArrayRef::cell_at-returns-in-FoRV2
array::ArrayRef::cell_at-returns-in-FoRV2 t c =
    let here = c.in-FoRV2 in
    let a = at_node c.self.view_is c.self.invariant here.is in
    let encoded = here.encoded.array.value in
    let references = here.references.array.value in
    let row = c.args.row in
    let within : row < length (rows encoded) = omega (arith, length-frame_of_reference_v2 encoded references, rw a.is at c.requires.in_range) in
    let base = near-signed c.whole_at-reference.result c.whole_at-reference.ensures.least c.whole_at-reference.ensures.most ∙ c.whole_at-reference.ensures.whole ∙ ap (λ t. whole_or_zero (row_at (rows t) (row / block_rows))) c.deref-in-FoRV2.ensures in
    let typed = c.ptype-ptype.ensures ∙ ap integer_of (c.dtype.ensures ∙ ap tree_type c.deref-in-FoRV2-2.ensures) in
    let read = c.cell_at-in-FoRV2.ensures ∙ ap (λ t. row_at (rows t) row) c.deref-in-FoRV2-3.ensures in
    rw a.is (c.framed_at.ensures ∙ (λ i. each_int (λ z. wrap (typed i) (base i +ℤ z)) (read i)) ∙ sym (row_at-frame_of_reference_v2 encoded references row within))

-- ---- the bytes of a row

pub node::var_bin::piece-part-requires : goal.node::var_bin::piece-part-requires
node::var_bin::piece-part-requires t c =
    let s = offset_step (length c.args.bytes.now) (rows c.args.offsets.now) c.args.row c.requires.ends c.requires.in_range in
    record { rising = omega (arith, s.rising, c.offset_at-start.ensures, c.offset_at-end.ensures); within = omega (arith, s.within, c.offset_at-end.ensures, ap length c.as_slice.ensures) }

-- ---- the patch of a row

pub array::Patches::cell_at-returns-in_err-place : goal.array::Patches::cell_at-returns-in_err-place
array::Patches::cell_at-returns-in_err-place t c fill =
    let p = c.args.self.now in
    let none : place_of (rows p.indices) (p.offset + c.args.row) ≡ None = sym c.place_of.ensures ∙ c.in_err-place.was in
    rw c.from_residual.ensures (sym (patched-fill (rows p.indices) (rows p.values) fill (p.offset + c.args.row) none))

pub array::Patches::cell_at-returns : goal.array::Patches::cell_at-returns
array::Patches::cell_at-returns t c fill =
    let p = c.args.self.now in
    let found : place_of (rows p.indices) (p.offset + c.args.row) ≡ Some c.in_ok-place.place = sym c.place_of.ensures ∙ c.in_ok-place.was in
    let lengths = subst (λ q. length (rows q.indices) ≡ length (rows q.values)) c.self.view_is c.self.invariant.2.lengths in
    let read = c.cell_at.ensures ∙ ap (λ q. row_at (rows q.values) c.in_ok-place.place) c.self.view_is in
    read ∙ sym (patched-place (rows p.indices) (rows p.values) fill (p.offset + c.args.row) c.in_ok-place.place lengths found)

-- ---- the place of a patch

pub array::Patches::look-returns-in-Some : goal.array::Patches::look-returns-in-Some
array::Patches::look-returns-in-Some t c =
    let middle = c.args.low + (c.args.high - c.args.low) / 2 in
    let read : IsRead c.args.self.now middle c.as_index.result = read_of c.self.view_is c.self.invariant (omega (arith, c.requires.some, c.requires.within)) c.cell_at.ensures c.integer.ensures c.as_index.ensures in
    found-there c.args.self.now c.args.wanted middle c.in-Some.index (subst (IsRead c.args.self.now middle) c.in-Some.is read) c.if-index-wanted.true

pub array::Patches::look-returns-in-Some-2 : goal.array::Patches::look-returns-in-Some-2
array::Patches::look-returns-in-Some-2 t c =
    let middle = c.args.low + (c.args.high - c.args.low) / 2 in
    let read : IsRead c.args.self.now middle c.as_index.result = read_of c.self.view_is c.self.invariant (omega (arith, c.requires.some, c.requires.within)) c.cell_at.ensures c.integer.ensures c.as_index.ensures in
    half-after c.args.self.now c.args.wanted c.args.low c.args.high middle c.in-Some.index (subst (IsRead c.args.self.now middle) c.in-Some.is read) c.if-index-wanted-2.true (omega arith) (omega (arith, c.requires.some)) (omega arith)

pub array::Patches::look-returns-in_default : goal.array::Patches::look-returns-in_default
array::Patches::look-returns-in_default t c =
    let middle = c.args.low + (c.args.high - c.args.low) / 2 in
    let read : IsRead c.args.self.now middle c.as_index.result = read_of c.self.view_is c.self.invariant (omega (arith, c.requires.some, c.requires.within)) c.cell_at.ensures c.integer.ensures c.as_index.ensures in
    half-before c.args.self.now c.args.wanted c.args.low c.args.high middle c.in-Some-2.index (subst (IsRead c.args.self.now middle) c.in-Some-2.is read) (omega (arith, c.if-index-wanted.false, c.if-index-wanted-2.false)) (omega arith) (omega (arith, c.requires.some)) (omega arith)

pub array::Patches::look-returns-in_default-2 : goal.array::Patches::look-returns-in_default-2
array::Patches::look-returns-in_default-2 t c =
    let middle = c.args.low + (c.args.high - c.args.low) / 2 in
    let read : IsRead c.args.self.now middle c.as_index.result = read_of c.self.view_is c.self.invariant (omega (arith, c.requires.some, c.requires.within)) c.cell_at.ensures c.integer.ensures c.as_index.ensures in
    absurd (read-none c.args.self.now middle (subst (IsRead c.args.self.now middle) c.in_default.is read))

-- ---- the patches of a chunk

pub array::Patches::before_chunk-overflow_cast-result : goal.array::Patches::before_chunk-overflow_cast-result
array::Patches::before_chunk-overflow_cast-result t c =
    let p = c.args.self.now in
    let held = subst WellFormedPatches c.self.view_is c.self.invariant in
    let own : p.chunks ≡ Some c.in-Some.chunks = ap (λ q. q.chunks) (sym c.self.view_is) ∙ c.in-Some.is in
    let within : c.args.chunk < length (rows c.in-Some.chunks) = omega (arith, c.if-chunk-from.true, c.from.ensures, c.len.ensures) in
    let count = c.offset_at.ensures ∙ before-offset p c.in-Some.chunks held own c.args.chunk within in
    let long = c.len-all.ensures ∙ ap (λ q. length (rows q.indices)) c.self.view_is in
    omega (arith, count, long, before-most p c.in-Some.chunks held own c.args.chunk)

pub array::Patches::before_chunk-returns-then-chunk-from-clause-most : goal.array::Patches::before_chunk-returns-then-chunk-from-clause-most
array::Patches::before_chunk-returns-then-chunk-from-clause-most t c =
    let p = c.args.self.now in
    let held = subst WellFormedPatches c.self.view_is c.self.invariant in
    let own : p.chunks ≡ Some c.in-Some.chunks = ap (λ q. q.chunks) (sym c.self.view_is) ∙ c.in-Some.is in
    let within : c.args.chunk < length (rows c.in-Some.chunks) = omega (arith, c.if-chunk-from.true, c.from.ensures, c.len.ensures) in
    let count = c.offset_at.ensures ∙ before-offset p c.in-Some.chunks held own c.args.chunk within in
    omega (arith, count, before-most p c.in-Some.chunks held own c.args.chunk)

pub array::Patches::before_chunk-returns-then-chunk-from-clause-count : goal.array::Patches::before_chunk-returns-then-chunk-from-clause-count
array::Patches::before_chunk-returns-then-chunk-from-clause-count t c =
    let p = c.args.self.now in
    let held = subst WellFormedPatches c.self.view_is c.self.invariant in
    let own : p.chunks ≡ Some c.in-Some.chunks = ap (λ q. q.chunks) (sym c.self.view_is) ∙ c.in-Some.is in
    let within : c.args.chunk < length (rows c.in-Some.chunks) = omega (arith, c.if-chunk-from.true, c.from.ensures, c.len.ensures) in
    let count = c.offset_at.ensures ∙ before-offset p c.in-Some.chunks held own c.args.chunk within in
    subst (λ o. IfSome o (λ _. c.offset_at.result ≡ indices_below (block_rows * c.args.chunk) (rows p.indices))) (sym own) count

pub array::Patches::before_chunk-returns-else-chunk-from-clause-count : goal.array::Patches::before_chunk-returns-else-chunk-from-clause-count
array::Patches::before_chunk-returns-else-chunk-from-clause-count t c =
    let p = c.args.self.now in
    let held = subst WellFormedPatches c.self.view_is c.self.invariant in
    let own : p.chunks ≡ Some c.in-Some.chunks = ap (λ q. q.chunks) (sym c.self.view_is) ∙ c.in-Some.is in
    let past : length (rows c.in-Some.chunks) ≤ c.args.chunk = omega (arith, c.if-chunk-from.false, c.from.ensures, c.len.ensures) in
    let count : c.len-all.result ≡ indices_below (block_rows * c.args.chunk) (rows p.indices) = c.len-all.ensures ∙ ap (λ q. length (rows q.indices)) c.self.view_is ∙ before-last p c.in-Some.chunks held own c.args.chunk past in
    subst (λ o. IfSome o (λ _. c.len-all.result ≡ indices_below (block_rows * c.args.chunk) (rows p.indices))) (sym own) count

pub array::Patches::chunk_of-returns-in-Some-clause-order : goal.array::Patches::chunk_of-returns-in-Some-clause-order
array::Patches::chunk_of-returns-in-Some-clause-order t c =
    let p = c.args.self.now in
    let held = subst WellFormedPatches c.self.view_is c.self.invariant in
    let own = ap (λ q. q.chunks) (sym c.self.view_is) ∙ c.in-Some.is in
    chunk_order p held c.args.wanted c.before_chunk.result c.before_chunk-in-Some.result (where_some p.chunks _ _ own c.before_chunk.ensures.count) (where_some p.chunks _ _ own c.before_chunk-in-Some.ensures.count)

pub array::Patches::chunk_of-returns-in-Some-clause-below : goal.array::Patches::chunk_of-returns-in-Some-clause-below
array::Patches::chunk_of-returns-in-Some-clause-below t c =
    let p = c.args.self.now in
    let held = subst WellFormedPatches c.self.view_is c.self.invariant in
    let own = ap (λ q. q.chunks) (sym c.self.view_is) ∙ c.in-Some.is in
    chunk_below p held c.args.wanted c.before_chunk.result c.before_chunk-in-Some.result (where_some p.chunks _ _ own c.before_chunk.ensures.count) (where_some p.chunks _ _ own c.before_chunk-in-Some.ensures.count)

pub array::Patches::chunk_of-returns-in-Some-clause-from : goal.array::Patches::chunk_of-returns-in-Some-clause-from
array::Patches::chunk_of-returns-in-Some-clause-from t c =
    let p = c.args.self.now in
    let held = subst WellFormedPatches c.self.view_is c.self.invariant in
    let own = ap (λ q. q.chunks) (sym c.self.view_is) ∙ c.in-Some.is in
    chunk_from p held c.args.wanted c.before_chunk.result c.before_chunk-in-Some.result (where_some p.chunks _ _ own c.before_chunk.ensures.count) (where_some p.chunks _ _ own c.before_chunk-in-Some.ensures.count)

pub array::Patches::place_of-returns : goal.array::Patches::place_of-returns
array::Patches::place_of-returns t c =
    let p = c.args.self.now in
    let inv = c.loop-low.invariant in
    let met : c.loop-low.high ≡ c.loop-low.low = omega (arith, inv.2, c.loop-low-test.false) in
    let none = place-none (rows p.indices) c.index_at-wanted.result c.loop-low.low inv.0 (rw met at inv.1) in
    sym (subst (λ n. place_of (rows p.indices) n ≡ None) c.index_at-wanted.ensures none)

-- ---- whole numbers and the places of runs

pub node::offsets::whole_at-returns-clause-least : goal.node::offsets::whole_at-returns-clause-least
node::offsets::whole_at-returns-clause-least t c =
    let own = c.whole.ensures ∙ ap whole_or_zero c.cell_at.ensures in
    let near = whole-near c.args.offsets.now c.args.place c.known.ensures c.requires.integers c.requires.in_range in
    let least : negsuc (2 ^ 63 - 1) ≤ℤ c.whole.result = subst (λ z. negsuc (2 ^ 63 - 1) ≤ℤ z) (sym own) near.least in
    let most : c.whole.result ≤ℤ pos (2 ^ 64 - 1) = subst (λ z. z ≤ℤ pos (2 ^ 64 - 1)) (sym own) near.most in
    omega (arith, ints, least, most)

pub node::offsets::whole_at-returns-clause-most : goal.node::offsets::whole_at-returns-clause-most
node::offsets::whole_at-returns-clause-most t c =
    let own = c.whole.ensures ∙ ap whole_or_zero c.cell_at.ensures in
    let near = whole-near c.args.offsets.now c.args.place c.known.ensures c.requires.integers c.requires.in_range in
    let least : negsuc (2 ^ 63 - 1) ≤ℤ c.whole.result = subst (λ z. negsuc (2 ^ 63 - 1) ≤ℤ z) (sym own) near.least in
    let most : c.whole.result ≤ℤ pos (2 ^ 64 - 1) = subst (λ z. z ≤ℤ pos (2 ^ 64 - 1)) (sym own) near.most in
    omega (arith, ints, least, most)

-- the differences of a row's block

pub node::delta_rows::sum_at-loop-place-init : goal.node::delta_rows::sum_at-loop-place-init
node::delta_rows::sum_at-loop-place-init t c =
    let least = c.requires.least in
    let most = c.requires.most in
    let begin = sum-start c.args.base (rows c.args.deltas.now) c.args.row (block_rows * (c.args.row / block_rows)) refl in
    (omega (arith, ints, begin), omega (arith, ints, least), omega (arith, ints, most))

pub node::delta_rows::sum_at-loop-place-preserved : goal.node::delta_rows::sum_at-loop-place-preserved
node::delta_rows::sum_at-loop-place-preserved t c =
    let e = c.whole_at-sum.ensures in
    let whole = e.whole in
    let least = e.least in
    let most = e.most in
    let inv = c.loop-place.invariant in
    let sum = inv.0 in
    let low = inv.1 in
    let high = inv.2 in
    let next = sum-next c.args.base (rows c.args.deltas.now) c.args.row c.loop-place.place (omega arith) (omega arith) in
    (omega (arith, ints, whole, least, most, sum, low, high, next), omega (arith, ints, least, most, low, high), omega (arith, ints, least, most, low, high))

pub node::delta_rows::sum_at-returns : goal.node::delta_rows::sum_at-returns
node::delta_rows::sum_at-returns t c =
    let inv = c.loop-place.invariant in
    let sum = inv.0 in
    let low = inv.1 in
    let high = inv.2 in
    let end : c.loop-place.place ≡ c.args.row + 1 = omega arith in
    let all = ap (sum_before c.args.base (rows c.args.deltas.now) c.args.row) end in
    omega (arith, ints, sum, low, high, all)

-- the value at the sum of two numbers

pub node::rle_rows::rle_at-overflow_add-place : goal.node::rle_rows::rle_at-overflow_add-place
node::rle_rows::rle_at-overflow_add-place t c =
    let code = code_is (rows c.args.values.now) (c.args.begin +ℤ c.args.index) c.requires.place in
    let is = code.is in
    let within = code.within in
    omega (arith, ints, is, within, c.len-places.ensures)

-- the run of a row

pub node::run_end::run_at-loop-low-preserved-then-offset_at-from : goal.node::run_end::run_at-loop-low-preserved-then-offset_at-from
node::run_end::run_at-loop-low-preserved-then-offset_at-from t c =
    let ends = rows c.args.ends.now in
    let inv = c.loop-low.invariant in
    let low = inv.2 in
    let high = inv.3 in
    let middle = c.loop-low.low + (c.loop-low.high - c.loop-low.low) / 2 in
    let within : middle < length ends = omega arith in
    (before-next 1 (2 ^ 64) ends c.args.row middle c.requires.rising within (omega (arith, c.offset_at.ensures, c.from.ensures)), inv.1, omega arith, high)

pub node::run_end::run_at-loop-low-preserved : goal.node::run_end::run_at-loop-low-preserved
node::run_end::run_at-loop-low-preserved t c =
    let ends = rows c.args.ends.now in
    let inv = c.loop-low.invariant in
    let low = inv.2 in
    let high = inv.3 in
    let middle = c.loop-low.low + (c.loop-low.high - c.loop-low.low) / 2 in
    let within : middle < length ends = omega arith in
    (inv.0, above-next 1 (2 ^ 64) ends c.args.row middle c.requires.rising within (omega (arith, c.offset_at.ensures, c.from.ensures)), omega arith, omega arith)

-- ---- the row of a node packed in blocks

pub array::ArrayRef::cell_at-bits_at-bits-requires : goal.array::ArrayRef::cell_at-bits_at-bits-requires
array::ArrayRef::cell_at-bits_at-bits-requires t c =
    let here = c.in-BitPackedV2 in
    let a = at_node c.self.view_is c.self.invariant here.is in
    let k = plain_blocks here.field-0 here.packed here.field-3 here.valid here.field-6 in
    let offsets = here.offsets.array.value in
    let l = length-blocks_of k offsets (unboxed here.patches) a.well_formed in
    let within : c.args.row < here.field-3 = omega (arith, l, rw a.is at c.requires.in_range) in
    let own = block_row_of k offsets (unboxed here.patches) c.args.row a.well_formed within in
    (search rules, rw c.deref-in-BitPackedV2.ensures (own.integers, (own.widths, (own.block, own.bytes))))

pub array::ArrayRef::cell_at-block_row_at-requires : goal.array::ArrayRef::cell_at-block_row_at-requires
array::ArrayRef::cell_at-block_row_at-requires t c =
    let here = c.in-BitPackedV2 in
    let a = at_node c.self.view_is c.self.invariant here.is in
    let k = plain_blocks here.field-0 here.packed here.field-3 here.valid here.field-6 in
    (search rules, flat_blocks k here.offsets.array.value (unboxed here.patches) a.well_formed)

pub array::ArrayRef::cell_at-returns-in-BitPackedV2 : goal.array::ArrayRef::cell_at-returns-in-BitPackedV2
array::ArrayRef::cell_at-returns-in-BitPackedV2 t c =
    let here = c.in-BitPackedV2 in
    let a = at_node c.self.view_is c.self.invariant here.is in
    let k = plain_blocks here.field-0 here.packed here.field-3 here.valid here.field-6 in
    let offsets = here.offsets.array.value in
    let o = unboxed here.patches in
    let row = c.args.row in
    let l = length-blocks_of k offsets o a.well_formed in
    let within : row < here.field-3 = omega (arith, l, rw a.is at c.requires.in_range) in
    let d = c.deref-in-BitPackedV2.ensures in
    let bits = c.bits_at-bits.ensures ∙ (λ i. packed_in_block here.packed (rows (d i)) row) in
    rw a.is (c.block_row_at.ensures here.packed (rows offsets) bits ∙ sym (row_at-blocks_of k offsets o row a.well_formed within))

pub node::bit_packed_v2_rows::bits_at-bits_between-requires : goal.node::bit_packed_v2_rows::bits_at-bits_between-requires
node::bit_packed_v2_rows::bits_at-bits_between-requires t c =
    let offsets = rows c.args.offsets.now in
    let begin = c.offset_at-begin.ensures in
    let end = c.offset_at-end.ensures in
    let order = width-order offsets (c.args.row / block_rows) c.requires.widths c.requires.block in
    let narrow = width-narrow offsets (c.args.row / block_rows) c.requires.widths c.requires.block in
    record {
      order = omega (arith, begin, end, order);
      narrow = omega (arith, begin, end, narrow);
      in_block = omega arith;
      bytes = omega (arith, end, c.requires.bytes, ap length c.as_slice.ensures);
    }

pub node::bit_packed_v2_rows::bits_at-returns : goal.node::bit_packed_v2_rows::bits_at-returns
node::bit_packed_v2_rows::bits_at-returns t c =
    let row = c.args.row % block_rows in
    let begin = c.offset_at-begin.ensures in
    let end = c.offset_at-end.ensures in
    let bytes = c.as_slice.ensures in
    ap (λ n. int (pos n)) c.bits_between.ensures ∙ (λ i. int (pos (packed_row (drop (128 * begin i) (bytes i)) (end i - begin i) row)))
