use Rattle.std.proofs.Common.{◌≡◌, ◌<◌, ◌≤◌, ◌∙◌, ◌^◌, ap, arith, refl, subst, length, map, sym, true, rules, FitsSigned, Some, None}
use Rattle.std.specs.Int.{w128}
use Rattle.std.proofs.lemmas.Int.{to_z-of_z}
use Rattle.std.specs.Prelude.{IsTrue, not, pos, ◌*ℤ◌}
use Rattle.std.proofs.lemmas.Bool.{leb-true, and_parts}
use Rattle.std.proofs.lemmas.List.{length-map}
use Rattle.std.proofs.lemmas.Result.{MatchResult-weaker}
use Rattle.vx_base.specs.declared.ptype.PType.TheVariants.{I64}
use Rattle.vx_base.specs.Answers.{OrMemory}
use Rattle.vx_base.specs.Integers.{is_signed}
use Rattle.vx_base.specs.PlainType.{is_flat, is_integer, integer_of}
use Rattle.vx_base.specs.PlainValue.{int, whole_or_zero}
use Rattle.vx_base.proofs.IntegerLemmas.{is_unsigned-is_integer}
use Rattle.vx_model.specs.Decoded.{zeroed_by}
use Rattle.vx_model.specs.Refusals.{validity_length}
use Rattle.vx_time.specs.PartsOf.{units_per_second}
use Rattle.vx_values.specs.Combined.{combined}
use Rattle.vx_values.specs.ValuesOf.{ints, AreRows}
use Rattle.vx_blocks.specs.Sequence.{sequence_row}
use Rattle.vx_model.specs.Rows.{rows, below}
use Rattle.vx_model.specs.Tree.{dict, frame_of_reference, plain_blocks, plain_packed, zig_zag}
use Rattle.vx_model.specs.TreeType.{tree_type}
use Rattle.vx_model.specs.WellFormed.{IsSequence, WellFormed, are_offsets, ascend}
use Rattle.vx_model.proofs.BlocksLemmas.{blocks-blocks_of}
use Rattle.vx_model.proofs.MadeLemmas.{has_length}
use Rattle.vx_model.proofs.PackedOfLemmas.{packed-packed_of}
use Rattle.vx_model.proofs.SparseLemmas.{parts-sparse_of, type-sparse_of}
use Rattle.vx_model.proofs.VarBinLemmas.{length-cut_at}
use Rattle.vx_values.specs.IntsOf.{wholes_of}
use Rattle.vx_array.specs.declared.array.Node.{Node}
use Rattle.vx_array.specs.declared.array.Node.TheVariants as nodes
use Rattle.vx_array.specs.HasRuns.{has_blocks, has_columns, has_runs}
use Rattle.vx_array.specs.IsDecoded.{IsDecoded}
use Rattle.vx_array.specs.TreeOf.{tree_of, unboxed}
use Rattle.vx_array.proofs.AtNode.{at_node, packed_alone}
use Rattle.vx_array.proofs.BlockArrays.{has_blocks-blocks_of}
use Rattle.vx_array.proofs.BlockRows.{whole-offsets, patches_whole, patches_long, validity_long, decoded-widths, decoded-blocks, decoded-sized, blocks_rows}
use Rattle.vx_array.proofs.DictRuns.{dict_runs_rows, run_codes}
use Rattle.vx_array.proofs.Flat.{integer_flat}
use Rattle.vx_array.proofs.Decodings.{integers_of, bits_of_integers, held_integers, lent_integers, stored_integers, wholes-rows, bool_rows, primitive_rows, view_rows, var_bin_rows, timestamp_rows, masked_rows_of, packed_rows, moved_rows, zig_zag_rows, dict_rows}
use Rattle.vx_array.proofs.Frames.{frames_rows}
use Rattle.vx_array.proofs.PackedDecodings.{moved_words_rows, narrow_words, zigzag_words_rows}
use Rattle.vx_array.proofs.PartArrays.{parts_rows}
use Rattle.vx_array.proofs.RunDecodings.{sequence_rows, delta_rows}
use Rattle.vx_array.proofs.SparseOf.{blocks-sparse_of, columns-sparse_of, has_runs-sparse_of}
use Rattle.vx_array.proofs.PlacedRows.{run_end_rows}
use Rattle.vx_array.proofs.RunRows.{rle_rows, block_place-word}
use Rattle.vx_array.proofs.array.ArrayRef.+decoded.Goals as goal

pub decoded-decoded_bool-requires : goal.decoded-decoded_bool-requires
decoded-decoded_bool-requires t c =
    let a = at_node c.self.view_is c.self.invariant c.in-Bool.is in
    has_length _ _ _ a.well_formed.0

pub decoded-returns-in-Bool : goal.decoded-returns-in-Bool
decoded-returns-in-Bool t c =
    let a = at_node c.self.view_is c.self.invariant c.in-Bool.is in
    rw a.is (MatchResult-weaker c.decoded_bool.result c.decoded_bool.ensures (λ d r. bool_rows _ _ _ d a.well_formed r) (λ e n. n))

pub decoded-decoded_view-requires : goal.decoded-decoded_view-requires
decoded-decoded_view-requires t c =
    let a = at_node c.self.view_is c.self.invariant c.in-VarBinView.is in
    has_length _ _ _ a.well_formed.0.validity

pub decoded-returns-in-VarBinView : goal.decoded-returns-in-VarBinView
decoded-returns-in-VarBinView t c =
    let a = at_node c.self.view_is c.self.invariant c.in-VarBinView.is in
    rw a.is (MatchResult-weaker c.decoded_view.result c.decoded_view.ensures (λ d r. view_rows _ _ _ d a.well_formed r) (λ e n. n))

pub decoded-integers-requires : goal.decoded-integers-requires
decoded-integers-requires t c =
    let a = at_node c.self.view_is c.self.invariant c.in-VarBin.is in
    (search rules, subst (λ t. is_integer (tree_type t) ≡ true) (sym c.deref.ensures) a.well_formed.1.offsets_type)

pub decoded-decoded_var_bin-requires : goal.decoded-decoded_var_bin-requires
decoded-decoded_var_bin-requires t c =
    let a = at_node c.self.view_is c.self.invariant c.in-VarBin.is in
    let got = c.in_ok-offsets-in-VarBin in
    let xs = c.as_ints.result.now in
    let offsets = c.in-VarBin.offsets.array.value in
    let w = a.well_formed.1 in
    let os = lent_integers _ offsets got.offsets xs got.field-0-1 c.deref.ensures c.as_ints.ensures got.ensures in
    let e = wholes-rows offsets xs got.field-0-1 a.well_formed.0 w.offsets_type w.not_null os in
    let len : length (wholes_of xs) ≡ length (rows offsets) = sym (length-map (wholes_of xs) int) ∙ ap length e in
    let bits = ap (validity_length c.in-VarBin.valid) (sym (length-cut_at (rows offsets) c.in-VarBin.bytes)) ∙ has_length _ _ _ w.values.validity in
    let some : 1 ≤ length (rows offsets) = leb-true _ _ w.some in
    record { some = omega (arith, len, some); ends = subst (λ os. IsTrue (are_offsets (length c.in-VarBin.bytes) os)) (sym e) w.ends; bits = rw len bits }

pub decoded-returns-in_ok-offsets-in-VarBin : goal.decoded-returns-in_ok-offsets-in-VarBin
decoded-returns-in_ok-offsets-in-VarBin t c =
    let a = at_node c.self.view_is c.self.invariant c.in-VarBin.is in
    let got = c.in_ok-offsets-in-VarBin in
    let xs = c.as_ints.result.now in
    let offsets = c.in-VarBin.offsets.array.value in
    let w = a.well_formed.1 in
    let os = lent_integers _ offsets got.offsets xs got.field-0-1 c.deref.ensures c.as_ints.ensures got.ensures in
    let e = wholes-rows offsets xs got.field-0-1 a.well_formed.0 w.offsets_type w.not_null os in
    rw a.is (MatchResult-weaker c.decoded_var_bin.result c.decoded_var_bin.ensures (λ d r. var_bin_rows _ _ _ _ _ d a.well_formed e r) (λ e n. n))

pub decoded-returns-in-Timestamp : goal.decoded-returns-in-Timestamp
decoded-returns-in-Timestamp t c =
    let a = at_node c.self.view_is c.self.invariant c.in-Timestamp.is in
    rw a.is (MatchResult-weaker c.decoded.result c.decoded.ensures (λ d r. timestamp_rows c.in-Timestamp.storage.array.value c.in-Timestamp.field-1 d a.well_formed (subst (λ t. IsDecoded t d) c.deref-in-Timestamp.ensures r)) (λ e n. n))

pub decoded-decoded_constant-requires : goal.decoded-decoded_constant-requires
decoded-decoded_constant-requires t c =
    let a = at_node c.self.view_is c.self.invariant c.in-Constant.is in
    rw a.is at c.requires

pub decoded-returns-in-Primitive : goal.decoded-returns-in-Primitive
decoded-returns-in-Primitive t c =
    let a = at_node c.self.view_is c.self.invariant c.in-Primitive.is in
    rw a.is (MatchResult-weaker c.decoded_primitive.result c.decoded_primitive.ensures (λ d r. primitive_rows _ _ _ _ d a.well_formed r) (λ e n. n))

pub decoded-returns-in_ok-decoded-in-Masked : goal.decoded-returns-in_ok-decoded-in-Masked
decoded-returns-in_ok-decoded-in-Masked t c =
    let a = at_node c.self.view_is c.self.invariant c.in-Masked.is in
    let got = c.in_ok-decoded-in-Masked in
    let child = subst (λ t. IsDecoded t got.field-0) c.deref-in-Masked.ensures got.ensures in
    rw a.is (MatchResult-weaker c.decoded_masked.result c.decoded_masked.ensures (λ d r. masked_rows_of c.in-Masked.child.array.value c.in-Masked.mask got.field-0 d a.well_formed child r) (λ e n. n))

pub decoded-returns-in-BitPacked : goal.decoded-returns-in-BitPacked
decoded-returns-in-BitPacked t c =
    let here = c.in-BitPacked in
    let a = at_node c.self.view_is c.self.invariant here.is in
    let k = plain_packed here.ptype here.width here.packed here.len here.valid here.field-6 in
    rw a.is (MatchResult-weaker c.decoded_packed.result c.decoded_packed.ensures (λ d r. packed_rows k (unboxed here.patches) d a.well_formed r) (λ e n. n))

pub decoded-decoded_uniform-requires : goal.decoded-decoded_uniform-requires
decoded-decoded_uniform-requires t c =
    record { flat = c.requires; some = search rules; uniform = c.is_uniform.ensures c.if-is_uniform.true }

pub decoded-decoded_dict-requires : goal.decoded-decoded_dict-requires
decoded-decoded_dict-requires t c =
    let a = at_node c.self.view_is c.self.invariant c.in-Dict-2.is in
    (search rules, subst (λ q. is_integer (tree_type q) ≡ true) (sym c.deref-in-Dict-2-2.ensures) a.well_formed.2.codes_type)

pub decoded-returns-in_ok-values-in-Dict-2 : goal.decoded-returns-in_ok-values-in-Dict-2
decoded-returns-in_ok-values-in-Dict-2 t c =
    let a = at_node c.self.view_is c.self.invariant c.in-Dict-2.is in
    let got = c.in_ok-values-in-Dict-2 in
    let values = c.in-Dict-2.values.array.value in
    let codes = c.deref-in-Dict-2-2.ensures in
    let w = subst (λ t. WellFormed (dict t values)) (sym codes) a.well_formed in
    let v = subst (λ t. IsDecoded t got.values) c.deref-in-Dict-2.ensures got.ensures in
    rw a.is (subst (λ t. OrMemory c.decoded_dict.result (IsDecoded (dict t values))) codes (c.decoded_dict.ensures values w v))

-- ---- dictionaries by their codes

pub decoded_dict-decoded_codes-requires : goal.decoded_dict-decoded_codes-requires
decoded_dict-decoded_codes-requires t c =
    let a = at_node c.self.view_is c.self.invariant c.in-RunEnd.is in
    (search rules, subst (λ t. is_integer (tree_type t) ≡ true) (sym c.deref.ensures) (subst (λ t. is_integer (tree_type t) ≡ true) a.is c.requires))

pub decoded_dict-integers-requires : goal.decoded_dict-integers-requires
decoded_dict-integers-requires t c =
    let a = at_node c.self.view_is c.self.invariant c.in-RunEnd.is in
    (search rules, subst (λ t. is_integer (tree_type t) ≡ true) (sym c.deref-in-RunEnd.ensures) a.well_formed.2.ends_type)

pub decoded_dict-decoded_by_runs-requires : goal.decoded_dict-decoded_by_runs-requires
decoded_dict-decoded_by_runs-requires t c =
    let a = at_node c.self.view_is c.self.invariant c.in-RunEnd.is in
    let own = a.well_formed.2 in
    let ends = c.in-RunEnd.ends.array.value in
    let got = c.in_ok-ends-in-RunEnd in
    let xs = c.as_ints.result.now in
    let es = lent_integers _ ends got.ends xs got.field-0-1 c.deref-in-RunEnd.ensures c.as_ints.ensures got.ensures in
    subst (λ vs. ascend 1 (2 ^ 64) vs ≡ true) (sym (wholes-rows ends xs got.field-0-1 a.well_formed.0 own.ends_type own.not_null es)) own.rising

pub decoded_dict-returns-in_ok-ends-in-RunEnd : goal.decoded_dict-returns-in_ok-ends-in-RunEnd
decoded_dict-returns-in_ok-ends-in-RunEnd t c =
    let a = at_node c.self.view_is c.self.invariant c.in-RunEnd.is in
    let ends = c.in-RunEnd.ends.array.value in
    let runs = c.in-RunEnd.runs.array.value in
    let got = c.in_ok-ends-in-RunEnd in
    let have = c.in_ok-picked-in-RunEnd in
    let xs = c.as_ints.result.now in
    let es = lent_integers _ ends got.ends xs got.field-0-1 c.deref-in-RunEnd.ensures c.as_ints.ensures got.ensures in
    λ values u v. (
    let w = subst (λ t. WellFormed (dict t values)) a.is u in
    let own = subst (λ t. WellFormed (dict t values)) (sym c.deref.ensures) (run_codes ends runs values w) in
    let picked = subst (λ t. IsDecoded (dict t values) have.picked) c.deref.ensures (have.ensures values own v) in
    rw a.is (MatchResult-weaker c.decoded_by_runs.result c.decoded_by_runs.ensures (λ d r. dict_runs_rows ends runs values w xs got.field-0-1 have.picked d es picked r) (λ e n. n))
    )

pub decoded_dict-returns-in_err-picked-in-RunEnd : goal.decoded_dict-returns-in_err-picked-in-RunEnd
decoded_dict-returns-in_err-picked-in-RunEnd t c =
    let a = at_node c.self.view_is c.self.invariant c.in-RunEnd.is in
    λ values u v. (
    let w = subst (λ t. WellFormed (dict t values)) a.is u in
    let own = subst (λ t. WellFormed (dict t values)) (sym c.deref.ensures) (run_codes c.in-RunEnd.ends.array.value c.in-RunEnd.runs.array.value values w) in
    let e = c.in_err-picked-in-RunEnd.ensures values own v in
    search rules
    )

pub decoded_codes-integers-requires : goal.decoded_codes-integers-requires
decoded_codes-integers-requires t c = (search rules, c.requires)

pub decoded_codes-picked_by_codes-requires : goal.decoded_codes-picked_by_codes-requires
decoded_codes-picked_by_codes-requires t c =
    let self = c.args.self.now in
    let got = c.in_ok-places in
    let xs = c.as_ints.result.now in
    bits_of_integers self xs got.valid (lent_integers _ self got.places xs got.valid refl c.as_ints.ensures got.ensures)

pub decoded_codes-returns : goal.decoded_codes-returns
decoded_codes-returns t c =
    let self = c.args.self.now in
    let got = c.in_ok-places in
    let xs = c.as_ints.result.now in
    let codes = lent_integers _ self got.places xs got.valid refl c.as_ints.ensures got.ensures in
    λ values w v. MatchResult-weaker c.picked_by_codes.result c.picked_by_codes.ensures (λ d r. dict_rows self values xs got.valid c.args.values d w codes v r) (λ e n. n)

pub decoded-decoded_packed-requires-clause-narrow : goal.decoded-decoded_packed-requires-clause-narrow
decoded-decoded_packed-requires-clause-narrow t c =
    let a = at_node c.self.view_is c.self.invariant c.in-BitPacked.is in
    (packed-packed_of _ _ a.well_formed).narrow

pub decoded-decoded_packed-requires-clause-sized : goal.decoded-decoded_packed-requires-clause-sized
decoded-decoded_packed-requires-clause-sized t c =
    let a = at_node c.self.view_is c.self.invariant c.in-BitPacked.is in
    (packed-packed_of _ _ a.well_formed).sized

pub decoded_runs-decoded_sequence-requires : goal.decoded_runs-decoded_sequence-requires
decoded_runs-decoded_sequence-requires t c =
    let a = at_node c.self.view_is c.self.invariant c.in-Sequence.is in
    let here = c.in-Sequence in
    let f : FitsSigned w128 here.first = search rules in
    let s : FitsSigned w128 here.step = search rules in
    let first = to_z-of_z w128 here.first f in
    let step = to_z-of_z w128 here.step s in
    subst (λ z. z) (sym (λ i. IsSequence here.ptype (first i) (step i) here.len)) a.well_formed.0

pub decoded_runs-returns-in-Sequence : goal.decoded_runs-returns-in-Sequence
decoded_runs-returns-in-Sequence t c =
    let a = at_node c.self.view_is c.self.invariant c.in-Sequence.is in
    let here = c.in-Sequence in
    let f : FitsSigned w128 here.first = search rules in
    let s : FitsSigned w128 here.step = search rules in
    let first = to_z-of_z w128 here.first f in
    let step = to_z-of_z w128 here.step s in
    rw a.is
    (MatchResult-weaker c.decoded_sequence.result c.decoded_sequence.ensures
    (λ d r. sequence_rows here.ptype here.field-1 here.first here.step here.len d (r.0, r.1 ∙ (λ i. map int (below (sequence_row (first i) (step i)) here.len)), r.2)) (λ e n. n))

pub decoded_runs-into_integers-deltas-requires : goal.decoded_runs-into_integers-deltas-requires
decoded_runs-into_integers-deltas-requires t c =
    let a = at_node c.self.view_is c.self.invariant c.in-Delta.is in
    let got = c.in_ok-decoded-in-Delta in
    held_integers c.in-Delta.deltas.array.value got.field-0 (ap is_integer a.well_formed.2.deltas_type ∙ ap is_integer a.well_formed.2.bases_type) (subst (λ t. IsDecoded t got.field-0) c.deref-in-Delta-2.ensures got.ensures)

pub decoded_runs-returns-in_ok-decoded-in-Delta : goal.decoded_runs-returns-in_ok-decoded-in-Delta
decoded_runs-returns-in_ok-decoded-in-Delta t c =
    let a = at_node c.self.view_is c.self.invariant c.in-Delta.is in
    let own = a.well_formed.2 in
    let one = c.in_ok-bases-in-Delta in
    let two = c.in_ok-decoded-in-Delta in
    let x = c.as_ints-in-Delta.result.now in
    let y = c.into_integers-deltas in
    let bases = lent_integers _ c.in-Delta.bases.array.value one.bases x one.field-0-1 c.deref-in-Delta.ensures c.as_ints-in-Delta.ensures one.ensures in
    let deltas = integers_of c.in-Delta.deltas.array.value two.field-0 y.result.0 y.result.1 a.well_formed.1 (ap is_integer own.deltas_type ∙ ap is_integer own.bases_type) y.ensures.values y.ensures.valid (subst (λ t. IsDecoded t two.field-0) c.deref-in-Delta-2.ensures two.ensures) in
    rw a.is
    (MatchResult-weaker c.decoded_delta.result c.decoded_delta.ensures
    (λ d r. delta_rows c.in-Delta.bases.array.value c.in-Delta.deltas.array.value _ _ _ x y.result.0 one.field-0-1 y.result.1 d a.well_formed bases deltas r) (λ e n. n))

-- ---- a fill and patches

pub decoded_runs-decoded_sparse-requires : goal.decoded_runs-decoded_sparse-requires
decoded_runs-decoded_sparse-requires t c =
    let a = at_node c.self.view_is c.self.invariant c.in-Sparse.is in
    let p = c.in-Sparse.patches.value in
    let both = parts-sparse_of p c.in-Sparse.fill a.well_formed in
    let w = both.0.2 in
    let got = c.in_ok-indices-in-Sparse in
    let xs = c.as_ints.result.now in
    let indices = lent_integers _ p.indices got.indices xs got.field-0-1 (ap (λ q. q.indices) (c.behind-patches.view_is ∙ c.deref.ensures)) c.as_ints.ensures got.ensures in
    let held = wholes-rows p.indices xs got.field-0-1 both.0.0 w.indices_type w.not_null indices in
    let have = c.in_ok-values-in-Sparse in
    let there = subst (λ q. IsDecoded q.values have.values) (c.behind-patches-in-Sparse.view_is ∙ c.deref-in-Sparse.ensures) have.ensures in
    let back = sym c.deref-in-Sparse-2.ensures in
    record {
      flat = ap is_flat (sym (type-sparse_of p c.in-Sparse.fill)) ∙ rw a.is at c.requires.flat;
      typed = subst (λ q. tree_type q.values ≡ c.in-Sparse.fill.dtype) back both.1.values_type;
      indices = subst (λ q. map int (wholes_of xs) ≡ rows q.indices) back held;
      values = subst (λ q. IsDecoded q.values have.values) back there;
    }

-- ---- runs

pub decoded_runs-decoded_by_runs-requires : goal.decoded_runs-decoded_by_runs-requires
decoded_runs-decoded_by_runs-requires t c =
    let a = at_node c.self.view_is c.self.invariant c.in-RunEnd.is in
    let w = a.well_formed.2 in
    let got = c.in_ok-ends-in-RunEnd in
    let xs = c.as_ints-in-RunEnd.result.now in
    let ends = c.in-RunEnd.ends.array.value in
    let es = lent_integers _ ends got.ends xs got.field-0-1 c.deref-in-RunEnd.ensures c.as_ints-in-RunEnd.ensures got.ensures in
    subst (λ vs. ascend 1 (2 ^ 64) vs ≡ true) (sym (wholes-rows ends xs got.field-0-1 a.well_formed.0 w.ends_type w.not_null es)) w.rising

pub decoded_runs-returns-in_ok-decoded-in-RunEnd : goal.decoded_runs-returns-in_ok-decoded-in-RunEnd
decoded_runs-returns-in_ok-decoded-in-RunEnd t c =
    let a = at_node c.self.view_is c.self.invariant c.in-RunEnd.is in
    let have = c.in_ok-decoded-in-RunEnd in
    let got = c.in_ok-ends-in-RunEnd in
    let xs = c.as_ints-in-RunEnd.result.now in
    let ends = c.in-RunEnd.ends.array.value in
    let es = lent_integers _ ends got.ends xs got.field-0-1 c.deref-in-RunEnd.ensures c.as_ints-in-RunEnd.ensures got.ensures in
    let values = subst (λ t. IsDecoded t have.field-0) c.deref-in-RunEnd-2.ensures have.ensures in
    rw a.is
    (MatchResult-weaker c.decoded_by_runs.result c.decoded_by_runs.ensures
    (λ d r. run_end_rows ends c.in-RunEnd.values.array.value a.well_formed xs got.field-0-1 have.field-0 d es values r) (λ e n. n))

-- ---- differences

pub decoded_runs-decoded_delta-requires : goal.decoded_runs-decoded_delta-requires
decoded_runs-decoded_delta-requires t c =
    let a = at_node c.self.view_is c.self.invariant c.in-Delta.is in
    let own = a.well_formed.2 in
    let one = c.in_ok-bases-in-Delta in
    let two = c.in_ok-decoded-in-Delta in
    let x = c.as_ints-in-Delta.result.now in
    let y = c.into_integers-deltas in
    let bases = lent_integers _ c.in-Delta.bases.array.value one.bases x one.field-0-1 c.deref-in-Delta.ensures c.as_ints-in-Delta.ensures one.ensures in
    let deltas = integers_of c.in-Delta.deltas.array.value two.field-0 y.result.0 y.result.1 a.well_formed.1 (ap is_integer own.deltas_type ∙ ap is_integer own.bases_type) y.ensures.values y.ensures.valid (subst (λ t. IsDecoded t two.field-0) c.deref-in-Delta-2.ensures two.ensures) in
    record {
      kinds = deltas.ptype ∙ ap integer_of own.deltas_type ∙ sym bases.ptype;
      begins = ap length bases.wholes ∙ length-map (rows c.in-Delta.bases.array.value) whole_or_zero ∙ own.bases_length;
      enough = ap length deltas.wholes ∙ length-map (rows c.in-Delta.deltas.array.value) whole_or_zero ∙ own.deltas_length;
      bits = has_length _ _ _ own.validity;
    }

-- ---- blocks of runs

pub decoded_runs-block_places-requires : goal.decoded_runs-block_places-requires
decoded_runs-block_places-requires t c =
    let a = at_node c.self.view_is c.self.invariant c.in-Rle.is in
    let w = a.well_formed.3 in
    let values = c.in-Rle.values.array.value in
    let indices = c.in-Rle.indices.array.value in
    let offsets = c.in-Rle.offsets.array.value in
    let one = c.in_ok-indices-in-Rle in
    let two = c.in_ok-offsets-in-Rle in
    let x = c.as_ints-in-Rle.result.now in
    let y = c.as_ints-in-Rle-2.result.now in
    let is = lent_integers _ indices one.indices x one.field-0-1 c.deref-in-Rle-2.ensures c.as_ints-in-Rle.ensures one.ensures in
    let os = lent_integers _ offsets two.offsets y two.field-0-1 c.deref-in-Rle-3.ensures c.as_ints-in-Rle-2.ensures two.ensures in
    let count = c.len-places.ensures ∙ ap (λ t. length (rows t)) c.deref-in-Rle.ensures in
    let few : length (rows values) < 2 ^ 64 = omega (arith, count) in
    record {
      enough = ap length is.wholes ∙ length-map (rows indices) whole_or_zero ∙ w.indices_length;
      begins = ap length os.wholes ∙ length-map (rows offsets) whole_or_zero ∙ w.offsets_length;
      held = block_place-word values indices offsets c.in-Rle.len x y one.field-0-1 two.field-0-1 a.well_formed is os few;
    }

pub decoded_runs-returns-in_ok-decoded-in-Rle : goal.decoded_runs-returns-in_ok-decoded-in-Rle
decoded_runs-returns-in_ok-decoded-in-Rle t c =
    let a = at_node c.self.view_is c.self.invariant c.in-Rle.is in
    let last = c.in_ok-decoded-in-Rle in
    let values = c.in-Rle.values.array.value in
    let indices = c.in-Rle.indices.array.value in
    let offsets = c.in-Rle.offsets.array.value in
    let one = c.in_ok-indices-in-Rle in
    let two = c.in_ok-offsets-in-Rle in
    let x = c.as_ints-in-Rle.result.now in
    let y = c.as_ints-in-Rle-2.result.now in
    let is = lent_integers _ indices one.indices x one.field-0-1 c.deref-in-Rle-2.ensures c.as_ints-in-Rle.ensures one.ensures in
    let os = lent_integers _ offsets two.offsets y two.field-0-1 c.deref-in-Rle-3.ensures c.as_ints-in-Rle-2.ensures two.ensures in
    let count = c.len-places.ensures ∙ ap (λ t. length (rows t)) c.deref-in-Rle.ensures in
    let few : length (rows values) < 2 ^ 64 = omega (arith, count) in
    let own = subst (λ t. IsDecoded t last.field-0) c.deref-in-Rle-4.ensures last.ensures in
    let places = c.in_ok-places-in-Rle in
    rw a.is
    (MatchResult-weaker c.decoded_by_codes.result c.decoded_by_codes.ensures
    (λ d r. rle_rows values indices offsets c.in-Rle.len x y one.field-0-1 two.field-0-1 a.well_formed is os places.places last.field-0 d few places.ensures.0 places.ensures.1 own r) (λ e n. n))

-- ---- trees of integers inside are flat

-- ---- roots that say many rows by few numbers

pub decoded-decoded_runs-requires : goal.decoded-decoded_runs-requires
decoded-decoded_runs-requires t c =
    let a = at_node c.self.view_is c.self.invariant c.in-Sparse.is in
    (search rules, (c.requires, ap has_runs a.is ∙ has_runs-sparse_of c.in-Sparse.field-0.value c.in-Sparse.field-1))

pub decoded-decoded_runs-requires-in-RunEnd : goal.decoded-decoded_runs-requires-in-RunEnd
decoded-decoded_runs-requires-in-RunEnd t c =
    let a = at_node c.self.view_is c.self.invariant c.in-RunEnd.is in
    (search rules, (c.requires, ap has_runs a.is))

pub decoded-decoded_runs-requires-in-Rle : goal.decoded-decoded_runs-requires-in-Rle
decoded-decoded_runs-requires-in-Rle t c =
    let a = at_node c.self.view_is c.self.invariant c.in-Rle.is in
    (search rules, (c.requires, ap has_runs a.is))

pub decoded-decoded_runs-requires-in-Delta : goal.decoded-decoded_runs-requires-in-Delta
decoded-decoded_runs-requires-in-Delta t c =
    let a = at_node c.self.view_is c.self.invariant c.in-Delta.is in
    (search rules, (c.requires, ap has_runs a.is))

pub decoded-decoded_runs-requires-in-Sequence : goal.decoded-decoded_runs-requires-in-Sequence
decoded-decoded_runs-requires-in-Sequence t c =
    let a = at_node c.self.view_is c.self.invariant c.in-Sequence.is in
    (search rules, (c.requires, ap has_runs a.is))

no_runs : (n : Node) → ((x : _) (y : _) → n ≡ nodes.Sparse x y → ⊥) → ((x : _) (y : _) → n ≡ nodes.RunEnd x y → ⊥) → ((x : _) (y : _) (z : _) (w : _) → n ≡ nodes.Rle x y z w → ⊥)
    → ((x : _) (y : _) (z : _) (w : _) (v : _) → n ≡ nodes.Delta x y z w v → ⊥) → ((x : _) (y : _) (z : _) (w : _) (v : _) → n ≡ nodes.Sequence x y z w v → ⊥) → has_runs (tree_of n) ≡ true → ⊥
no_runs (nodes.Sparse x y) a b c d e h = a x y refl
no_runs (nodes.RunEnd x y) a b c d e h = b x y refl
no_runs (nodes.Rle x y z w) a b c d e h = c x y z w refl
no_runs (nodes.Delta x y z w v) a b c d e h = d x y z w v refl
no_runs (nodes.Sequence x y z w v) a b c d e h = e x y z w v refl
no_runs (nodes.BitPacked p width bytes rows valid None n) a b c d e h = cc
no_runs (nodes.BitPacked p width bytes rows valid (Some patches) n) a b c d e h = cc
no_runs (nodes.BitPackedV2 p bytes offsets rows valid None n) a b c d e h = cc
no_runs (nodes.BitPackedV2 p bytes offsets rows valid (Some patches) n) a b c d e h = cc
no_runs n a b c d e h = cc

pub decoded_runs-unreachable-requires : goal.decoded_runs-unreachable-requires
decoded_runs-unreachable-requires t c =
    let other = c.in_default in
    no_runs c.self.inside.node other.not-Sparse other.not-RunEnd other.not-Rle other.not-Delta other.not-Sequence (ap has_runs c.self.view_is ∙ c.requires.runs)

pub decoded_runs-integers-requires : goal.decoded_runs-integers-requires
decoded_runs-integers-requires t c =
    let a = at_node c.self.view_is c.self.invariant c.in-Sparse.is in
    let p = c.in-Sparse.patches.value in
    let own = (parts-sparse_of p c.in-Sparse.fill a.well_formed).0.2 in
    (search rules, subst (λ q. is_integer (tree_type q.indices) ≡ true) (sym (c.behind-patches.view_is ∙ c.deref.ensures)) own.indices_type)

-- ---- roots whose rows stand in blocks

pub decoded-decoded_blocks-requires : goal.decoded-decoded_blocks-requires
decoded-decoded_blocks-requires t c =
    let a = at_node c.self.view_is c.self.invariant c.in-BitPackedV2.is in
    let here = c.in-BitPackedV2 in
    let k = plain_blocks here.field-0 here.field-1 here.field-3 here.field-4 here.field-6 in
    (search rules, (c.requires, ap has_blocks a.is ∙ has_blocks-blocks_of k here.field-2.array.value (unboxed here.field-5)))

no_blocks : (n : Node) → ((x : _) (y : _) (z : _) (w : _) (v : _) (u : _) (m : _) → n ≡ nodes.BitPackedV2 x y z w v u m → ⊥) → has_blocks (tree_of n) ≡ true → ⊥
no_blocks (nodes.BitPackedV2 x y z w v u m) a h = a x y z w v u m refl
no_blocks (nodes.BitPacked p width bytes rows valid None n) a h = cc
no_blocks (nodes.BitPacked p width bytes rows valid (Some patches) n) a h = cc
no_blocks (nodes.Sparse patches fill) a h = blocks-sparse_of patches.value fill h
no_blocks n a h = cc

pub decoded_blocks-unreachable-requires : goal.decoded_blocks-unreachable-requires
decoded_blocks-unreachable-requires t c = no_blocks c.self.inside.node c.in_default.not-BitPackedV2 (ap has_blocks c.self.view_is ∙ c.requires.blocks)

pub decoded_blocks-integers-requires : goal.decoded_blocks-integers-requires
decoded_blocks-integers-requires t c =
    let here = c.in-BitPackedV2 in
    let a = at_node c.self.view_is c.self.invariant here.is in
    let k = plain_blocks here.ptype here.packed here.len here.valid here.field-6 in
    let offsets = here.offsets.array.value in
    let whole = whole-offsets k offsets (blocks-blocks_of k offsets (unboxed here.patches) a.well_formed) in
    (search rules, subst (λ q. is_integer (tree_type q) ≡ true) (sym c.deref.ensures) whole)

pub decoded_blocks-decoded_in_blocks-requires : goal.decoded_blocks-decoded_in_blocks-requires
decoded_blocks-decoded_in_blocks-requires t c =
    let here = c.in-BitPackedV2 in
    let a = at_node c.self.view_is c.self.invariant here.is in
    let k = plain_blocks here.ptype here.packed here.len here.valid here.field-6 in
    let offsets = here.offsets.array.value in
    let o = unboxed here.patches in
    let got = c.in_ok-offsets-in-BitPackedV2 in
    let xs = c.as_ints.result.now in
    let numbers = lent_integers _ offsets got.offsets xs got.field-0-1 c.deref.ensures c.as_ints.ensures got.ensures in
    record {
      widths = decoded-widths k offsets o xs got.field-0-1 a.well_formed numbers;
      blocks = decoded-blocks k offsets o xs got.field-0-1 a.well_formed numbers;
      sized = decoded-sized k offsets o xs got.field-0-1 a.well_formed numbers;
      bits = validity_long k offsets o a.well_formed;
      integers = patches_whole k offsets o a.well_formed;
      rows = patches_long k offsets o a.well_formed;
    }

pub decoded_blocks-returns : goal.decoded_blocks-returns
decoded_blocks-returns t c =
    let here = c.in-BitPackedV2 in
    let a = at_node c.self.view_is c.self.invariant here.is in
    let k = plain_blocks here.ptype here.packed here.len here.valid here.field-6 in
    let offsets = here.offsets.array.value in
    let o = unboxed here.patches in
    let got = c.in_ok-offsets-in-BitPackedV2 in
    let xs = c.as_ints.result.now in
    let numbers = lent_integers _ offsets got.offsets xs got.field-0-1 c.deref.ensures c.as_ints.ensures got.ensures in
    rw a.is (MatchResult-weaker c.decoded_in_blocks.result c.decoded_in_blocks.ensures (λ d r. blocks_rows k offsets o xs got.field-0-1 a.well_formed numbers d r) (λ e n. n))

-- ---- timestamps in parts, and frames of reference by blocks

pub decoded-decoded_columns-requires : goal.decoded-decoded_columns-requires
decoded-decoded_columns-requires t c =
    let a = at_node c.self.view_is c.self.invariant c.in-DateTimeParts.is in
    (search rules, (c.requires, ap has_columns a.is))

pub decoded-decoded_columns-requires-in-FoRV2 : goal.decoded-decoded_columns-requires-in-FoRV2
decoded-decoded_columns-requires-in-FoRV2 t c =
    let a = at_node c.self.view_is c.self.invariant c.in-FoRV2.is in
    (search rules, (c.requires, ap has_columns a.is))

no_columns : (n : Node) → ((x : _) (y : _) (z : _) (w : _) (v : _) → n ≡ nodes.DateTimeParts x y z w v → ⊥) → ((x : _) (y : _) → n ≡ nodes.FoRV2 x y → ⊥) → has_columns (tree_of n) ≡ true → ⊥
no_columns (nodes.DateTimeParts x y z w v) a b h = a x y z w v refl
no_columns (nodes.FoRV2 x y) a b h = b x y refl
no_columns (nodes.BitPacked p width bytes rows valid None n) a b h = cc
no_columns (nodes.BitPackedV2 p bytes offsets rows valid None n) a b h = cc
no_columns (nodes.BitPackedV2 p bytes offsets rows valid (Some patches) n) a b h = cc
no_columns (nodes.Sparse patches fill) a b h = columns-sparse_of patches.value fill h
no_columns (nodes.BitPacked p width bytes rows valid (Some patches) n) a b h = cc
no_columns n a b h = cc

pub decoded_columns-unreachable-requires : goal.decoded_columns-unreachable-requires
decoded_columns-unreachable-requires t c =
    let other = c.in_default in
    no_columns c.self.inside.node other.not-DateTimeParts other.not-FoRV2 (ap has_columns c.self.view_is ∙ c.requires.columns)

pub decoded_columns-returns-in_ok-rest-in-DateTimeParts : goal.decoded_columns-returns-in_ok-rest-in-DateTimeParts
decoded_columns-returns-in_ok-rest-in-DateTimeParts t c =
    let here = c.in-DateTimeParts in
    let a = at_node c.self.view_is c.self.invariant here.is in
    let one = c.in_ok-days-in-DateTimeParts in
    let two = c.in_ok-seconds-in-DateTimeParts in
    let three = c.in_ok-rest-in-DateTimeParts in
    let x = c.as_ints-days.result.now in
    let y = c.as_ints-seconds.result.now in
    let z = c.as_ints.result.now in
    let days = lent_integers _ here.days.array.value one.days x one.valid c.deref.ensures c.as_ints-days.ensures one.ensures in
    let seconds = lent_integers _ here.seconds.array.value two.seconds y two.field-0-1 c.deref-in-DateTimeParts.ensures c.as_ints-seconds.ensures two.ensures in
    let subseconds = lent_integers _ here.subseconds.array.value three.rest z three.field-0-1 c.deref-in-DateTimeParts-2.ensures c.as_ints.ensures three.ensures in
    rw a.is
    (MatchResult-weaker c.decoded_parts.result c.decoded_parts.ensures
    (λ d r. parts_rows here.kind here.field-1 here.days.array.value here.seconds.array.value here.subseconds.array.value x y z one.valid two.field-0-1 three.field-0-1 d a.well_formed days seconds subseconds
    (subst (λ unit. AreRows (ints I64) (map int (zeroed_by (pos 0) one.valid (combined (pos 86_400 *ℤ units_per_second unit) (units_per_second unit) (wholes_of x) (wholes_of y) (wholes_of z)))) one.valid d) c.unit.ensures.unit r)) (λ e n. n))

pub decoded_columns-returns-in_ok-references-in-FoRV2 : goal.decoded_columns-returns-in_ok-references-in-FoRV2
decoded_columns-returns-in_ok-references-in-FoRV2 t c =
    let here = c.in-FoRV2 in
    let a = at_node c.self.view_is c.self.invariant here.is in
    let one = c.in_ok-differences-in-FoRV2 in
    let two = c.in_ok-references-in-FoRV2 in
    let x = c.as_ints-in-FoRV2.result.now in
    let y = c.as_ints-in-FoRV2-2.result.now in
    let encoded = lent_integers _ here.encoded.array.value one.differences x one.valid c.deref-in-FoRV2.ensures c.as_ints-in-FoRV2.ensures one.ensures in
    let references = lent_integers _ here.references.array.value two.references y two.field-0-1 c.deref-in-FoRV2-2.ensures c.as_ints-in-FoRV2-2.ensures two.ensures in
    rw a.is
    (MatchResult-weaker c.decoded_frames.result c.decoded_frames.ensures
    (λ d r. frames_rows here.encoded.array.value here.references.array.value x y one.valid two.field-0-1 d a.well_formed encoded references r) (λ e n. n))

-- ---- integers, lent where they are stored

pub integers-decoded-requires : goal.integers-decoded-requires
integers-decoded-requires t c = (search rules, integer_flat (tree_type c.args.self.now) c.requires)

pub integers-returns-in-Primitive : goal.integers-returns-in-Primitive
integers-returns-in-Primitive t c =
    let here = c.in-Primitive in
    let a = at_node c.self.view_is c.self.invariant here.is in
    rw a.is (stored_integers here.values here.valid here.field-2 (c.is_none.ensures ∙ ap not c.if-is_none.true) a.well_formed)

pub integers-returns-in_ok-decoded-in_default : goal.integers-returns-in_ok-decoded-in_default
integers-returns-in_ok-decoded-in_default t c =
    let got = c.in_ok-decoded-in_default in
    let parts = c.into_integers-ints in
    integers_of c.args.self.now got.field-0 parts.result.0 parts.result.1 c.known.ensures c.requires parts.ensures.values parts.ensures.valid got.ensures

-- ---- frames of reference

pub decoded-decoded_framed-requires : goal.decoded-decoded_framed-requires
decoded-decoded_framed-requires t c =
    let here = c.in-FoR in
    let a = at_node c.self.view_is c.self.invariant here.is in
    (search rules, subst (λ tree. WellFormed (frame_of_reference tree here.reference)) (sym c.deref-in-FoR.ensures) a.well_formed)

pub decoded-returns-in-FoR : goal.decoded-returns-in-FoR
decoded-returns-in-FoR t c =
    let here = c.in-FoR in
    let a = at_node c.self.view_is c.self.invariant here.is in
    rw a.is (subst (λ tree. OrMemory c.decoded_framed.result (IsDecoded (frame_of_reference tree here.reference))) c.deref-in-FoR.ensures c.decoded_framed.ensures)

pub decoded_framed-decoded_moved_words-requires : goal.decoded_framed-decoded_moved_words-requires
decoded_framed-decoded_moved_words-requires t c =
    let here = c.in-BitPacked in
    let a = at_node c.self.view_is c.self.invariant here.is in
    let k = plain_packed here.field-0 here.width here.packed here.len here.valid here.field-6 in
    let is = a.is ∙ packed_alone k here.patches (c.is_none.ensures ∙ ap not c.if-is_none.true) in
    let w = subst (λ tree. WellFormed (frame_of_reference tree c.args.reference.now)) is c.requires in
    let own = packed-packed_of k None w.0 in
    record {
      integer = w.1.reference_type;
      not_null = w.1.not_null;
      narrow = narrow_words k c.args.reference.now w;
      sized = own.sized;
      bits = has_length _ _ _ own.validity;
    }

pub decoded_framed-returns-in-BitPacked : goal.decoded_framed-returns-in-BitPacked
decoded_framed-returns-in-BitPacked t c =
    let here = c.in-BitPacked in
    let a = at_node c.self.view_is c.self.invariant here.is in
    let k = plain_packed here.field-0 here.width here.packed here.len here.valid here.field-6 in
    let is = a.is ∙ packed_alone k here.patches (c.is_none.ensures ∙ ap not c.if-is_none.true) in
    let w = subst (λ tree. WellFormed (frame_of_reference tree c.args.reference.now)) is c.requires in
    rw is (MatchResult-weaker c.decoded_moved_words.result c.decoded_moved_words.ensures (λ d r. moved_words_rows k c.args.reference.now d w r) (λ e n. n))

pub decoded_framed-integers-requires : goal.decoded_framed-integers-requires
decoded_framed-integers-requires t c = (search rules, ap is_integer c.requires.1.encoded_type)

pub decoded_framed-returns-in_ok-differences-in_default : goal.decoded_framed-returns-in_ok-differences-in_default
decoded_framed-returns-in_ok-differences-in_default t c =
    let got = c.in_ok-differences-in_default in
    let xs = c.as_ints.result.now in
    let differences = lent_integers _ c.args.self.now got.differences xs got.valid refl c.as_ints.ensures got.ensures in
    MatchResult-weaker c.decoded_moved.result c.decoded_moved.ensures (λ d r. moved_rows c.args.self.now c.args.reference.now xs got.valid d c.requires differences r) (λ e n. n)

-- ---- zigzags

pub decoded-decoded_zigzags-requires : goal.decoded-decoded_zigzags-requires
decoded-decoded_zigzags-requires t c =
    let a = at_node c.self.view_is c.self.invariant c.in-ZigZag.is in
    (search rules, subst (λ tree. WellFormed (zig_zag tree)) (sym c.deref-in-ZigZag.ensures) a.well_formed)

pub decoded-returns-in-ZigZag : goal.decoded-returns-in-ZigZag
decoded-returns-in-ZigZag t c =
    let a = at_node c.self.view_is c.self.invariant c.in-ZigZag.is in
    rw a.is (subst (λ tree. OrMemory c.decoded_zigzags.result (IsDecoded (zig_zag tree))) c.deref-in-ZigZag.ensures c.decoded_zigzags.ensures)

pub decoded_zigzags-decoded_zig_zag_words-requires : goal.decoded_zigzags-decoded_zig_zag_words-requires
decoded_zigzags-decoded_zig_zag_words-requires t c =
    let here = c.in-BitPacked in
    let a = at_node c.self.view_is c.self.invariant here.is in
    let k = plain_packed here.ptype here.width here.packed here.len here.valid here.field-6 in
    let is = a.is ∙ packed_alone k here.patches (c.is_none.ensures ∙ ap not c.if-is_none.true) in
    let w = subst (λ tree. WellFormed (zig_zag tree)) is c.requires in
    let own = packed-packed_of k None w.0 in
    record { unsigned = w.1.unsigned; narrow = own.narrow; sized = own.sized; bits = has_length _ _ _ own.validity }

pub decoded_zigzags-returns-in-BitPacked : goal.decoded_zigzags-returns-in-BitPacked
decoded_zigzags-returns-in-BitPacked t c =
    let here = c.in-BitPacked in
    let a = at_node c.self.view_is c.self.invariant here.is in
    let k = plain_packed here.ptype here.width here.packed here.len here.valid here.field-6 in
    let is = a.is ∙ packed_alone k here.patches (c.is_none.ensures ∙ ap not c.if-is_none.true) in
    let w = subst (λ tree. WellFormed (zig_zag tree)) is c.requires in
    rw is (MatchResult-weaker c.decoded_zig_zag_words.result c.decoded_zig_zag_words.ensures (λ d r. zigzag_words_rows k d w r) (λ e n. n))

pub decoded_zigzags-decoded-requires : goal.decoded_zigzags-decoded-requires
decoded_zigzags-decoded-requires t c = (search rules, integer_flat (tree_type c.args.self.now) (is_unsigned-is_integer _ c.requires.1.unsigned))

pub decoded_zigzags-into_integers-zigzags-requires : goal.decoded_zigzags-into_integers-zigzags-requires
decoded_zigzags-into_integers-zigzags-requires t c = held_integers c.args.self.now c.in_ok-decoded-in_default.field-0 (is_unsigned-is_integer _ c.requires.1.unsigned) c.in_ok-decoded-in_default.ensures

pub decoded_zigzags-decoded_zig_zag-requires : goal.decoded_zigzags-decoded_zig_zag-requires
decoded_zigzags-decoded_zig_zag-requires t c =
    let got = c.in_ok-decoded-in_default in
    let parts = c.into_integers-zigzags in
    let zigzags = integers_of c.args.self.now got.field-0 parts.result.0 parts.result.1 c.requires.0 (is_unsigned-is_integer _ c.requires.1.unsigned) parts.ensures.values parts.ensures.valid got.ensures in
    ap (λ p. not (is_signed p)) zigzags.ptype ∙ (and_parts (is_integer (tree_type c.args.self.now)) _ c.requires.1.unsigned).1

pub decoded_zigzags-returns-in_ok-decoded-in_default : goal.decoded_zigzags-returns-in_ok-decoded-in_default
decoded_zigzags-returns-in_ok-decoded-in_default t c =
    let got = c.in_ok-decoded-in_default in
    let parts = c.into_integers-zigzags in
    let zigzags = integers_of c.args.self.now got.field-0 parts.result.0 parts.result.1 c.requires.0 (is_unsigned-is_integer _ c.requires.1.unsigned) parts.ensures.values parts.ensures.valid got.ensures in
    MatchResult-weaker c.decoded_zig_zag.result c.decoded_zig_zag.ensures (λ d r. zig_zag_rows c.args.self.now parts.result.0 parts.result.1 d c.requires zigzags r) (λ e n. n)
