-- Nodes with trees inside are read back from their spelling.
use Rattle.std.proofs.Common.{◌≡◌, ℕ, suc, ◌≤◌, max, ◌&&◌, ◌-◌, Bool, true, List, length, Some, None, ap, subst, sym, ◌∙◌, arith}
use Rattle.std.specs.Prelude.{is_none}
use Rattle.std.proofs.lemmas.Bool.{and_parts}
use Rattle.vx_base.specs.declared.dtype.Nullability.{Nullability}
use Rattle.vx_base.specs.PlainScalar.{PlainScalar}
use Rattle.vx_base.specs.PlainType.{PlainType, is_integer, is_text, nullability_of}
use Rattle.vx_base.specs.Timestamps.{PlainTimestamp}
use Rattle.vx_base.proofs.IntegerLemmas.{by_integer}
use Rattle.vx_codec.specs.Format.{IsLawful}
use Rattle.vx_codec.proofs.FormatLaws.{made_round_trip}
use Rattle.vx_model.specs.Rows.{rows}
use Rattle.vx_model.specs.Tree.{Tree, Validity, PlainPacked, PlainBlocks, patches, chunked, var_bin, timestamp, masked, bit_packed_with, frame_of_reference, zig_zag, dict, list, fixed_size_list, sparse, run_end, rle, delta, datetime_parts, bit_packed_v2, bit_packed_v2_with, frame_of_reference_v2, sparse_chunked}
use Rattle.vx_model.specs.WellFormed.{WellFormed, IsValidityOf}
use Rattle.vx_model.proofs.AdmittedLemmas.{list-admitted, fixed_size_list-admitted, patches-admitted, chunked-admitted, sparse-admitted, datetime_parts-admitted, for_v2-admitted, run_end-admitted, rle-admitted, delta-admitted}
use Rattle.vx_model.proofs.BlocksLemmas.{length-blocks_of}
use Rattle.vx_model.proofs.DeltaLemmas.{length-delta}
use Rattle.vx_model.proofs.FixedSizeListLemmas.{length-fixed_size_list}
use Rattle.vx_model.proofs.PackedOfLemmas.{length-packed_of}
use Rattle.vx_model.proofs.RleLemmas.{length-rle}
use Rattle.vx_model.proofs.SparseLemmas.{length-sparse_of}
use Rattle.vx_model.proofs.VarBinLemmas.{length-cut_at}
use Rattle.vx_spelling.specs.Fields.{row_count}
use Rattle.vx_spelling.specs.NestedParts.{list_parts, list_of, fixed_parts, fixed_of, timestamp_parts, timestamp_of, datetime_of, var_bin_parts, var_bin_of, masked_parts, masked_of, dict_parts, dict_of, run_end_parts, run_end_of, rle_parts, rle_of}
use Rattle.vx_spelling.specs.PackedParts.{sparse_parts, sparse_from, packed_parts, packed_from, blocks_parts, blocks_from, for_parts, for_of, frames_parts, frames_of, delta_parts, delta_of, zig_zag_parts}
use Rattle.vx_spelling.specs.NestedParts as parts
use Rattle.vx_spelling.specs.Storable.{depth, all_within, NumbersFit}
use Rattle.vx_spelling.specs.TreeSpelling.{FitsAt, tree_format, packed_fields_of}
use Rattle.vx_spelling.specs.TypeSpelling.{type_depth}
use Rattle.vx_spelling.proofs.Admitted.{var_bin-admitted, timestamp-admitted, masked-admitted, for-admitted, zig_zag-admitted, dict-admitted, packed-admitted, blocks-admitted}
use Rattle.vx_spelling.proofs.Bounds.{few_rows, shallow_type, below_of}
use Rattle.vx_spelling.proofs.FieldLaws.{validity_fits}
use Rattle.vx_spelling.proofs.LeafRoundTrips.{IsReadBack, byte_type_again, packed_fields_fit}
use Rattle.vx_spelling.proofs.NodeLaws.{list_lawful, fixed_lawful, timestamp_lawful, datetime_lawful, var_bin_lawful, masked_lawful, dict_lawful, run_end_lawful, rle_lawful, sparse_lawful, packed_lawful, blocks_lawful, for_lawful, frames_lawful, delta_lawful, zig_zag_lawful}
use Rattle.vx_spelling.proofs.ValueLaws.{scalar_fits}

-- no other types nest in an integer type
shallow_integer : (t : PlainType) → is_integer t ≡ true → type_depth t ≤ 64
shallow_integer t h = by_integer (λ u. type_depth u ≤ 64) (λ p n. omega arith) t h

-- the trees inside a node fit: one, two and three
one_fit : (d : ℕ) (a : Tree) → suc (depth a) ≤ suc d → WellFormed a → all_within a ≡ true → NumbersFit a → FitsAt d a
one_fit d a le w within n = (omega arith, (w, (within, n)))

two_fit : (d : ℕ) (a b : Tree) → suc (max (depth a) (depth b)) ≤ suc d → WellFormed a → WellFormed b → (all_within a && all_within b) ≡ true → NumbersFit a → NumbersFit b → FitsAt d a × FitsAt d b
two_fit d a b le wa wb within na nb = let p = and_parts (all_within a) (all_within b) within in ((omega arith, (wa, (p.0, na))), (omega arith, (wb, (p.1, nb))))

three_fit : (d : ℕ) (a b c : Tree) → suc (max (depth a) (max (depth b) (depth c))) ≤ suc d → WellFormed a → WellFormed b → WellFormed c → (all_within a && (all_within b && all_within c)) ≡ true
    → NumbersFit a → NumbersFit b → NumbersFit c → FitsAt d a × (FitsAt d b × FitsAt d c)
three_fit d a b c le wa wb wc within na nb nc =
    let p = and_parts (all_within a) (all_within b && all_within c) within in
    let q = and_parts (all_within b) (all_within c) p.1 in
    ((omega arith, (wa, (p.0, na))), ((omega arith, (wb, (q.0, nb))), (omega arith, (wc, (q.1, nc)))))

module _ (d : ℕ) (law : IsLawful (tree_format d)) where
  pub list_read_back : (elements offsets : Tree) (valid : Validity) (n : Nullability) → IsReadBack d (list elements offsets valid n)
  list_read_back elements offsets valid n rest h =
      let w = h.1.0 in
      let nf = h.1.1.1 in
      let inside = two_fit d elements offsets h.0 w.0 w.1 (below_of (list elements offsets valid n) h.1.1.0) nf.0 nf.1 in
      made_round_trip (list_parts (tree_format d)) list_of (list_lawful (tree_format d) law) (n, ((elements, offsets), valid)) rest
      ((tt, (inside, validity_fits valid (length (rows offsets) - 1) n w.2.validity)), ap is_none (list-admitted elements offsets valid n w))

  pub fixed_read_back : (elements : Tree) (size len : ℕ) (valid : Validity) (n : Nullability) → IsReadBack d (fixed_size_list elements size len valid n)
  fixed_read_back elements size len valid n rest h =
      let t = fixed_size_list elements size len valid n in
      let w = h.1.0 in
      let nf = h.1.1.1 in
      made_round_trip (fixed_parts (tree_format d)) fixed_of (fixed_lawful (tree_format d) law) ((n, (size, len)), (elements, valid)) rest (
        ((tt, (nf.1, few_rows t len (length-fixed_size_list elements size len valid n w) h.1.1.0)), (one_fit d elements h.0 w.0 (below_of t h.1.1.0) nf.0, validity_fits valid len n w.1.validity)),
        ap is_none (fixed_size_list-admitted elements size len valid n w),
      )

  pub timestamp_read_back : (storage : Tree) (k : PlainTimestamp) → IsReadBack d (timestamp storage k)
  timestamp_read_back storage k rest h =
      let w = h.1.0 in
      let nf = h.1.1.1 in
      made_round_trip (timestamp_parts (tree_format d)) timestamp_of (timestamp_lawful (tree_format d) law) (k, storage) rest
      ((nf.1, one_fit d storage h.0 w.0 (below_of (timestamp storage k) h.1.1.0) nf.0), ap is_none (timestamp-admitted storage k w))

  pub datetime_read_back : (k : PlainTimestamp) (n : Nullability) (days seconds subseconds : Tree) → IsReadBack d (datetime_parts k n days seconds subseconds)
  datetime_read_back k n days seconds subseconds rest h =
      let w = h.1.0 in
      let nf = h.1.1.1 in
      let inside = three_fit d days seconds subseconds h.0 w.0 w.1 w.2 (below_of (datetime_parts k n days seconds subseconds) h.1.1.0) nf.1.0 nf.1.1.0 nf.1.1.1 in
      made_round_trip (parts.datetime_parts (tree_format d)) datetime_of (datetime_lawful (tree_format d) law) ((k, n), (days, (seconds, subseconds))) rest
      (((nf.0, tt), inside), ap is_none (datetime_parts-admitted k n days seconds subseconds w))

  pub var_bin_read_back : (offsets : Tree) (bs : List ℕ) (valid : Validity) (t : PlainType) → IsReadBack d (var_bin offsets bs valid t)
  var_bin_read_back offsets bs valid t rest h =
      let w = h.1.0 in
      let nf = h.1.1.1 in
      let view = w.1.values in
      let same = byte_type_again t view.byte_type in
      let counted : IsValidityOf valid (length (rows offsets) - 1) (nullability_of t) = subst (λ (n : ℕ). IsValidityOf valid n (nullability_of t)) (length-cut_at (rows offsets) bs) view.validity in
      let made = made_round_trip (var_bin_parts (tree_format d)) var_bin_of (var_bin_lawful (tree_format d) law) ((is_text t, nullability_of t), (offsets, (bs, valid))) rest (
        ((tt, tt), (one_fit d offsets h.0 w.0 (below_of (var_bin offsets bs valid t) h.1.1.0) nf.0, (nf.1, validity_fits valid (length (rows offsets) - 1) (nullability_of t) counted))),
        rw same (ap is_none (var_bin-admitted offsets bs valid t w)),
      ) in
      made ∙ ap (λ (u : PlainType). Some (var_bin offsets bs valid u, rest)) same

  pub masked_read_back : (child : Tree) (valid : List Bool) → IsReadBack d (masked child valid)
  masked_read_back child valid rest h =
      let w = h.1.0 in
      made_round_trip (masked_parts (tree_format d)) masked_of (masked_lawful (tree_format d) law) (child, valid) rest
      ((one_fit d child h.0 w.0 (below_of (masked child valid) h.1.1.0) h.1.1.1, w.1.lengths), ap is_none (masked-admitted child valid w))

  pub dict_read_back : (codes values : Tree) → IsReadBack d (dict codes values)
  dict_read_back codes values rest h =
      let w = h.1.0 in
      let nf = h.1.1.1 in
      made_round_trip (dict_parts (tree_format d)) dict_of (dict_lawful (tree_format d) law) (codes, values) rest
      (two_fit d codes values h.0 w.0 w.1 (below_of (dict codes values) h.1.1.0) nf.0 nf.1, ap is_none (dict-admitted codes values w))

  pub run_end_read_back : (ends values : Tree) → IsReadBack d (run_end ends values)
  run_end_read_back ends values rest h =
      let w = h.1.0 in
      let nf = h.1.1.1 in
      made_round_trip (run_end_parts (tree_format d)) run_end_of (run_end_lawful (tree_format d) law) (ends, values) rest
      (two_fit d ends values h.0 w.0 w.1 (below_of (run_end ends values) h.1.1.0) nf.0 nf.1, ap is_none (run_end-admitted ends values w))

  pub rle_read_back : (values indices offsets : Tree) (len : ℕ) → IsReadBack d (rle values indices offsets len)
  rle_read_back values indices offsets len rest h =
      let t = rle values indices offsets len in
      let w = h.1.0 in
      let nf = h.1.1.1 in
      made_round_trip (rle_parts (tree_format d)) rle_of (rle_lawful (tree_format d) law) (len, (values, (indices, offsets))) rest
      ((few_rows t len (length-rle values indices offsets len) h.1.1.0, three_fit d values indices offsets h.0 w.0 w.1 w.2 (below_of t h.1.1.0) nf.0 nf.1.0 nf.1.1), ap is_none (rle-admitted values indices offsets len w))

  pub for_read_back : (encoded : Tree) (reference : PlainScalar) → IsReadBack d (frame_of_reference encoded reference)
  for_read_back encoded reference rest h =
      let w = h.1.0 in
      let nf = h.1.1.1 in
      made_round_trip (for_parts (tree_format d)) for_of (for_lawful (tree_format d) law) (encoded, (reference.dtype, reference.value)) rest
      ((one_fit d encoded h.0 w.0 (below_of (frame_of_reference encoded reference) h.1.1.0) nf.0, scalar_fits reference (shallow_integer reference.dtype w.1.reference_type) w.1.fitting nf.1), ap is_none (for-admitted encoded reference w))

  pub frames_read_back : (encoded references : Tree) → IsReadBack d (frame_of_reference_v2 encoded references)
  frames_read_back encoded references rest h =
      let w = h.1.0 in
      let nf = h.1.1.1 in
      made_round_trip (frames_parts (tree_format d)) frames_of (frames_lawful (tree_format d) law) (encoded, references) rest
      (two_fit d encoded references h.0 w.0 w.1 (below_of (frame_of_reference_v2 encoded references) h.1.1.0) nf.0 nf.1, ap is_none (for_v2-admitted encoded references w))

  pub delta_read_back : (bases deltas : Tree) (len : ℕ) (valid : Validity) (n : Nullability) → IsReadBack d (delta bases deltas len valid n)
  delta_read_back bases deltas len valid n rest h =
      let t = delta bases deltas len valid n in
      let w = h.1.0 in
      let nf = h.1.1.1 in
      made_round_trip (delta_parts (tree_format d)) delta_of (delta_lawful (tree_format d) law) ((n, len), ((bases, deltas), valid)) rest (
        ((tt, few_rows t len (length-delta bases deltas len valid n w) h.1.1.0), (two_fit d bases deltas h.0 w.0 w.1 (below_of t h.1.1.0) nf.0 nf.1, validity_fits valid len n w.2.validity)),
        ap is_none (delta-admitted bases deltas len valid n w),
      )

  pub zig_zag_read_back : (encoded : Tree) → IsReadBack d (zig_zag encoded)
  zig_zag_read_back encoded rest h =
      let w = h.1.0 in
      made_round_trip (zig_zag_parts (tree_format d)) zig_zag (zig_zag_lawful (tree_format d) law) encoded rest
      (one_fit d encoded h.0 w.0 (below_of (zig_zag encoded) h.1.1.0) h.1.1.1, ap is_none (zig_zag-admitted encoded w))

  -- ---- patches

  pub sparse_read_back : (len offset : ℕ) (indices values : Tree) (fill : PlainScalar) → IsReadBack d (sparse len offset indices values fill)
  sparse_read_back len offset indices values fill rest h =
      let t = sparse len offset indices values fill in
      let p = patches len offset indices values in
      let w = h.1.0 in
      let nf = h.1.1.1 in
      let inside = two_fit d indices values h.0 w.0 w.1 (below_of t h.1.1.0) nf.0.1.0 nf.0.1.1 in
      let few = few_rows t len (length-sparse_of p fill) h.1.1.0 in
      made_round_trip (sparse_parts (tree_format d)) sparse_from (sparse_lawful (tree_format d) law) ((((len, offset), (indices, values)), None), (fill.dtype, fill.value)) rest
      ((((((few, nf.0.0), inside), tt), ap is_none (patches-admitted p (w.0, w.1, w.2, tt))), scalar_fits fill (shallow_type t h.1.1.0) w.3.fitting nf.1), ap is_none (sparse-admitted p fill w))

  pub sparse_chunked_read_back : (len offset : ℕ) (indices values chunks : Tree) (fill : PlainScalar) → IsReadBack d (sparse_chunked len offset indices values chunks fill)
  sparse_chunked_read_back len offset indices values chunks fill rest h =
      let t = sparse_chunked len offset indices values chunks fill in
      let p = chunked len offset indices values (Some chunks) in
      let w = h.1.0 in
      let nf = h.1.1.1 in
      let below = and_parts (all_within indices && all_within values) (all_within chunks) (below_of t h.1.1.0) in
      let deep : suc (max (max (depth indices) (depth values)) (depth chunks)) ≤ suc d = h.0 in
      let inside = two_fit d indices values (omega arith) w.0 w.1 below.0 nf.0.0.1.0 nf.0.0.1.1 in
      let few = few_rows t len (length-sparse_of p fill) h.1.1.0 in
      made_round_trip (sparse_parts (tree_format d)) sparse_from (sparse_lawful (tree_format d) law) ((((len, offset), (indices, values)), Some chunks), (fill.dtype, fill.value)) rest (
        (
          ((((few, nf.0.0.0), inside), one_fit d chunks (omega arith) w.2 below.1 nf.0.1), ap is_none (chunked-admitted (patches len offset indices values) chunks (w.0, w.1, w.3, (w.2, w.4)))),
          scalar_fits fill (shallow_type t h.1.1.0) w.5.fitting nf.1,
        ),
        ap is_none (sparse-admitted p fill w),
      )

  pub packed_with_read_back : (k : PlainPacked) (len offset : ℕ) (indices values : Tree) → IsReadBack d (bit_packed_with k len offset indices values)
  packed_with_read_back k len offset indices values rest h =
      let t = bit_packed_with k len offset indices values in
      let p = patches len offset indices values in
      let w = h.1.0 in
      let nf = h.1.1.1 in
      let inside = two_fit d indices values h.0 w.0 w.1 (below_of t h.1.1.0) nf.1.0 nf.1.1 in
      let few = few_rows t k.len (length-packed_of k (Some p) w) h.1.1.0 in
      made_round_trip (packed_parts (tree_format d)) packed_from (packed_lawful (tree_format d) law) (packed_fields_of k, Some (((len, offset), (indices, values)), tt)) rest
      ((packed_fields_fit k few w.3, ((((subst row_count.Fits (sym w.4.lengths) few, nf.0), inside), tt), ap is_none (patches-admitted p (w.0, w.1, w.2, tt)))), ap is_none (packed-admitted k (Some p) w))

  pub blocks_read_back : (k : PlainBlocks) (offsets : Tree) → IsReadBack d (bit_packed_v2 k offsets)
  blocks_read_back k offsets rest h =
      let t = bit_packed_v2 k offsets in
      let w = h.1.0 in
      let nf = h.1.1.1 in
      let few = few_rows t k.len (length-blocks_of k offsets None w) h.1.1.0 in
      made_round_trip (blocks_parts (tree_format d)) blocks_from (blocks_lawful (tree_format d) law) ((((k.ptype, k.nullability), k.len), (offsets, (k.bytes, k.valid))), None) rest
      (((((tt, tt), few), (one_fit d offsets h.0 w.0 (below_of t h.1.1.0) nf.0, ((nf.1, w.1.held), validity_fits k.valid k.len k.nullability w.1.validity))), tt), ap is_none (blocks-admitted k offsets None w))

  pub blocks_with_read_back : (k : PlainBlocks) (offsets : Tree) (len offset : ℕ) (indices values : Tree) → IsReadBack d (bit_packed_v2_with k offsets len offset indices values)
  blocks_with_read_back k offsets len offset indices values rest h =
      let t = bit_packed_v2_with k offsets len offset indices values in
      let p = patches len offset indices values in
      let w = h.1.0 in
      let nf = h.1.1.1 in
      let few = few_rows t k.len (length-blocks_of k offsets (Some p) w) h.1.1.0 in
      let inside = three_fit d offsets indices values h.0 w.0 w.1 w.2 (below_of t h.1.1.0) nf.0.0 nf.1.1.0 nf.1.1.1 in
      made_round_trip (blocks_parts (tree_format d)) blocks_from (blocks_lawful (tree_format d) law) ((((k.ptype, k.nullability), k.len), (offsets, (k.bytes, k.valid))), Some (((len, offset), (indices, values)), tt)) rest (
        (
          (((tt, tt), few), (inside.0, ((nf.0.1, w.4.held), validity_fits k.valid k.len k.nullability w.4.validity))),
          ((((subst row_count.Fits (sym w.5.lengths) few, nf.1.0), inside.1), tt), ap is_none (patches-admitted p (w.1, w.2, w.3, tt))),
        ),
        ap is_none (blocks-admitted k offsets (Some p) w),
      )
