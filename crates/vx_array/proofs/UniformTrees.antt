-- Trees whose rows are all equal, node by node.
use Rattle.std.proofs.Common.{◌≡◌, ◌∙◌, ◌<◌, ◌+◌, ◌*◌, ◌/◌, ◌%◌, ◌^◌, ℕ, zero, suc, ℤ, pos, List, [], ◌∷◌, length, drop, refl, sym, ap, subst, arith, None}
use Rattle.std.specs.Prelude.{◌+ℤ◌, ◌*ℤ◌}
use Rattle.std.proofs.lemmas.Int.{ints}
use Rattle.vx_base.specs.declared.dtype.Nullability.{Nullability}
use Rattle.vx_base.specs.declared.ptype.PType.{PType}
use Rattle.vx_base.specs.Packed.{packed_row, row_in}
use Rattle.vx_base.specs.PlainScalar.{PlainScalar}
use Rattle.vx_base.specs.PlainType.{integer_of}
use Rattle.vx_base.specs.PlainValue.{PlainValue, int, whole_or_zero}
use Rattle.vx_base.specs.Wrapping.{wrap}
use Rattle.vx_model.specs.Rows.{rows, row_at, block_rows, each_int, looked_up, moved, patched, unzigzagged}
use Rattle.vx_model.specs.Tree.{Tree, PlainBlocks, PlainPacked, PlainPatches, bit_packed, bit_packed_v2, constant, dict, frame_of_reference, frame_of_reference_v2, rle, run_end, sequence, sparse_of, zig_zag}
use Rattle.vx_model.specs.TreeType.{tree_type}
use Rattle.vx_model.specs.WellFormed.{WellFormed}
use Rattle.vx_model.proofs.BlocksLemmas.{length-blocks_of, row_at-blocks_of}
use Rattle.vx_model.proofs.DictLemmas.{length-dict, row_at-dict}
use Rattle.vx_model.proofs.FrameOfReferenceV2Lemmas.{length-frame_of_reference_v2, row_at-frame_of_reference_v2}
use Rattle.vx_model.proofs.PackedLemmas.{length-bit_packed, row_at-bit_packed, packed_row-lt, length-frame_of_reference, row_at-frame_of_reference}
use Rattle.vx_model.proofs.RleLemmas.{block-within, length-rle, rle-within, row_at-rle}
use Rattle.vx_model.proofs.RowLemmas.{length-constant, row_at-replicate}
use Rattle.vx_model.proofs.RunEndLemmas.{length-run_end, row_at-run_end, run_value-some, last_end}
use Rattle.vx_model.proofs.SequenceLemmas.{length-sequence, row_at-sequence}
use Rattle.vx_model.proofs.SparseLemmas.{length-sparse_of, row_at-sparse_of}
use Rattle.vx_model.proofs.ZigZagLemmas.{length-zig_zag, row_at-zig_zag}
use Rattle.vx_array.specs.Linear.{IsUniform, IsArithmetic}

-- rows of as many as n, each the same
uniform-by : (vs : List PlainValue) (n : ℕ) (v : PlainValue) → length vs ≡ n → ((i : ℕ) → i < n → row_at vs i ≡ v) → IsUniform vs
uniform-by vs n v long each i l = each i (omega (arith, long)) ∙ sym (each 0 (omega (arith, long)))

pub uniform-constant : (s : PlainScalar) (len : ℕ) → IsUniform (rows (constant s len))
uniform-constant s len = uniform-by (rows (constant s len)) len s.value (length-constant s len) (λ i l. row_at-replicate len i s.value l)

pub linear-sequence : (p : PType) (n : Nullability) (first step : ℤ) (len : ℕ) → IsArithmetic (rows (sequence p n first step len))
linear-sequence p n first step len =
    let long = length-sequence p n first step len in
    record { first = first; step = step; each = λ i l. row_at-sequence p n first step len i (omega (arith, long)) }

pub uniform-sequence : (p : PType) (n : Nullability) (first step : ℤ) (len : ℕ) → step ≡ pos 0 → IsUniform (rows (sequence p n first step len))
uniform-sequence p n first step len none =
    uniform-by (rows (sequence p n first step len)) len (int first) (length-sequence p n first step len)
    (λ i l. row_at-sequence p n first step len i l ∙ ap (λ z. int (first +ℤ pos i *ℤ z)) none ∙ ap int (omega (arith, ints)))

pub uniform-bit_packed : (k : PlainPacked) → k.width ≡ 0 → k.valid ≡ None → WellFormed (bit_packed k) → IsUniform (rows (bit_packed k))
uniform-bit_packed k narrow all w =
    uniform-by (rows (bit_packed k)) k.len (int (pos 0)) (length-bit_packed k w) (λ i l. (
    let small : packed_row k.bytes k.width i < 1 = subst (λ n. packed_row k.bytes k.width i < 2 ^ n) narrow (packed_row-lt k.bytes k.width i) in
    let none : packed_row k.bytes k.width i ≡ 0 = omega arith in
    row_at-bit_packed k i w l ∙ rw (all, none) refl
    ))

pub drop-none : (n : ℕ) (bytes : List ℕ) → bytes ≡ [] → drop n bytes ≡ []
drop-none zero bytes none = none
drop-none (suc n) [] none = refl
drop-none (suc n) (b ∷ bytes) none = absurd cc

row_in-none : (width row : ℕ) → row_in width 0 row ≡ 0
row_in-none width row =
    let none : 0 / 2 ^ (width * row) ≡ 0 = omega arith in
    let rest : 0 % 2 ^ width ≡ 0 = omega arith in
    rw none rest

packed_row-none : (bytes : List ℕ) (width row : ℕ) → bytes ≡ [] → packed_row bytes width row ≡ 0
packed_row-none bytes width row none = rw none (row_in-none width row)

pub no_items : {A : Type 0} (xs : List A) → length xs ≡ 0 → xs ≡ []
no_items [] e = refl
no_items (x ∷ xs) e = absurd (omega arith)

pub uniform-blocks : (k : PlainBlocks) (offsets : Tree) → length k.bytes ≡ 0 → k.valid ≡ None → WellFormed (bit_packed_v2 k offsets) → IsUniform (rows (bit_packed_v2 k offsets))
uniform-blocks k offsets none all w =
    uniform-by (rows (bit_packed_v2 k offsets)) k.len (int (pos 0)) (length-blocks_of k offsets None w) (λ i l. (
    row_at-blocks_of k offsets None i w l
    ∙ rw all (ap (λ n. int (pos n)) (packed_row-none (drop _ k.bytes) _ _ (drop-none _ k.bytes (no_items k.bytes none))))
    ))

pub uniform-frame_of_reference : (encoded : Tree) (reference : PlainScalar) → IsUniform (rows encoded) → IsUniform (rows (frame_of_reference encoded reference))
uniform-frame_of_reference encoded reference same =
    uniform-by (rows (frame_of_reference encoded reference)) (length (rows encoded)) (moved reference (row_at (rows encoded) 0)) (length-frame_of_reference encoded reference)
    (λ i l. row_at-frame_of_reference encoded reference i l ∙ ap (moved reference) (same i l))

pub uniform-zig_zag : (encoded : Tree) → IsUniform (rows encoded) → IsUniform (rows (zig_zag encoded))
uniform-zig_zag encoded same =
    uniform-by (rows (zig_zag encoded)) (length (rows encoded)) (unzigzagged (row_at (rows encoded) 0)) (length-zig_zag encoded) (λ i l. row_at-zig_zag encoded i l ∙ ap unzigzagged (same i l))

pub uniform-dict : (codes values : Tree) → IsUniform (rows codes) → IsUniform (rows (dict codes values))
uniform-dict codes values same =
    uniform-by (rows (dict codes values)) (length (rows codes)) (looked_up (rows values) (row_at (rows codes) 0)) (length-dict codes values)
    (λ i l. row_at-dict codes values i l ∙ ap (looked_up (rows values)) (same i l))

pub uniform-run_end : (ends values : Tree) → IsUniform (rows values) → WellFormed (run_end ends values) → IsUniform (rows (run_end ends values))
uniform-run_end ends values same w =
    uniform-by (rows (run_end ends values)) (last_end (rows ends)) (row_at (rows values) 0) (length-run_end ends values) (λ i l. (
    let own = run_value-some (rows ends) (rows values) i w.2.lengths l in
    row_at-run_end ends values i l ∙ own.is ∙ same own.place own.within
    ))

pub uniform-rle : (values indices offsets : Tree) (len : ℕ) → IsUniform (rows indices) → IsUniform (rows offsets) → WellFormed (rle values indices offsets len) → IsUniform (rows (rle values indices offsets len))
uniform-rle values indices offsets len same_indices same_offsets w =
    uniform-by (rows (rle values indices offsets len)) len
    (looked_up (rows values) (int (whole_or_zero (row_at (rows offsets) 0) +ℤ whole_or_zero (row_at (rows indices) 0)))) (length-rle values indices offsets len) (λ i l. (
    let within = rle-within values indices offsets len i w l in
    row_at-rle values indices offsets len i l
    ∙ (λ j. looked_up (rows values) (int (whole_or_zero (same_offsets (i / block_rows) within.0 j) +ℤ whole_or_zero (same_indices i within.1 j))))
    ))

pub uniform-frame_of_reference_v2 : (encoded references : Tree) → IsUniform (rows encoded) → IsUniform (rows references) → WellFormed (frame_of_reference_v2 encoded references) → IsUniform (rows (frame_of_reference_v2 encoded references))
uniform-frame_of_reference_v2 encoded references same_encoded same_references w =
    let p = integer_of (tree_type references) in
    uniform-by (rows (frame_of_reference_v2 encoded references)) (length (rows encoded)) (each_int (λ z. wrap p (whole_or_zero (row_at (rows references) 0) +ℤ z)) (row_at (rows encoded) 0))
    (length-frame_of_reference_v2 encoded references) (λ i l. (
    let block = (block-within (length (rows encoded)) i l).0 in
    let many = w.2.lengths in
    let within : i / block_rows < length (rows references) = omega (arith, block, many) in
    row_at-frame_of_reference_v2 encoded references i l
    ∙ (λ j. each_int (λ z. wrap p (whole_or_zero (same_references (i / block_rows) within j) +ℤ z)) (same_encoded i l j))
    ))

-- a fill without patches
pub uniform-sparse_of : (p : PlainPatches) (fill : PlainScalar) → length (rows p.indices) ≡ 0 → IsUniform (rows (sparse_of p fill))
uniform-sparse_of p fill none =
    uniform-by (rows (sparse_of p fill)) p.array_len fill.value (length-sparse_of p fill)
    (λ i l. row_at-sparse_of p fill i l ∙ ap (λ is. patched is (rows p.values) fill.value (p.offset + i)) (no_items (rows p.indices) none))
