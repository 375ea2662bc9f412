-- What the writers of nodes spell is the body of a well-formed node, whose validity has a bit for each row.
use Rattle.std.proofs.Common.{◌≡◌, ◌∙◌, ◌≤◌, ◌-◌, ◌&&◌, ◌++◌, ◌∷◌, ℕ, ℤ, Bool, true, List, length, Option, Some, None, refl, sym, ap, subst, arith}
use Rattle.std.specs.Prelude.{nat_le}
use Rattle.std.proofs.lemmas.Bool.{and_parts, leb-true}
use Rattle.vx_base.specs.declared.dtype.Nullability.{Nullability}
use Rattle.vx_base.specs.declared.ptype.PType.{PType}
use Rattle.vx_base.specs.PlainScalar.{PlainScalar}
use Rattle.vx_base.specs.declared.ptype.PType.TheVariants as ptypes
use Rattle.vx_base.specs.Integers.{natural_bits}
use Rattle.vx_base.specs.PlainType.{PlainType, is_integer, is_text, nullability_of}
use Rattle.vx_base.specs.PlainType as types
use Rattle.vx_codec.specs.Bits.{bits}
use Rattle.vx_codec.specs.FixedWidth.{byte}
use Rattle.vx_codec.specs.Lists.{counted, delimited}
use Rattle.vx_codec.specs.Varint.{varint}
use Rattle.vx_model.specs.Rows.{rows}
use Rattle.vx_model.specs.Tree.{Tree, Trees, Validity, PlainPacked, PlainBlocks, PlainPatches, bool, primitive, var_bin_view, var_bin, masked, packed_of, blocks_of, sparse_of, structure, list, fixed_size_list, frame_of_reference, delta, chunked}
use Rattle.vx_model.specs.WellFormed.{WellFormed, IsValidityOf}
use Rattle.vx_model.specs.TreeType.{tree_type}
use Rattle.vx_model.proofs.SparseLemmas.{type-sparse_of}
use Rattle.vx_model.proofs.VarBinLemmas.{length-cut_at}
use Rattle.vx_spelling.specs.Fields.{are_few, nullability, ptype, integer, row_count, list_size, counted_bytes, validity}
use Rattle.vx_spelling.specs.LeafParts.{byte_type}
use Rattle.vx_spelling.specs.Storable.{all_within, is_within, is_within_below}
use Rattle.vx_spelling.specs.TreeSpelling.{body, fields_body, flat_text, tree_text}
use Rattle.vx_spelling.specs.TypeSpelling.{type_depth}
use Rattle.vx_spelling.specs.ValueSpelling.{scalar_parts}
use Rattle.vx_file.specs.Writing.{ChunksWithin, MaybeWithin, PatchesWithin, chunks_text, maybe_flat_text, valid_text}

spelled : (valid : Validity) (len : ℕ) (n : Nullability) → IsValidityOf valid len n → (validity len).spell valid ≡ valid_text valid
spelled None len n h = refl
spelled (Some bs) len n h = ap (λ (k : ℕ). 1 ∷ (bits k).spell bs) (sym h.0)

pub body-bool : (bs : List Bool) (valid : Validity) (n : Nullability) → WellFormed (bool bs valid n)
    → body (bool bs valid n) ≡ (nullability.spell n ++ (varint.spell (length bs) ++ (bits (length bs)).spell bs)) ++ valid_text valid
body-bool bs valid n w = ap (λ (v : List ℕ). (nullability.spell n ++ (varint.spell (length bs) ++ (bits (length bs)).spell bs)) ++ v) (spelled valid (length bs) n w.0)

pub body-primitive : (p : PType) (xs : List ℤ) (valid : Validity) (n : Nullability) → WellFormed (primitive p xs valid n)
    → body (primitive p xs valid n) ≡ (ptype.spell p ++ nullability.spell n) ++ ((counted (integer p)).spell xs ++ valid_text valid)
body-primitive p xs valid n w = ap (λ (v : List ℕ). (ptype.spell p ++ nullability.spell n) ++ ((counted (integer p)).spell xs ++ v)) (spelled valid (length xs) n w.0.validity)

pub body-var_bin_view : (vs : List (List ℕ)) (valid : Validity) (t : PlainType) → WellFormed (var_bin_view vs valid t)
    → body (var_bin_view vs valid t) ≡ byte_type.spell (is_text t, nullability_of t) ++ ((counted delimited).spell vs ++ valid_text valid)
body-var_bin_view vs valid t w = ap (λ (v : List ℕ). byte_type.spell (is_text t, nullability_of t) ++ ((counted delimited).spell vs ++ v)) (spelled valid (length vs) (nullability_of t) w.0.validity)

pub body-var_bin : (offsets : Tree) (bs : List ℕ) (valid : Validity) (t : PlainType) → WellFormed (var_bin offsets bs valid t)
    → body (var_bin offsets bs valid t) ≡ byte_type.spell (is_text t, nullability_of t) ++ (tree_text offsets ++ (delimited.spell bs ++ valid_text valid))
body-var_bin offsets bs valid t w =
    let counts = subst (λ (k : ℕ). IsValidityOf valid k (nullability_of t)) (length-cut_at (rows offsets) bs) w.1.values.validity in
    ap (λ (v : List ℕ). byte_type.spell (is_text t, nullability_of t) ++ (tree_text offsets ++ (delimited.spell bs ++ v))) (spelled valid (length (rows offsets) - 1) (nullability_of t) counts)

pub body-masked : (child : Tree) (valid : List Bool) → WellFormed (masked child valid) → body (masked child valid) ≡ tree_text child ++ (bits (length valid)).spell valid
body-masked child valid w = ap (λ (k : ℕ). tree_text child ++ (bits k).spell valid) (sym w.1.lengths)

pub body-structure : (names : List (List ℕ)) (fields : Trees) (len : ℕ) (valid : Validity) (n : Nullability) → WellFormed (structure names fields len valid n)
    → body (structure names fields len valid n) ≡ (nullability.spell n ++ row_count.spell len) ++ ((varint.spell (length names) ++ fields_body names fields) ++ valid_text valid)
body-structure names fields len valid n w =
    ap (λ (v : List ℕ). (nullability.spell n ++ row_count.spell len) ++ ((varint.spell (length names) ++ fields_body names fields) ++ v)) (spelled valid len n w.1.validity)

pub body-list : (elements offsets : Tree) (valid : Validity) (n : Nullability) → WellFormed (list elements offsets valid n)
    → body (list elements offsets valid n) ≡ nullability.spell n ++ ((tree_text elements ++ tree_text offsets) ++ valid_text valid)
body-list elements offsets valid n w = ap (λ (v : List ℕ). nullability.spell n ++ ((tree_text elements ++ tree_text offsets) ++ v)) (spelled valid (length (rows offsets) - 1) n w.2.validity)

pub body-fixed_size_list : (elements : Tree) (size len : ℕ) (valid : Validity) (n : Nullability) → WellFormed (fixed_size_list elements size len valid n)
    → body (fixed_size_list elements size len valid n) ≡ (nullability.spell n ++ (list_size.spell size ++ row_count.spell len)) ++ (tree_text elements ++ valid_text valid)
body-fixed_size_list elements size len valid n w =
    ap (λ (v : List ℕ). (nullability.spell n ++ (list_size.spell size ++ row_count.spell len)) ++ (tree_text elements ++ v)) (spelled valid len n w.1.validity)

pub body-delta : (bases deltas : Tree) (len : ℕ) (valid : Validity) (n : Nullability) → WellFormed (delta bases deltas len valid n)
    → body (delta bases deltas len valid n) ≡ (nullability.spell n ++ row_count.spell len) ++ ((tree_text bases ++ tree_text deltas) ++ valid_text valid)
body-delta bases deltas len valid n w = ap (λ (v : List ℕ). (nullability.spell n ++ row_count.spell len) ++ ((tree_text bases ++ tree_text deltas) ++ v)) (spelled valid len n w.2.validity)

-- ---- packed integers, with patches or without

abbrev pub packed_text : PlainPacked → List ℕ
packed_text k = ((ptype.spell k.ptype ++ nullability.spell k.nullability) ++ (byte.spell k.width ++ row_count.spell k.len)) ++ (k.bytes ++ valid_text k.valid)

pub body-packed_of : (k : PlainPacked) (o : Option PlainPatches) → WellFormed (packed_of k o) → body (packed_of k o) ≡ packed_text k ++ maybe_flat_text o
body-packed_of k None w =
    ap (λ (v : List ℕ). (((ptype.spell k.ptype ++ nullability.spell k.nullability) ++ (byte.spell k.width ++ row_count.spell k.len)) ++ (k.bytes ++ v)) ++ maybe_flat_text None) (spelled k.valid k.len k.nullability w.0.validity)
body-packed_of k (Some p) w =
    ap (λ (v : List ℕ). (((ptype.spell k.ptype ++ nullability.spell k.nullability) ++ (byte.spell k.width ++ row_count.spell k.len)) ++ (k.bytes ++ v)) ++ maybe_flat_text (Some p)) (spelled k.valid k.len k.nullability w.3.validity)

pub within-packed_of : (k : PlainPacked) (o : Option PlainPatches) → is_within_below (packed_of k o) ≡ true → MaybeWithin o
within-packed_of k None h = tt
within-packed_of k (Some p) h = and_parts (all_within p.indices) (all_within p.values) h

abbrev pub blocks_text : PlainBlocks → Tree → List ℕ
blocks_text k offsets = ((ptype.spell k.ptype ++ nullability.spell k.nullability) ++ row_count.spell k.len) ++ (tree_text offsets ++ (counted_bytes.spell k.bytes ++ valid_text k.valid))

pub body-blocks_of : (k : PlainBlocks) (offsets : Tree) (o : Option PlainPatches) → WellFormed (blocks_of k offsets o) → body (blocks_of k offsets o) ≡ blocks_text k offsets ++ maybe_flat_text o
body-blocks_of k offsets None w =
    ap (λ (v : List ℕ). (((ptype.spell k.ptype ++ nullability.spell k.nullability) ++ row_count.spell k.len) ++ (tree_text offsets ++ (counted_bytes.spell k.bytes ++ v))) ++ maybe_flat_text None) (spelled k.valid k.len k.nullability w.1.validity)
body-blocks_of k offsets (Some p) w =
    ap (λ (v : List ℕ). (((ptype.spell k.ptype ++ nullability.spell k.nullability) ++ row_count.spell k.len) ++ (tree_text offsets ++ (counted_bytes.spell k.bytes ++ v))) ++ maybe_flat_text (Some p)) (spelled k.valid k.len k.nullability w.4.validity)

pub within-blocks_of : (k : PlainBlocks) (offsets : Tree) (o : Option PlainPatches) → is_within_below (blocks_of k offsets o) ≡ true → (all_within offsets ≡ true) × MaybeWithin o
within-blocks_of k offsets None h = (h, tt)
within-blocks_of k offsets (Some p) h =
    let a = and_parts (all_within offsets) (all_within p.indices && all_within p.values) h in
    (a.0, and_parts (all_within p.indices) (all_within p.values) a.1)

-- ---- a fill and patches, with chunk offsets or without

module _ (len offset : ℕ) (indices values : Tree) (fill : PlainScalar) where
  body-either : (o : Option Tree)
      → body (sparse_of (chunked len offset indices values o) fill) ≡ (flat_text len offset (tree_text indices) (tree_text values) ++ chunks_text o) ++ scalar_parts.spell (fill.dtype, fill.value)
  body-either None = refl
  body-either (Some chunks) = refl

  within-either : (o : Option Tree) → is_within_below (sparse_of (chunked len offset indices values o) fill) ≡ true → PatchesWithin (chunked len offset indices values o) × ChunksWithin o
  within-either None h = (and_parts (all_within indices) (all_within values) h, tt)
  within-either (Some chunks) h = let a = and_parts (all_within indices && all_within values) (all_within chunks) h in (and_parts (all_within indices) (all_within values) a.0, a.1)

pub body-sparse_of : (p : PlainPatches) (fill : PlainScalar)
    → body (sparse_of p fill) ≡ (flat_text p.array_len p.offset (tree_text p.indices) (tree_text p.values) ++ chunks_text p.chunks) ++ scalar_parts.spell (fill.dtype, fill.value)
body-sparse_of p fill = body-either p.array_len p.offset p.indices p.values fill p.chunks

-- the same of patches that were lent from their box
pub sparse_text : (lent p : PlainPatches) (fill : PlainScalar) → lent ≡ p
    → body (sparse_of p fill) ≡ (flat_text lent.array_len lent.offset (tree_text lent.indices) (tree_text lent.values) ++ chunks_text lent.chunks) ++ scalar_parts.spell (fill.dtype, fill.value)
sparse_text lent p fill is = ap (λ (q : PlainPatches). body (sparse_of q fill)) (sym is) ∙ body-sparse_of lent fill

pub within-sparse_of : (p : PlainPatches) (fill : PlainScalar) → is_within_below (sparse_of p fill) ≡ true → PatchesWithin p × ChunksWithin p.chunks
within-sparse_of p fill h = within-either p.array_len p.offset p.indices p.values fill p.chunks h

-- ---- the numbers of a node: types that nest, and the width of packed integers

integer-shallow : (t : PlainType) → is_integer t ≡ true → type_depth t ≤ 64
integer-shallow types.null_type h = absurd cc
integer-shallow (types.boolean n) h = absurd cc
integer-shallow (types.primitive p n) h = omega arith
integer-shallow (types.utf8 n) h = absurd cc
integer-shallow (types.binary n) h = absurd cc
integer-shallow (types.timestamp k n) h = absurd cc
integer-shallow (types.structure fs n) h = absurd cc
integer-shallow (types.list t n) h = absurd cc
integer-shallow (types.fixed_size_list t size n) h = absurd cc

-- the reference of a frame is an integer
pub frame-shallow : (encoded : Tree) (reference : PlainScalar) → WellFormed (frame_of_reference encoded reference) → type_depth reference.dtype ≤ 64
frame-shallow encoded reference w = integer-shallow reference.dtype w.1.reference_type

pub within-shallow : (t : Tree) → is_within t ≡ true → type_depth (tree_type t) ≤ 64
within-shallow t h = leb-true (type_depth (tree_type t)) 64 (and_parts (are_few (length (rows t))) _ h).1

-- the fill has the type of the tree
pub fill-shallow : (p : PlainPatches) (fill : PlainScalar) → is_within (sparse_of p fill) ≡ true → type_depth fill.dtype ≤ 64
fill-shallow p fill h = subst (λ (t : PlainType). type_depth t ≤ 64) (type-sparse_of p fill) (within-shallow (sparse_of p fill) h)

narrow-64 : (p : PType) (width : ℕ) → nat_le width (natural_bits p) ≡ true → width ≤ 64
narrow-64 ptypes.U8 width h = let le = leb-true _ _ h in omega arith
narrow-64 ptypes.U16 width h = let le = leb-true _ _ h in omega arith
narrow-64 ptypes.U32 width h = let le = leb-true _ _ h in omega arith
narrow-64 ptypes.U64 width h = let le = leb-true _ _ h in omega arith
narrow-64 ptypes.I8 width h = let le = leb-true _ _ h in omega arith
narrow-64 ptypes.I16 width h = let le = leb-true _ _ h in omega arith
narrow-64 ptypes.I32 width h = let le = leb-true _ _ h in omega arith
narrow-64 ptypes.I64 width h = let le = leb-true _ _ h in omega arith

pub packed-narrow : (k : PlainPacked) (o : Option PlainPatches) → WellFormed (packed_of k o) → k.width ≤ 64
packed-narrow k None w = narrow-64 k.ptype k.width w.0.narrow
packed-narrow k (Some p) w = narrow-64 k.ptype k.width w.3.narrow
