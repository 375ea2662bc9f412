-- Integers packed in blocks, with the patches that there are: their rows, decoding, and that a constructor's tree is well formed.
use Rattle.std.proofs.Common.{◌≡◌, ◌<◌, ◌≤◌, ◌+◌, ◌-◌, ◌*◌, ◌/◌, ◌%◌, ◌^◌, ◌∙◌, ℕ, pos, List, [], ◌∷◌, length, map, refl, ap, subst, arith, true, false, cond, Option, Some, None}
use Rattle.std.specs.Prelude.{nat_lt, nat_le, unwrap_or, is_some, IfSome, drop}
use Rattle.std.specs.List.{list_all, list_any, range_with_len}
use Rattle.std.proofs.lemmas.Bool.{and_parts, eqb-true, leb-true, ltb-true, lt-ltb}
use Rattle.std.proofs.lemmas.Simd.{map-map}
use Rattle.std.proofs.Math.Nat.{pow-le-pow_right}
use Rattle.vx_base.specs.declared.array_id.ArrayId.TheVariants as ids
use Rattle.vx_base.specs.declared.dtype.Nullability.TheVariants.{NonNullable}
use Rattle.vx_base.specs.Integers.{natural_bits}
use Rattle.vx_base.specs.PlainScalar.{fits}
use Rattle.vx_base.specs.PlainType.{stored_type}
use Rattle.vx_base.specs.PlainType as types
use Rattle.vx_base.specs.PlainValue.{PlainValue, null, int, is_null}
use Rattle.vx_base.specs.Storable.{same_path}
use Rattle.vx_model.specs.Decoded.{zeroed_by}
use Rattle.vx_model.specs.Extents.{extents}
use Rattle.vx_model.specs.Nodes.{encoding}
use Rattle.vx_model.specs.Plain.{validity}
use Rattle.vx_model.specs.Refusals.{kept, kept_blocks, bit_packed_v2_refusal}
use Rattle.vx_model.specs.Rows.{rows, row_at, index_of, is_index, is_valid_at, valid_rows, below, block_rows, offset_at, packed_in_block, block_or_patch}
use Rattle.vx_model.specs.Size.{size, patches_size, validity_size}
use Rattle.vx_model.specs.Tree.{Tree, PlainBlocks, PlainPatches, blocks_of}
use Rattle.vx_model.specs.TreeType.{tree_type}
use Rattle.vx_model.specs.WellFormed.{WellFormed, WellFormedPatches, IsValidityOf, IsWellBlocked, lies_between, is_block_width, are_block_offsets}
use Rattle.vx_model.proofs.DecodeLemmas.{map-valid_rows, any_null-valid_rows, validity-valid_rows, null_allowed}
use Rattle.vx_model.proofs.MadeLemmas.{kept_validity, valid_fit, rows_fit}
use Rattle.vx_model.proofs.NumberedLemmas.{below_passes}
use Rattle.vx_model.proofs.PackedDecodeLemmas.{no_null-below, no_null-patched}
use Rattle.vx_model.proofs.PackedLemmas.{length-valid_below, row_at-valid_below, bits_of_below, below-passes, packed_row-lt, patched_passes, wider_fits, passed}
use Rattle.vx_model.proofs.RleLemmas.{block-within}

-- ---- widths of blocks

between-index : (low high : ℕ) (v : PlainValue) → lies_between low high v ≡ true → (low ≤ unwrap_or (index_of v) 0) × (unwrap_or (index_of v) 0 < high)
between-index low high (int (pos n)) h = let b = and_parts (nat_le low n) (nat_lt n high) h in (leb-true _ _ b.0, ltb-true _ _ b.1)
between-index low high v h = absurd cc

-- the width of a block is at most the limit
pub width-within : (most : ℕ) (offsets : List PlainValue) (b : ℕ) → are_block_offsets most offsets ≡ true → b + 1 < length offsets
    → (offset_at offsets b ≤ offset_at offsets (b + 1)) × (offset_at offsets (b + 1) - offset_at offsets b ≤ most)
width-within most offsets b h l =
    let each = (and_parts (is_index (row_at offsets 0) 0) (list_all (is_block_width most offsets) (range_with_len 0 (length offsets - 1))) h).1 in
    let own = between-index (offset_at offsets b) (offset_at offsets b + most + 1) (row_at offsets (b + 1)) (below_passes (is_block_width most offsets) (length offsets - 1) b each (omega arith)) in
    (own.0, omega arith)

-- ---- the rows of a node

module _ (k : PlainBlocks) (offsets : Tree) where
  -- row i where it is valid
  abbrev pub row_of_blocks : Option PlainPatches → ℕ → PlainValue
  row_of_blocks o = block_or_patch k.bytes (rows offsets) o

  pub blocks-blocks_of : (o : Option PlainPatches) → WellFormed (blocks_of k offsets o) → IsWellBlocked k offsets
  blocks-blocks_of None h = h.1
  blocks-blocks_of (Some p) h = h.4

  pub patches_len-blocks_of : (p : PlainPatches) → WellFormed (blocks_of k offsets (Some p)) → p.array_len ≡ k.len
  patches_len-blocks_of p h = h.5.lengths

  rows-blocks_of : (o : Option PlainPatches) → rows (blocks_of k offsets o) ≡ valid_rows k.valid (below (row_of_blocks o) k.len)
  rows-blocks_of None = refl
  rows-blocks_of (Some p) = refl

  pub length-blocks_of : (o : Option PlainPatches) → WellFormed (blocks_of k offsets o) → length (rows (blocks_of k offsets o)) ≡ k.len
  length-blocks_of o h = ap length (rows-blocks_of o) ∙ length-valid_below k.valid (row_of_blocks o) k.len k.nullability (blocks-blocks_of o h).validity

  pub row_at-blocks_of : (o : Option PlainPatches) (i : ℕ) → WellFormed (blocks_of k offsets o) → i < k.len
      → row_at (rows (blocks_of k offsets o)) i ≡ cond (is_valid_at k.valid i) (block_or_patch k.bytes (rows offsets) o i) null
  row_at-blocks_of o i h l = ap (λ rs. row_at rs i) (rows-blocks_of o) ∙ row_at-valid_below k.valid (row_of_blocks o) k.len k.nullability i (blocks-blocks_of o h).validity l

  pub type-blocks_of : (o : Option PlainPatches) → tree_type (blocks_of k offsets o) ≡ types.primitive k.ptype k.nullability
  type-blocks_of None = refl
  type-blocks_of (Some p) = refl

  pub encoding-blocks_of : (o : Option PlainPatches) → encoding (blocks_of k offsets o) ≡ ids.BitPackedV2
  encoding-blocks_of None = refl
  encoding-blocks_of (Some p) = refl

  pub extents-blocks_of : (o : Option PlainPatches) → extents (blocks_of k offsets o) ≡ k.len ∷ []
  extents-blocks_of None = refl
  extents-blocks_of (Some p) = refl

  pub size-blocks_of : (o : Option PlainPatches) → size (blocks_of k offsets o) ≡ length k.bytes + (size offsets + patches_size o) + validity_size k.valid
  size-blocks_of None = omega arith
  size-blocks_of (Some p) = refl

  -- ---- decoding

  no_null_row : (o : Option PlainPatches) (i : ℕ) → WellFormed (blocks_of k offsets o) → is_null (row_of_blocks o i) ≡ false
  no_null_row None i h = refl
  no_null_row (Some p) i h =
      no_null-patched (rows p.indices) (rows p.values) (packed_in_block k.bytes (rows offsets) i) (p.offset + i)
      (null_allowed k.ptype (rows p.values) (subst (λ t. list_all (fits t) (rows p.values) ≡ true) h.5.values_type (rows_fit p.values h.2))) refl

  module _ (o : Option PlainPatches) (h : WellFormed (blocks_of k offsets o)) where
    bits : IsValidityOf k.valid (length (below (row_of_blocks o) k.len)) k.nullability
    bits = bits_of_below k.valid (row_of_blocks o) k.len k.nullability (blocks-blocks_of o h).validity

    no_null : list_any is_null (below (row_of_blocks o) k.len) ≡ false
    no_null = no_null-below (row_of_blocks o) 0 k.len (λ i. no_null_row o i h)

    pub map-blocks_of : {A : Type 0} (f : PlainValue → A) → map f (rows (blocks_of k offsets o)) ≡ zeroed_by (f null) k.valid (below (λ i. f (block_or_patch k.bytes (rows offsets) o i)) k.len)
    map-blocks_of f =
        ap (map f) (rows-blocks_of o) ∙ map-valid_rows f k.valid (below (row_of_blocks o) k.len) k.nullability bits ∙ ap (zeroed_by (f null) k.valid) (map-map f (row_of_blocks o) (range_with_len 0 k.len))

    pub any_null-blocks_of : list_any is_null (rows (blocks_of k offsets o)) ≡ is_some k.valid
    any_null-blocks_of = ap (list_any is_null) (rows-blocks_of o) ∙ any_null-valid_rows k.valid (below (row_of_blocks o) k.len) k.nullability bits no_null

    pub validity-blocks_of : validity (rows (blocks_of k offsets o)) ≡ k.valid
    validity-blocks_of = ap validity (rows-blocks_of o) ∙ validity-valid_rows k.valid (below (row_of_blocks o) k.len) k.nullability bits no_null

pub ruleset blocks_of_reads = (length-blocks_of, row_at-blocks_of, type-blocks_of, encoding-blocks_of, extents-blocks_of, size-blocks_of)

-- ---- a constructor's tree is well formed, where nothing is refused

module _ (k : PlainBlocks) (offsets : Tree) (own : IsWellBlocked (kept_blocks k) offsets) where
  -- a row's bits fit the type, since the width of its block does
  block_fits : (i : ℕ) → i < k.len → fits (types.primitive k.ptype k.nullability) (packed_in_block k.bytes (rows offsets) i) ≡ true
  block_fits i l =
      let b = i / block_rows in
      let within = block-within k.len i l in
      let width = width-within (natural_bits k.ptype) (rows offsets) b own.widths (omega (arith, within.0, own.lengths)) in
      let w = offset_at (rows offsets) (b + 1) - offset_at (rows offsets) b in
      let most : 2 ^ w ≤ 2 ^ natural_bits k.ptype = pow-le-pow_right (omega arith) width.1 in
      lt-ltb _ _ (omega (arith, packed_row-lt (drop (128 * offset_at (rows offsets) b) k.bytes) w (i % block_rows), most))

  rows_made : (o : Option PlainPatches) → ((i : ℕ) → i < k.len → fits (types.primitive k.ptype k.nullability) (block_or_patch k.bytes (rows offsets) o i) ≡ true)
      → list_all (fits (types.primitive k.ptype k.nullability)) (valid_rows (kept k.valid) (below (block_or_patch k.bytes (rows offsets) o) k.len)) ≡ true
  rows_made o each =
      valid_fit (kept k.valid) (types.primitive k.ptype k.nullability) k.len (below (block_or_patch k.bytes (rows offsets) o) k.len) own.validity
      (below-passes (fits (types.primitive k.ptype k.nullability)) (block_or_patch k.bytes (rows offsets) o) k.len each)

  blocks_made : WellFormed offsets → WellFormed (blocks_of (kept_blocks k) offsets None)
  blocks_made w = (w, own, rows_made None block_fits)

  blocks_with_made : (p : PlainPatches) → p.array_len ≡ k.len → tree_type p.values ≡ types.primitive k.ptype NonNullable → WellFormed offsets → WellFormedPatches p → WellFormed (blocks_of (kept_blocks k) offsets (Some p))
  blocks_with_made p lengths values_type w v =
      let those : list_all (fits (types.primitive k.ptype k.nullability)) (rows p.values) ≡ true =
      wider_fits k.ptype k.nullability (rows p.values) (subst (λ t. list_all (fits t) (rows p.values) ≡ true) values_type (rows_fit p.values v.1)) in (
        w,
        v.0,
        v.1,
        v.2,
        own,
        record { lengths = lengths; values_type = values_type },
        rows_made (Some p) (λ i l.
            patched_passes (fits (types.primitive k.ptype k.nullability)) (rows p.indices) (rows p.values) (packed_in_block k.bytes (rows offsets) i) (p.offset + i) those (block_fits i l)),
      )

blocks_are_well : (k : PlainBlocks) (offsets : Tree) (o : Option PlainPatches) → bit_packed_v2_refusal k offsets o ≡ None → list_all (λ byte. nat_lt byte 256) k.bytes ≡ true → IsWellBlocked (kept_blocks k) offsets
blocks_are_well k offsets o h held =
    let a = passed _ _ _ h in
    let b = passed _ _ _ a.1 in
    let c = passed _ _ _ b.1 in
    let d = passed _ _ _ c.1 in
    let lengths = and_parts _ _ b.0 in
    let bits = and_parts _ _ lengths.1 in
    let places = and_parts _ _ c.0 in
    record {
      held = held;
      offsets_type = (and_parts _ _ a.0).0;
      lengths = eqb-true _ _ lengths.0;
      widths = places.0;
      sized = eqb-true _ _ places.1;
      validity = kept_validity k.valid k.len k.nullability bits.0 d.0;
    }

pub blocks_accepted : (k : PlainBlocks) (offsets : Tree) (o : Option PlainPatches) → bit_packed_v2_refusal k offsets o ≡ None → list_all (λ byte. nat_lt byte 256) k.bytes ≡ true → WellFormed offsets → IfSome o WellFormedPatches
    → WellFormed (blocks_of (kept_blocks k) offsets o)
blocks_accepted k offsets None h held w v = blocks_made k offsets (blocks_are_well k offsets None h held) w
blocks_accepted k offsets (Some p) h held w v =
    let a = passed _ _ _ h in
    let b = passed _ _ _ a.1 in
    let bits = and_parts _ _ (and_parts _ _ b.0).1 in
    blocks_with_made k offsets (blocks_are_well k offsets (Some p) h held) p (eqb-true _ _ bits.1) (same_path stored_type _ _ (and_parts _ _ a.0).1) w v
