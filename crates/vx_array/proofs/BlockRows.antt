-- Integers packed in blocks: what a read of one row needs, and what all rows decode to.
use Rattle.std.proofs.Common.{◌≡◌, ◌<◌, ◌≤◌, ◌+◌, ◌-◌, ◌*◌, ◌/◌, ◌∙◌, ℕ, pos, List, [], ◌∷◌, length, map, Some, None, true, false, Bool, refl, sym, ap, arith}
use Rattle.std.specs.Prelude.{IsTrue, IfSome, Option, nat_le, nat_lt, not}
use Rattle.std.specs.List.{list_all, range_with_len}
use Rattle.std.proofs.lemmas.Bool.{and_parts, and_from, eq-eqb, ltb-true, lt-ltb}
use Rattle.std.proofs.lemmas.List.{length-map}
use Rattle.vx_base.specs.declared.dtype.Nullability.{Nullability}
use Rattle.vx_base.specs.declared.dtype.Nullability.TheVariants.{NonNullable}
use Rattle.vx_base.specs.Packed.{block_count}
use Rattle.vx_base.specs.Integers.{natural_bits}
use Rattle.vx_base.specs.PlainType.{is_flat, is_integer, is_nullable}
use Rattle.vx_base.specs.PlainType as types
use Rattle.vx_base.specs.PlainValue.{PlainValue, int, whole_or_zero}
use Rattle.vx_model.specs.Decoded.{zeroed_by}
use Rattle.vx_model.specs.Refusals.{validity_length}
use Rattle.vx_model.specs.Rows.{rows, row_at, is_index, offset_at, below, block_rows, block_or_patch}
use Rattle.vx_model.specs.Tree.{Tree, Validity, PlainBlocks, PlainPatches, blocks_of}
use Rattle.vx_model.specs.TreeType.{tree_type}
use Rattle.vx_model.specs.WellFormed.{WellFormed, IsValidityOf, IsWellBlocked, lies_between, is_block_width, are_block_offsets}
use Rattle.vx_model.proofs.BlocksLemmas.{width-within, blocks-blocks_of, type-blocks_of, map-blocks_of, validity-blocks_of}
use Rattle.vx_model.proofs.DecodeLemmas.{no_null, values-wholes}
use Rattle.vx_model.proofs.MadeLemmas.{rows_fit}
use Rattle.vx_model.proofs.RleLemmas.{block-within}
use Rattle.vx_values.specs.ValuesOf.{ints, AreRows}
use Rattle.vx_values.specs.declared.decoded.Decoded.{Decoded}
use Rattle.vx_values.specs.declared.ints.Ints.{Ints}
use Rattle.vx_values.specs.IntsOf.{wholes_of}
use Rattle.vx_values.proofs.BlockOffsets.{rises_to}
use Rattle.vx_array.specs.IsDecoded.{IsDecoded}
use Rattle.vx_array.specs.Lent.{AreIntegers}
use Rattle.vx_array.proofs.Decodings.{integer_rows, no_nulls}
use Rattle.vx_array.proofs.Unpacked.{natural_bits-le}

-- ---- no block needs more than 64 bits

between-wider : (low high most : ℕ) (v : PlainValue) → high ≤ most → lies_between low high v ≡ true → lies_between low most v ≡ true
between-wider low high most (int (pos n)) l h =
    let b = and_parts (nat_le low n) (nat_lt n high) h in
    and_from _ _ b.0 (lt-ltb _ _ (omega (arith, ltb-true _ _ b.1)))
between-wider low high most v l h = absurd cc

all-wider : (p q : ℕ → Bool) (xs : List ℕ) → ((x : ℕ) → p x ≡ true → q x ≡ true) → list_all p xs ≡ true → list_all q xs ≡ true
all-wider p q [] each h = refl
all-wider p q (x ∷ xs) each h = let b = and_parts (p x) (list_all p xs) h in and_from _ _ (each x b.0) (all-wider p q xs each b.1)

pub wider-offsets : (most limit : ℕ) (offsets : List PlainValue) → most ≤ limit → are_block_offsets most offsets ≡ true → are_block_offsets limit offsets ≡ true
wider-offsets most limit offsets l h =
    let b = and_parts (is_index (row_at offsets 0) 0) (list_all (is_block_width most offsets) (range_with_len 0 (length offsets - 1))) h in
    and_from _ _ b.0
    (all-wider (is_block_width most offsets) (is_block_width limit offsets) (range_with_len 0 (length offsets - 1))
    (λ x e. between-wider (offset_at offsets x) (offset_at offsets x + most + 1) (offset_at offsets x + limit + 1) (row_at offsets (x + 1)) (omega arith) e) b.1)

pub width-order : (offsets : List PlainValue) (b : ℕ) → are_block_offsets 64 offsets ≡ true → b + 1 < length offsets → offset_at offsets b ≤ offset_at offsets (b + 1)
width-order offsets b h l = (width-within 64 offsets b h l).0

pub width-narrow : (offsets : List PlainValue) (b : ℕ) → are_block_offsets 64 offsets ≡ true → b + 1 < length offsets → offset_at offsets (b + 1) ≤ offset_at offsets b + 64
width-narrow offsets b h l = let w = width-within 64 offsets b h l in omega arith

-- ---- a row

-- what a row's block has to be like, for the row to be read
pub record IsBlockRow (k : PlainBlocks) (offsets : Tree) (o : Option PlainPatches) (row : ℕ) : Type 0 where
  pub integers : is_integer (tree_type offsets) ≡ true
  pub widths : are_block_offsets 64 (rows offsets) ≡ true
  pub block : row / block_rows + 1 < length (rows offsets)
  pub bytes : 128 * offset_at (rows offsets) (row / block_rows + 1) ≤ length k.bytes

pub whole-offsets : (k : PlainBlocks) (offsets : Tree) → IsWellBlocked k offsets → is_integer (tree_type offsets) ≡ true
whole-offsets k offsets own = (and_parts (is_integer (tree_type offsets)) (not (is_nullable (tree_type offsets))) own.offsets_type).0

pub flat_blocks : (k : PlainBlocks) (offsets : Tree) (o : Option PlainPatches) → WellFormed (blocks_of k offsets o) → IfSome o (λ p. IsTrue (is_flat (tree_type p.values)))
flat_blocks k offsets None w = tt
flat_blocks k offsets (Some p) w = ap is_flat w.5.values_type

pub block_row_of : (k : PlainBlocks) (offsets : Tree) (o : Option PlainPatches) (row : ℕ) → WellFormed (blocks_of k offsets o) → row < k.len → IsBlockRow k offsets o row
block_row_of k offsets o row w l =
    let own = blocks-blocks_of k offsets o w in
    let there = block-within k.len row l in
    let block = row / block_rows in
    let last = block_count k.len in
    let up = rises_to (natural_bits k.ptype) (rows offsets) own.widths (last - (block + 1)) (block + 1) last (omega (arith, there.0)) (omega (arith, own.lengths)) in
    record {
      integers = whole-offsets k offsets own;
      widths = wider-offsets (natural_bits k.ptype) 64 (rows offsets) (natural_bits-le k.ptype) own.widths;
      block = omega (arith, there.0, own.lengths);
      bytes = omega (arith, up, own.sized);
    }

-- ---- all rows

pub patches_whole : (k : PlainBlocks) (offsets : Tree) (o : Option PlainPatches) → WellFormed (blocks_of k offsets o) → IfSome o (λ p. tree_type p.values ≡ types.primitive k.ptype NonNullable)
patches_whole k offsets None w = tt
patches_whole k offsets (Some p) w = w.5.values_type

pub patches_long : (k : PlainBlocks) (offsets : Tree) (o : Option PlainPatches) → WellFormed (blocks_of k offsets o) → IfSome o (λ p. k.len ≡ p.array_len)
patches_long k offsets None w = tt
patches_long k offsets (Some p) w = sym w.5.lengths

bits_long : (valid : Validity) (len : ℕ) (n : Nullability) → IsValidityOf valid len n → validity_length valid len ≡ true
bits_long None len n h = refl
bits_long (Some bits) len n h = eq-eqb _ _ h.0

pub validity_long : (k : PlainBlocks) (offsets : Tree) (o : Option PlainPatches) → WellFormed (blocks_of k offsets o) → validity_length k.valid k.len ≡ true
validity_long k offsets o w = bits_long k.valid k.len k.nullability (blocks-blocks_of k offsets o w).validity

pub offsets_known : (k : PlainBlocks) (offsets : Tree) (o : Option PlainPatches) → WellFormed (blocks_of k offsets o) → WellFormed offsets
offsets_known k offsets None w = w.0
offsets_known k offsets (Some p) w = w.0

not_true : (b : Bool) → not b ≡ true → b ≡ false
not_true true e = absurd cc
not_true false e = refl

module _ (k : PlainBlocks) (offsets : Tree) (o : Option PlainPatches) (xs : Ints) (valid : Validity) (w : WellFormed (blocks_of k offsets o)) (h : AreIntegers offsets xs valid) where
  abbrev own : IsWellBlocked k offsets
  own = blocks-blocks_of k offsets o w

  -- the offsets as decoded are the rows
  decoded-offsets : map int (wholes_of xs) ≡ rows offsets
  decoded-offsets =
      let typed = and_parts (is_integer (tree_type offsets)) (not (is_nullable (tree_type offsets))) own.offsets_type in
      let fit = rows_fit offsets (offsets_known k offsets o w) in
      let none = no_null (tree_type offsets) (rows offsets) fit (not_true (is_nullable (tree_type offsets)) typed.1) in
      ap (map int) h.wholes ∙ values-wholes (tree_type offsets) typed.0 (rows offsets) fit ∙ no_nulls _ (rows offsets) none

  pub decoded-widths : are_block_offsets (natural_bits k.ptype) (map int (wholes_of xs)) ≡ true
  decoded-widths = ap (are_block_offsets (natural_bits k.ptype)) decoded-offsets ∙ own.widths

  pub decoded-blocks : length (wholes_of xs) ≡ block_count k.len + 1
  decoded-blocks = sym (length-map (wholes_of xs) int) ∙ ap length decoded-offsets ∙ own.lengths

  pub decoded-sized : length k.bytes ≡ 128 * offset_at (map int (wholes_of xs)) (block_count k.len)
  decoded-sized = own.sized ∙ sym (ap (λ vs. 128 * offset_at vs (block_count k.len)) decoded-offsets)

  pub blocks_rows : (d : Decoded) → AreRows (ints k.ptype) (map int (zeroed_by (pos 0) k.valid (below (λ i. whole_or_zero (block_or_patch k.bytes (map int (wholes_of xs)) o i)) k.len))) k.valid d → IsDecoded (blocks_of k offsets o) d
  blocks_rows d r =
      integer_rows (blocks_of k offsets o) k.ptype k.nullability (zeroed_by (pos 0) k.valid (below (λ i. whole_or_zero (block_or_patch k.bytes (map int (wholes_of xs)) o i)) k.len)) k.valid d w (type-blocks_of k offsets o)
      (ap (λ vs. zeroed_by (pos 0) k.valid (below (λ i. whole_or_zero (block_or_patch k.bytes vs o i)) k.len)) decoded-offsets ∙ sym (map-blocks_of k offsets o w whole_or_zero)) (sym (validity-blocks_of k offsets o w)) r
