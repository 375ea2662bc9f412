-- What packed differences and packed zigzags are decoded to, of whose words no list is made.
use Rattle.std.proofs.Common.{◌≡◌, ◌∙◌, ℤ, pos, List, [], ◌∷◌, map, ap, refl, sym, Bool, true, false, Some, None}
use Rattle.std.specs.Prelude.{nat_le}
use Rattle.std.proofs.lemmas.Simd.{map-map}
use Rattle.vx_base.specs.Integers.{natural_bits, signed_of, unsigned_of}
use Rattle.vx_base.specs.Packed.{packed_row}
use Rattle.vx_base.specs.PlainScalar.{PlainScalar}
use Rattle.vx_base.specs.PlainType.{integer_of}
use Rattle.vx_base.specs.PlainValue.{int, whole_or_zero}
use Rattle.vx_model.specs.Decoded.{zeroed, zeroed_by}
use Rattle.vx_model.specs.Rows.{rows, below, summed, unzigzagged_whole}
use Rattle.vx_model.specs.Tree.{PlainPacked, Validity, frame_of_reference, packed_of, zig_zag}
use Rattle.vx_model.specs.WellFormed.{WellFormed}
use Rattle.vx_model.proofs.PackedDecodeLemmas.{wholes-frame_of_reference, validity-frame_of_reference}
use Rattle.vx_model.proofs.PackedOfLemmas.{map-packed_of, packed-packed_of, validity-packed_of}
use Rattle.vx_model.proofs.ZigZagLemmas.{wholes-zig_zag, validity-zig_zag}
use Rattle.vx_values.specs.declared.decoded.Decoded.{Decoded}
use Rattle.vx_values.specs.ValuesOf.{ints, AreRows}
use Rattle.vx_array.specs.IsDecoded.{IsDecoded}
use Rattle.vx_array.proofs.Decodings.{integer_rows}

-- a second default beneath the same nulls hides the first
zeroed-twice : {A : Type 0} (a b : A) (bits : List Bool) (xs : List A) → zeroed a bits (zeroed b bits xs) ≡ zeroed a bits xs
zeroed-twice a b [] xs = refl
zeroed-twice a b (bit ∷ bits) [] = refl
zeroed-twice a b (true ∷ bits) (x ∷ xs) = ap (λ ys. x ∷ ys) (zeroed-twice a b bits xs)
zeroed-twice a b (false ∷ bits) (x ∷ xs) = ap (λ ys. a ∷ ys) (zeroed-twice a b bits xs)

zeroed_by-twice : {A : Type 0} (a b : A) (valid : Validity) (xs : List A) → zeroed_by a valid (zeroed_by b valid xs) ≡ zeroed_by a valid xs
zeroed_by-twice a b None xs = refl
zeroed_by-twice a b (Some bits) xs = zeroed-twice a b bits xs

module _ (k : PlainPacked) (w : WellFormed (packed_of k None)) where
  -- a function on the words, at each row
  mapped : (f : ℤ → ℤ) → map f (map whole_or_zero (rows (packed_of k None))) ≡ zeroed_by (f (pos 0)) k.valid (below (λ i. f (pos (packed_row k.bytes k.width i))) k.len)
  mapped f = map-map f whole_or_zero (rows (packed_of k None)) ∙ map-packed_of (λ v. f (whole_or_zero v)) k None w

-- the words are of the unsigned type of the reference's width
pub narrow_words : (k : PlainPacked) (reference : PlainScalar) → WellFormed (frame_of_reference (packed_of k None) reference) → nat_le k.width (natural_bits (unsigned_of (integer_of reference.dtype))) ≡ true
narrow_words k reference w = ap (λ t. nat_le k.width (natural_bits (integer_of t))) (sym w.1.encoded_type) ∙ (packed-packed_of k None w.0).narrow

pub moved_words_rows : (k : PlainPacked) (reference : PlainScalar) (d : Decoded) → WellFormed (frame_of_reference (packed_of k None) reference)
    → AreRows (ints (integer_of reference.dtype)) (map int (zeroed_by (pos 0) k.valid (below (λ i. summed reference (pos (packed_row k.bytes k.width i))) k.len))) k.valid d
    → IsDecoded (frame_of_reference (packed_of k None) reference) d
moved_words_rows k reference d w =
    let t = packed_of k None in
    let bits = validity-packed_of k None w.0 in
    let read : zeroed_by (pos 0) k.valid (below (λ i. summed reference (pos (packed_row k.bytes k.width i))) k.len) ≡ map whole_or_zero (rows (frame_of_reference t reference)) =
    sym (wholes-frame_of_reference t reference ∙ (λ i. zeroed_by (pos 0) (bits i) (mapped k w.0 (summed reference) i)) ∙ zeroed_by-twice (pos 0) (summed reference (pos 0)) k.valid _)
    in
    integer_rows (frame_of_reference t reference) (integer_of reference.dtype) k.nullability _ k.valid d w refl read (sym (validity-frame_of_reference t reference ∙ bits))

pub zigzag_words_rows : (k : PlainPacked) (d : Decoded) → WellFormed (zig_zag (packed_of k None))
    → AreRows (ints (signed_of k.ptype)) (map int (zeroed_by (pos 0) k.valid (below (λ i. unzigzagged_whole (pos (packed_row k.bytes k.width i))) k.len))) k.valid d → IsDecoded (zig_zag (packed_of k None)) d
zigzag_words_rows k d w =
    let t = packed_of k None in
    integer_rows (zig_zag t) (signed_of k.ptype) k.nullability _ k.valid d w refl (sym (wholes-zig_zag t ∙ mapped k w.0 unzigzagged_whole)) (sym (validity-zig_zag t ∙ validity-packed_of k None w.0))
