-- What the constructors admit.
use Rattle.std.proofs.Common.{◌≡◌, ◌+◌, ◌∙◌, ℕ, ℤ, pos, Bool, true, List, [], ◌∷◌, length, map, Option, Some, None, refl, arith}
use Rattle.std.specs.Prelude.{nat_le, slice_index_or}
use Rattle.std.proofs.lemmas.Bool.{eq-eqb}
use Rattle.std.proofs.lemmas.List.{length-map}
use Rattle.vx_base.specs.declared.ptype.PType.{PType}
use Rattle.vx_base.specs.declared.dtype.Nullability.{Nullability}
use Rattle.vx_base.specs.declared.dtype.Nullability.TheVariants.{NonNullable}
use Rattle.vx_base.specs.Integers.{natural_bits}
use Rattle.vx_base.specs.Packed.{packed_size}
use Rattle.vx_base.specs.PlainType.{stored_type}
use Rattle.vx_base.specs.PlainType as types
use Rattle.vx_base.specs.PlainValue.{PlainValue, int}
use Rattle.vx_base.specs.Storable.{same_refl}
use Rattle.vx_base.proofs.BytesLemmas.{length-bytes_in}
use Rattle.vx_model.specs.Tree.{Validity, plain_packed}
use Rattle.vx_model.specs.TreeType.{tree_type}
use Rattle.vx_model.specs.Column.{Column, column_of}
use Rattle.vx_model.specs.Refusals.{validity_allowed, validity_length, patches_refusal, bit_packed_refusal, patches_of_type, patches_length}
use Rattle.vx_model.specs.WellFormed.{ascend}
use Rattle.vx_model.proofs.PlainLemmas.{type-plain_of}
use Rattle.vx_schemes.specs.Patches.Compressed.{shared_value, shared_or_plain, constant_or_plain}
use Rattle.vx_schemes.specs.BitPacking.Tree.{packed_bytes, patches_at, patches_of}

length-ints : (xs : List ℤ) → length (map int xs) ≡ length xs
length-ints xs = length-map xs int

pub patches_admitted : (p : PType) (xs : List ℤ) (chosen : List ℕ) → ascend 0 (length xs) (map int (map pos chosen)) ≡ true → patches_refusal (patches_at p xs chosen) ≡ None
patches_admitted p xs chosen h =
    let a = length-ints (map pos chosen) ∙ length-map chosen pos in
    let b = length-ints (map (λ row. slice_index_or xs row (pos 0)) chosen) ∙ length-map chosen (λ row. slice_index_or xs row (pos 0)) in
    let all : 0 + length xs ≡ length xs = omega arith in
    rw (eq-eqb (length (map int (map pos chosen))) (length (map int (map (λ row. slice_index_or xs row (pos 0)) chosen))) (omega arith), all, h) refl

pub type-constant_or_plain : (c : Column) → tree_type (constant_or_plain c) ≡ c.dtype
type-constant_or_plain c = by_value (shared_value c.values)
  where
    by_value : (o : Option PlainValue) → tree_type (shared_or_plain c o) ≡ c.dtype
    by_value None = type-plain_of c.dtype c.values
    by_value (Some v) = refl

patches_typed : (p : PType) (xs : List ℤ) (chosen : List ℕ) → patches_of_type p (patches_of p xs chosen) ≡ true
patches_typed p xs [] = refl
patches_typed p xs (row ∷ chosen) = let c = column_of (patches_at p xs (row ∷ chosen)).values in same_refl stored_type (tree_type (constant_or_plain c)) (types.primitive p NonNullable) (type-constant_or_plain c)

patches_long : (p : PType) (xs : List ℤ) (chosen : List ℕ) → patches_length (length xs) (patches_of p xs chosen) ≡ true
patches_long p xs [] = refl
patches_long p xs (row ∷ chosen) = eq-eqb (length xs) (length xs) refl

-- the bitmap that the rows are packed by, and the validity of the tree: that bitmap, or None where each bit is true
pub packed_admitted_by : (p : PType) (n : Nullability) (xs : List ℤ) (bits : List Bool) (valid : Validity) (width : ℕ) (chosen : List ℕ) → validity_length valid (length xs) ≡ true → validity_allowed valid n ≡ true → nat_le width (natural_bits p) ≡ true
    → bit_packed_refusal (plain_packed p width (packed_bytes p width xs bits) (length xs) valid n) (patches_of p xs chosen) ≡ None
packed_admitted_by p n xs bits valid width chosen same allowed narrow =
    rw (
      patches_typed p xs chosen,
      eq-eqb (length (packed_bytes p width xs bits)) (packed_size width (length xs)) (length-bytes_in (packed_size width (length xs)) _),
      same,
      patches_long p xs chosen,
      narrow,
      allowed,
    ) refl

pub packed_admitted : (p : PType) (n : Nullability) (xs : List ℤ) (valid : List Bool) (width : ℕ) (chosen : List ℕ) → length valid ≡ length xs → validity_allowed (Some valid) n ≡ true → nat_le width (natural_bits p) ≡ true
    → bit_packed_refusal (plain_packed p width (packed_bytes p width xs valid) (length xs) (Some valid) n) (patches_of p xs chosen) ≡ None
packed_admitted p n xs valid width chosen same allowed narrow = packed_admitted_by p n xs valid (Some valid) width chosen (eq-eqb (length valid) (length xs) same) allowed narrow
