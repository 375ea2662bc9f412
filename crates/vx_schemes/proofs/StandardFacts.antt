-- Worked values, counted by hand, so that a wrong rule in the definitions does not check.
use Rattle.std.specs.Prelude.{◌≡◌, true, false, [], ◌∷◌, ◌++◌, replicate, map, slice_index_or, Some, None, pos, negsuc, refl}
use Rattle.vx_base.specs.declared.ptype.PType.TheVariants.{U8, U16, U64, I8, I16, I32}
use Rattle.vx_base.specs.declared.dtype.Nullability.TheVariants.{NonNullable, Nullable}
use Rattle.vx_base.specs.Packed.{bytes_in, wide_rows}
use Rattle.vx_base.specs.PlainScalar.{scalar}
use Rattle.vx_base.specs.PlainType as types
use Rattle.vx_base.specs.PlainValue.{null, int}
use Rattle.vx_blocks.specs.Cost.{cost}
use Rattle.vx_model.specs.Column.{column}
use Rattle.vx_model.specs.Site.{Site}
use Rattle.vx_model.specs.Tree.{patches, chunked, primitive, constant, dict, packed_of, plain_packed}
use Rattle.vx_scheme.specs.Meaning.{kept}
use Rattle.vx_scheme.specs.declared.estimate.CompressionEstimate.TheVariants.{Verdict, Deferred}
use Rattle.vx_scheme.specs.declared.estimate.DeferredEstimate.TheVariants.{Sample}
use Rattle.vx_scheme.specs.declared.estimate.EstimateVerdict.TheVariants.{Skip}
use Rattle.vx_schemes_common.specs.Narrowed.{index_type}
use Rattle.vx_schemes.specs.Patches.Compressed.{shared_value, compressed_patches}
use Rattle.vx_schemes.specs.BitPacking.Tree.{bit_packing_made}
use Rattle.vx_schemes.specs.BitPacking.Meaning.{bit_packing_meaning}
use Rattle.vx_schemes.specs.Dictionary.Tree.{dictionary_of}
use Rattle.vx_schemes.specs.Widths.{first_least, widths_of}
use Rattle.vx_schemes.specs.declared.integer.bit_packing.BitPackingScheme.{BitPackingScheme}

-- of costs 5, 3, 4 and 3 the second is the first least
pub first_least-second : first_least (λ n. slice_index_or (5 ∷ 3 ∷ 4 ∷ 3 ∷ []) n 0) 3 ≡ 1
unfolding first_least
first_least-second = refl

-- rows of 1, 2 and 2 digits: at 2 bits they take a byte, at 1 bit a byte and 2 patches of 5 bytes, at 0 bits 3 patches
pub cost-three : map (cost (0 ∷ 1 ∷ 2 ∷ 0 ∷ []) 1) (0 ∷ 1 ∷ 2 ∷ 3 ∷ []) ≡ 15 ∷ 11 ∷ 1 ∷ 2 ∷ []
cost-three = refl

-- of 1, 7, null and 4 the second and the last are wider than 2 bits
pub wide_rows-two : wide_rows 2 (1 ∷ 7 ∷ 0 ∷ 4 ∷ []) (true ∷ true ∷ false ∷ true ∷ []) ≡ 1 ∷ 3 ∷ []
wide_rows-two = refl

-- 770 is 3 * 256 + 2
pub bytes_in-three : bytes_in 3 770 ≡ 2 ∷ 3 ∷ 0 ∷ []
unfolding bytes_in
bytes_in-three = refl

-- two nines at 1 and 300: one scalar, and indices of two bytes
pub compressed_patches-nines :
    compressed_patches (patches 400 0 (primitive U64 (pos 1 ∷ pos 300 ∷ []) None NonNullable) (primitive U8 (pos 9 ∷ pos 9 ∷ []) None NonNullable))
    ≡ patches 400 0 (primitive U16 (pos 1 ∷ pos 300 ∷ []) None NonNullable) (constant (scalar (types.primitive U8 NonNullable) (int (pos 9))) 2)
compressed_patches-nines = refl

-- offset 500 and 2,500 rows are three chunks; two indices are below 1,024 and three below 2,048, so three offsets of one byte
pub compressed_patches-chunks :
    compressed_patches (chunked 2500 500 (primitive U64 (pos 505 ∷ pos 1023 ∷ pos 2047 ∷ []) None NonNullable) (primitive I16 (pos 9 ∷ pos 8 ∷ pos 9 ∷ []) None NonNullable) (Some (primitive U64 (pos 0 ∷ pos 2 ∷ pos 3 ∷ []) None NonNullable)))
    ≡ chunked 2500 500 (primitive U16 (pos 505 ∷ pos 1023 ∷ pos 2047 ∷ []) None NonNullable) (primitive I16 (pos 9 ∷ pos 8 ∷ pos 9 ∷ []) None NonNullable) (Some (primitive U8 (pos 0 ∷ pos 2 ∷ pos 3 ∷ []) None NonNullable))
compressed_patches-chunks = refl

-- null is equal to null, and to no number
pub shared_value-nulls : (shared_value (null ∷ null ∷ []) ≡ Some null) × (shared_value (null ∷ int (pos 0) ∷ []) ≡ None) × (shared_value [] ≡ None) × (index_type [] ≡ U8)
shared_value-nulls = (refl, refl, refl, refl)

-- -1 keeps a column as it is
pub bit_packing_made-negative : bit_packing_made (column (types.primitive I8 NonNullable) (int (pos 1) ∷ int (negsuc 0) ∷ [])) ≡ None
bit_packing_made-negative = refl

-- twelve zeros and 7: at no bits one patch of 5 bytes, at 3 bits 39 bits of 5 bytes, so the lesser width, with the patch
pub bit_packing_made-tie :
    bit_packing_made (column (types.primitive U8 NonNullable) (replicate 12 (int (pos 0)) ++ int (pos 7) ∷ []))
    ≡ Some (packed_of (plain_packed U8 0 [] 13 None NonNullable) (Some (patches 13 0 (primitive U8 (pos 12 ∷ []) None NonNullable) (constant (scalar (types.primitive U8 NonNullable) (int (pos 7))) 1))))
unfolding first_least widths_of bytes_in lib.Count.count_leading_zeros
bit_packing_made-tie = refl

-- nulls stay, and take no bits
pub bit_packing_made-nulls : bit_packing_made (column (types.primitive I16 Nullable) (null ∷ int (pos 0) ∷ [])) ≡ Some (packed_of (plain_packed I16 0 [] 2 (Some (false ∷ true ∷ [])) Nullable) None)
unfolding first_least widths_of bytes_in lib.Count.count_leading_zeros
bit_packing_made-nulls = refl

-- where all bits of the type cost least, the column is kept
pub bit_packing_made-full : bit_packing_made (column (types.primitive U8 NonNullable) (int (pos 255) ∷ int (pos 255) ∷ [])) ≡ None
unfolding first_least widths_of bytes_in lib.Count.count_leading_zeros
bit_packing_made-full = refl

-- 5 and -3 are skipped and kept; 5 and 3 are tried
pub bit_packing-signs : (s : BitPackingScheme) (site : Site)
    → ((bit_packing_meaning s).estimate (column (types.primitive I32 NonNullable) (int (pos 5) ∷ int (negsuc 2) ∷ [])) site ≡ Verdict Skip)
    × ((bit_packing_meaning s).splits (column (types.primitive I32 NonNullable) (int (pos 5) ∷ int (negsuc 2) ∷ [])) site ≡ kept)
    × ((bit_packing_meaning s).estimate (column (types.primitive I32 Nullable) (int (pos 5) ∷ null ∷ int (pos 3) ∷ [])) site ≡ Deferred Sample)
bit_packing-signs s site = (refl, refl, refl)

-- 100, 200, 100, null, 100: the values are 100 and 200, of the column's type, and the codes bytes, null where the row is
pub dictionary_of-hundreds :
    dictionary_of (column (types.primitive I32 Nullable) (int (pos 100) ∷ int (pos 200) ∷ int (pos 100) ∷ null ∷ int (pos 100) ∷ []))
    ≡ dict (primitive U8 (pos 0 ∷ pos 1 ∷ pos 0 ∷ pos 0 ∷ pos 0 ∷ []) (Some (true ∷ true ∷ true ∷ false ∷ true ∷ [])) Nullable) (primitive I32 (pos 100 ∷ pos 200 ∷ []) None Nullable)
dictionary_of-hundreds = refl
