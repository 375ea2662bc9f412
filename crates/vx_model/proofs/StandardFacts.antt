-- Worked values, counted by hand, so that a wrong rule in the definitions does not check.
use Rattle.std.specs.Prelude.{◌≡◌, ℕ, true, false, List, [], ◌∷◌, map, Some, None, pos, negsuc, replicate, refl}
use Rattle.vx_base.specs.declared.ptype.PType.TheVariants.{U8, U16, U32, U64, I8, I16, I32, I64}
use Rattle.vx_base.specs.declared.dtype.Nullability.TheVariants.{NonNullable, Nullable}
use Rattle.vx_base.specs.declared.error.VortexError.TheVariants.{MismatchedTypes, LengthMismatch, OutOfBounds, IndicesNotAscending}
use Rattle.vx_base.specs.Integers.{lies_in, least, greatest}
use Rattle.vx_base.specs.Packed.{packed_row}
use Rattle.vx_base.specs.PlainType as types
use Rattle.vx_base.specs.PlainScalar.{scalar}
use Rattle.vx_base.specs.PlainValue.{PlainValue, null, int}
use Rattle.vx_base.specs.Wrapping.{wrap}
use Rattle.vx_base.specs.ZigZag.{zigzag, unzigzag}
use Rattle.vx_model.specs.Tree.{Tree, Validity, PlainPacked, PlainPatches, patches, packed_of, primitive, constant, masked, bit_packed, frame_of_reference, zig_zag, dict}
use Rattle.vx_model.specs.Column.{Column, column}
use Rattle.vx_model.specs.Rows.{rows}
use Rattle.vx_model.specs.TreeType.{tree_type}
use Rattle.vx_model.specs.Size.{size, bit_bytes}
use Rattle.vx_model.specs.Extents.{extents, extents_fit}
use Rattle.vx_model.specs.Plain.{plain}
use Rattle.vx_model.specs.Refusals.{patches_refusal, bit_packed_refusal, for_refusal, zig_zag_refusal, dict_refusal}
use Rattle.vx_model.specs.Site.{Site, fresh}
use Rattle.vx_model.specs.Leaf.{no_scheme, leaf}
use Rattle.vx_model.specs.Cascade.{cascade}

-- ---- integers

-- -1, 0, 255 and 256
pub lies_in-U8 : map (lies_in U8) (negsuc 0 ∷ pos 0 ∷ pos 255 ∷ pos 256 ∷ []) ≡ false ∷ true ∷ true ∷ false ∷ []
lies_in-U8 = refl

-- -129, -128, 127 and 128
pub lies_in-I8 : map (lies_in I8) (negsuc 128 ∷ negsuc 127 ∷ pos 127 ∷ pos 128 ∷ []) ≡ false ∷ true ∷ true ∷ false ∷ []
lies_in-I8 = refl

-- -1, 0, 2^64 - 1 and 2^64
pub lies_in-U64 : map (lies_in U64) (negsuc 0 ∷ pos 0 ∷ pos 18_446_744_073_709_551_615 ∷ pos 18_446_744_073_709_551_616 ∷ []) ≡ false ∷ true ∷ true ∷ false ∷ []
lies_in-U64 = refl

-- -2^63 - 1, -2^63, 2^63 - 1 and 2^63
pub lies_in-I64 : map (lies_in I64) (negsuc 9_223_372_036_854_775_808 ∷ negsuc 9_223_372_036_854_775_807 ∷ pos 9_223_372_036_854_775_807 ∷ pos 9_223_372_036_854_775_808 ∷ []) ≡ false ∷ true ∷ true ∷ false ∷ []
lies_in-I64 = refl

-- a u16 goes from 0 to 65535, an i8 from -128 to 127
pub ranges : (least U16 ≡ pos 0) × (greatest U16 ≡ pos 65_535) × (least I8 ≡ negsuc 127) × (greatest I8 ≡ pos 127)
ranges = (refl, refl, refl, refl)

-- ---- columns and what becomes of them where there is no scheme

abbrev made : Column → Tree
made = cascade (leaf no_scheme)

abbrev seven : PlainValue
seven = int (pos 7)

abbrev sevens : Column
sevens = column (types.primitive I64 NonNullable) (seven ∷ seven ∷ seven ∷ [])

-- three equal i64: a byte and the value, in place of three values of 8 bytes
pub made-sevens : (made sevens ≡ constant (scalar (types.primitive I64 NonNullable) seven) 3) × (size (made sevens) ≡ 9) × (size (plain sevens) ≡ 24)
made-sevens = (refl, refl, refl)

-- as a sample they stay plain: nothing but a scheme is tried there
abbrev in_a_sample : Site
in_a_sample = record fresh { sampled = true }

pub sampled-sevens : leaf no_scheme sevens in_a_sample ≡ plain sevens
sampled-sevens = refl

abbrev bytes : List PlainValue → Column
bytes vs = column (types.primitive U8 NonNullable) vs

-- one u8 takes a byte plain and two as a constant
pub made-one_byte : (made (bytes (seven ∷ [])) ≡ primitive U8 (pos 7 ∷ []) None NonNullable) × (size (made (bytes (seven ∷ []))) ≡ 1)
made-one_byte = (refl, refl)

-- of two equal sizes the plain tree stands
pub made-two_bytes : (made (bytes (seven ∷ seven ∷ [])) ≡ primitive U8 (pos 7 ∷ pos 7 ∷ []) None NonNullable) × (size (made (bytes (seven ∷ seven ∷ []))) ≡ 2)
made-two_bytes = (refl, refl)

abbrev empty : Column
empty = column (types.primitive I32 NonNullable) []

pub made-empty : (made empty ≡ primitive I32 [] None NonNullable) × (size (made empty) ≡ 0)
made-empty = (refl, refl)

abbrev nulls : Column
nulls = column (types.primitive I32 Nullable) (replicate 5 null)

-- five nulls: one byte, in place of five times 4 and a byte of validity
pub made-nulls : (made nulls ≡ constant (scalar (types.primitive I32 Nullable) null) 5) × (size (made nulls) ≡ 1) × (size (plain nulls) ≡ 21)
made-nulls = (refl, refl, refl)

abbrev nearly_sevens : Column
nearly_sevens = column (types.primitive I64 Nullable) (null ∷ replicate 9 seven)

-- a null, then nine equal i64: a constant of 9 bytes and a mask of 2, in place of ten times 8 and 2
pub made-nearly_sevens :
    (made nearly_sevens ≡ masked (constant (scalar (types.primitive I64 Nullable) seven) 10) (false ∷ replicate 9 true))
    × (size (made nearly_sevens) ≡ 11) × (size (plain nearly_sevens) ≡ 82)
made-nearly_sevens = (refl, refl, refl)

-- a column of two values stays plain, with 0 beneath the null
pub made-mixed : made (column (types.primitive I8 Nullable) (int (negsuc 0) ∷ null ∷ seven ∷ [])) ≡ primitive I8 (negsuc 0 ∷ pos 0 ∷ pos 7 ∷ []) (Some (true ∷ false ∷ true ∷ [])) Nullable
made-mixed = refl

-- ---- trees

-- what lies beneath a null is not a row
pub rows-hidden : rows (primitive I8 (pos 5 ∷ pos 6 ∷ []) (Some (false ∷ true ∷ [])) Nullable) ≡ null ∷ int (pos 6) ∷ []
rows-hidden = refl

-- 0, 1, 8 and 9 bits
pub whole_bytes : map bit_bytes (0 ∷ 1 ∷ 8 ∷ 9 ∷ []) ≡ 0 ∷ 1 ∷ 1 ∷ 2 ∷ []
whole_bytes = refl

-- each row of a constant is one of the column's, and more than 2^31 are too many
pub extents-constant : (map (λ len. extents (constant (scalar (types.primitive I32 Nullable) null) len)) (0 ∷ 5 ∷ []) ≡ (0 ∷ []) ∷ (5 ∷ []) ∷ [])
    × (map (λ len. extents_fit (constant (scalar (types.primitive I32 Nullable) null) len)) (2_147_483_648 ∷ 2_147_483_649 ∷ []) ≡ true ∷ false ∷ [])
extents-constant = (refl, refl)

-- ---- packed integers, patches and references

-- 300, -1 and -257 as u8; 200, -129 and -128 as i8
pub wrapped : (map (wrap U8) (pos 300 ∷ negsuc 0 ∷ negsuc 256 ∷ []) ≡ pos 44 ∷ pos 255 ∷ pos 255 ∷ [])
    × (map (wrap I8) (pos 200 ∷ negsuc 128 ∷ negsuc 127 ∷ []) ≡ negsuc 55 ∷ pos 127 ∷ negsuc 127 ∷ [])
wrapped = (refl, refl)

-- 1, 2, 3 and 0 at two bits each are the byte 57; at three bits 1, 2 and 7 go over into the next byte
pub packed_rows : (map (packed_row (57 ∷ []) 2) (0 ∷ 1 ∷ 2 ∷ 3 ∷ []) ≡ 1 ∷ 2 ∷ 3 ∷ 0 ∷ []) × (map (packed_row (209 ∷ 1 ∷ []) 3) (0 ∷ 1 ∷ 2 ∷ []) ≡ 1 ∷ 2 ∷ 7 ∷ [])
packed_rows = (refl, refl)

-- u8 at no bits
abbrev zeros : ℕ → Validity → PlainPacked
zeros len valid = record { ptype = U8; width = 0; bytes = []; len = len; valid = valid; nullability = Nullable }

abbrev indices_of : List PlainValue → Tree
indices_of vs = plain (column (types.primitive U16 NonNullable) vs)

-- 7 and 9 at rows 1 and 3 of four
abbrev two_patches : PlainPatches
two_patches = patches 4 10 (indices_of (int (pos 11) ∷ int (pos 13) ∷ [])) (primitive U8 (pos 7 ∷ pos 9 ∷ []) None NonNullable)

-- no bit a row, a byte of validity, and two u16 and two u8 of patches
pub rows-zeros : (rows (bit_packed (zeros 3 None)) ≡ replicate 3 (int (pos 0))) × (size (bit_packed (zeros 3 None)) ≡ 0)
    × (rows (packed_of (zeros 4 (Some (true ∷ true ∷ false ∷ true ∷ []))) (Some two_patches)) ≡ int (pos 0) ∷ seven ∷ null ∷ int (pos 9) ∷ [])
    × (size (packed_of (zeros 4 (Some (true ∷ true ∷ false ∷ true ∷ []))) (Some two_patches)) ≡ 7)
rows-zeros = (refl, refl, refl, refl)

-- a block of 1,024 rows for each beginning one, 128 bytes a bit
pub size-packed : map (λ len. size (bit_packed (record { ptype = U32; width = 3; bytes = []; len = len; valid = None; nullability = NonNullable }))) (0 ∷ 1 ∷ 1_024 ∷ 1_025 ∷ []) ≡ 0 ∷ 384 ∷ 384 ∷ 768 ∷ []
size-packed = refl

-- an i32 less 1000, which is nullable as the differences are
abbrev from_thousand : Tree
from_thousand = frame_of_reference (primitive U32 (pos 0 ∷ pos 5 ∷ pos 0 ∷ pos 4_294_967_295 ∷ []) (Some (true ∷ true ∷ false ∷ true ∷ [])) Nullable) (scalar (types.primitive I32 NonNullable) (int (pos 1_000)))

pub rows-from_thousand : (rows from_thousand ≡ int (pos 1_000) ∷ int (pos 1_005) ∷ null ∷ int (pos 999) ∷ []) × (tree_type from_thousand ≡ types.primitive I32 Nullable) × (size from_thousand ≡ 17) × (extents from_thousand ≡ 4 ∷ [])
rows-from_thousand = (refl, refl, refl, refl)

-- indices that fall, or lie before the offset
pub refused_patches :
    (patches_refusal (patches 8 0 (indices_of (int (pos 3) ∷ int (pos 1) ∷ [])) (indices_of (seven ∷ seven ∷ []))) ≡ Some IndicesNotAscending)
    × (patches_refusal (patches 8 2 (indices_of (int (pos 1) ∷ [])) (indices_of (seven ∷ []))) ≡ Some IndicesNotAscending)
    × (patches_refusal (patches 8 0 (indices_of (int (pos 7) ∷ [])) (indices_of (seven ∷ []))) ≡ None)
    × (patches_refusal (patches 8 0 (indices_of (int (pos 8) ∷ [])) (indices_of (seven ∷ []))) ≡ Some IndicesNotAscending)
    × (patches_refusal (patches 8 0 (indices_of (int (pos 1) ∷ [])) (indices_of [])) ≡ Some LengthMismatch)
refused_patches = (refl, refl, refl, refl, refl)

-- patches of four rows for three, and of u16 for u8; eight bits of an i8, which has seven for natural numbers
pub refused_packed :
    (bit_packed_refusal (zeros 3 None) (Some two_patches) ≡ Some LengthMismatch)
    × (bit_packed_refusal (zeros 4 None) (Some (record two_patches { values = indices_of (seven ∷ seven ∷ []) })) ≡ Some MismatchedTypes)
    × (bit_packed_refusal (zeros 4 None) (Some two_patches) ≡ None)
    × (map (λ width. bit_packed_refusal (record { ptype = I8; width = width; bytes = []; len = 0; valid = None; nullability = NonNullable }) None) (7 ∷ 8 ∷ []) ≡ None ∷ Some OutOfBounds ∷ [])
refused_packed = (refl, refl, refl, refl)

-- an i32 wants differences of u32, and a reference that isn't null
pub refused_references :
    (map (λ p. for_refusal (primitive p [] None Nullable) (scalar (types.primitive I32 NonNullable) seven)) (U32 ∷ I32 ∷ U16 ∷ []) ≡ None ∷ Some MismatchedTypes ∷ Some MismatchedTypes ∷ [])
    × (for_refusal (primitive U32 [] None Nullable) (scalar (types.primitive I32 Nullable) null) ≡ Some MismatchedTypes)
refused_references = (refl, refl)

-- ---- zigzag, and values by their codes

-- -3, 5, and -2^63, there and back
pub zigzags : (map zigzag (negsuc 2 ∷ pos 5 ∷ negsuc 9_223_372_036_854_775_807 ∷ []) ≡ 5 ∷ 10 ∷ 18_446_744_073_709_551_615 ∷ [])
    × (map unzigzag (5 ∷ 10 ∷ 18_446_744_073_709_551_615 ∷ []) ≡ negsuc 2 ∷ pos 5 ∷ negsuc 9_223_372_036_854_775_807 ∷ [])
zigzags = (refl, refl)

-- the u8 5, null and 255 as i8
abbrev zigzag_bytes : Tree
zigzag_bytes = zig_zag (primitive U8 (pos 5 ∷ pos 0 ∷ pos 255 ∷ []) (Some (true ∷ false ∷ true ∷ [])) Nullable)

pub rows-zigzag_bytes : (rows zigzag_bytes ≡ int (negsuc 2) ∷ null ∷ int (negsuc 127) ∷ []) × (tree_type zigzag_bytes ≡ types.primitive I8 Nullable) × (size zigzag_bytes ≡ 4) × (extents zigzag_bytes ≡ 3 ∷ [])
rows-zigzag_bytes = (refl, refl, refl, refl)

pub refused_zigzags : map (λ p. zig_zag_refusal (primitive p [] None NonNullable)) (U16 ∷ I16 ∷ []) ≡ None ∷ Some MismatchedTypes ∷ []
refused_zigzags = refl

-- 300 and a null, by codes
abbrev two_values : Tree
two_values = primitive I16 (pos 300 ∷ pos 0 ∷ []) (Some (true ∷ false ∷ [])) Nullable

abbrev codes_of : List PlainValue → Tree
codes_of vs = plain (column (types.primitive I8 Nullable) vs)

abbrev four_codes : Tree
four_codes = dict (codes_of (int (pos 1) ∷ null ∷ int (pos 0) ∷ int (pos 0) ∷ [])) two_values

-- four codes and a byte of validity, and two values and a byte of theirs
pub rows-four_codes : (rows four_codes ≡ null ∷ null ∷ int (pos 300) ∷ int (pos 300) ∷ []) × (tree_type four_codes ≡ types.primitive I16 Nullable) × (size four_codes ≡ 10) × (extents four_codes ≡ 4 ∷ [])
rows-four_codes = (refl, refl, refl, refl)

-- nullable codes are enough
pub type-of_nullable_codes : tree_type (dict (codes_of []) (primitive I16 [] None NonNullable)) ≡ types.primitive I16 Nullable
type-of_nullable_codes = refl

-- 2 and -1 are no places of two values
pub refused_codes : map (λ v. dict_refusal (codes_of (v ∷ [])) two_values) (int (pos 1) ∷ int (pos 2) ∷ int (negsuc 0) ∷ null ∷ []) ≡ None ∷ Some OutOfBounds ∷ Some OutOfBounds ∷ None ∷ []
refused_codes = refl
