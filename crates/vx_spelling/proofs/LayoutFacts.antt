-- Worked layouts, one for each node and kind of type, so that a consistent change of spelling and reading doesn't check. The bytes
-- are those of a model that was written apart from these definitions.
use Rattle.std.proofs.Common.{◌≡◌, ℤ, pos, negsuc, true, false, List, [], ◌∷◌, Some, None, refl}
use Rattle.vx_base.specs.declared.dtype.Nullability.TheVariants.{NonNullable, Nullable}
use Rattle.vx_base.specs.declared.ptype.PType.TheVariants.{U8, U16, I8, I16, I64}
use Rattle.vx_base.specs.declared.timestamp.TimeUnit.TheVariants.{Nanoseconds, Milliseconds}
use Rattle.vx_base.specs.PlainScalar.{scalar}
use Rattle.vx_base.specs.PlainType as types
use Rattle.vx_base.specs.PlainValue.{null, truth, int, bytes, items, of_list}
use Rattle.vx_base.specs.Timestamps.{kind}
use Rattle.vx_model.specs.Tree.{Tree, plain_packed, plain_blocks, bool, primitive, var_bin_view, var_bin, timestamp, constant, masked, bit_packed, bit_packed_with, frame_of_reference, zig_zag, dict, nulls, structure, list, fixed_size_list, none, more, sparse, run_end, rle, sequence, delta, datetime_parts, bit_packed_v2, bit_packed_v2_with, frame_of_reference_v2, sparse_chunked}
use Rattle.vx_spelling.specs.TreeSpelling.{tree_text}

abbrev u8s : List ℤ → Tree
u8s xs = primitive U8 xs None NonNullable

-- three nulls
pub text-null : tree_text (nulls 3) ≡ 0x00 ∷ 0x03 ∷ []
text-null = refl

-- true, null and true: the bits and then the validity, the first row lowest
pub text-bool : tree_text (bool (true ∷ false ∷ true ∷ []) (Some (true ∷ false ∷ true ∷ [])) Nullable) ≡ 0x01 ∷ 0x01 ∷ 0x03 ∷ 0x05 ∷ 0x01 ∷ 0x05 ∷ []
text-bool = refl

-- -2 and null
pub text-primitive : tree_text (primitive I16 (negsuc 1 ∷ pos 0 ∷ []) (Some (true ∷ false ∷ [])) Nullable) ≡ 0x02 ∷ 0x05 ∷ 0x01 ∷ 0x02 ∷ 0xfe ∷ 0xff ∷ 0x00 ∷ 0x00 ∷ 0x01 ∷ 0x01 ∷ []
text-primitive = refl

-- the texts ab and a; type 3 is texts
pub text-view : tree_text (var_bin_view ((0x61 ∷ 0x62 ∷ []) ∷ (0x61 ∷ []) ∷ []) None (types.utf8 NonNullable)) ≡ 0x03 ∷ 0x03 ∷ 0x00 ∷ 0x02 ∷ 0x02 ∷ 0x61 ∷ 0x62 ∷ 0x01 ∷ 0x61 ∷ 0x00 ∷ []
text-view = refl

-- fields a and b
pub text-struct : tree_text (structure ((0x61 ∷ []) ∷ (0x62 ∷ []) ∷ []) (more (u8s (pos 5 ∷ pos 6 ∷ [])) (more (u8s (pos 7 ∷ pos 8 ∷ [])) none)) 2 None NonNullable) ≡ 0x04 ∷ 0x00 ∷ 0x02 ∷ 0x02 ∷ 0x01 ∷ 0x61 ∷ 0x02 ∷ 0x00 ∷ 0x00 ∷ 0x02 ∷ 0x05 ∷ 0x06 ∷ 0x00 ∷ 0x01 ∷ 0x62 ∷ 0x02 ∷ 0x00 ∷ 0x00 ∷ 0x02 ∷ 0x07 ∷ 0x08 ∷ 0x00 ∷ 0x00 ∷ []
text-struct = refl

-- elements, then offsets; the validity has a bit per list
pub text-list : tree_text (list (u8s (pos 1 ∷ pos 2 ∷ pos 3 ∷ [])) (u8s (pos 0 ∷ pos 1 ∷ pos 3 ∷ [])) (Some (true ∷ false ∷ [])) Nullable) ≡ 0x05 ∷ 0x01 ∷ 0x02 ∷ 0x00 ∷ 0x00 ∷ 0x03 ∷ 0x01 ∷ 0x02 ∷ 0x03 ∷ 0x00 ∷ 0x02 ∷ 0x00 ∷ 0x00 ∷ 0x03 ∷ 0x00 ∷ 0x01 ∷ 0x03 ∷ 0x00 ∷ 0x01 ∷ 0x01 ∷ []
text-list = refl

-- two lists of size 3: the size, then the row count
pub text-fixed : tree_text (fixed_size_list (u8s (pos 1 ∷ pos 2 ∷ pos 3 ∷ pos 4 ∷ pos 5 ∷ pos 6 ∷ [])) 3 2 None NonNullable) ≡ 0x06 ∷ 0x00 ∷ 0x03 ∷ 0x02 ∷ 0x02 ∷ 0x00 ∷ 0x00 ∷ 0x06 ∷ 0x01 ∷ 0x02 ∷ 0x03 ∷ 0x04 ∷ 0x05 ∷ 0x06 ∷ 0x00 ∷ 0x00 ∷ []
text-fixed = refl

-- milliseconds in the zone Z
pub text-timestamp : tree_text (timestamp (primitive I64 (pos 1 ∷ []) None NonNullable) (kind Milliseconds (Some (0x5a ∷ [])))) ≡ 0x07 ∷ 0x02 ∷ 0x01 ∷ 0x01 ∷ 0x5a ∷ 0x02 ∷ 0x07 ∷ 0x00 ∷ 0x01 ∷ 0x01 ∷ 0x00 ∷ 0x00 ∷ 0x00 ∷ 0x00 ∷ 0x00 ∷ 0x00 ∷ 0x00 ∷ 0x00 ∷ []
text-timestamp = refl

-- three rows of 7
pub text-constant : tree_text (constant (scalar (types.primitive I64 NonNullable) (int (pos 7))) 3) ≡ 0x08 ∷ 0x03 ∷ 0x02 ∷ 0x00 ∷ 0x07 ∷ 0x01 ∷ 0x07 ∷ 0x00 ∷ 0x00 ∷ 0x00 ∷ 0x00 ∷ 0x00 ∷ 0x00 ∷ 0x00 ∷ []
text-constant = refl

-- a null over the second row
pub text-masked : tree_text (masked (primitive U8 (pos 1 ∷ pos 2 ∷ []) None Nullable) (true ∷ false ∷ [])) ≡ 0x09 ∷ 0x02 ∷ 0x00 ∷ 0x01 ∷ 0x02 ∷ 0x01 ∷ 0x02 ∷ 0x00 ∷ 0x01 ∷ []
text-masked = refl

-- codes, then values
pub text-dict : tree_text (dict (u8s (pos 0 ∷ pos 1 ∷ [])) (u8s (pos 5 ∷ pos 6 ∷ []))) ≡ 0x0a ∷ 0x02 ∷ 0x00 ∷ 0x00 ∷ 0x02 ∷ 0x00 ∷ 0x01 ∷ 0x00 ∷ 0x02 ∷ 0x00 ∷ 0x00 ∷ 0x02 ∷ 0x05 ∷ 0x06 ∷ 0x00 ∷ []
text-dict = refl

-- offsets, then all bytes; type 4 is binaries
pub text-var-bin : tree_text (var_bin (u8s (pos 0 ∷ pos 1 ∷ pos 3 ∷ [])) (0x61 ∷ 0x62 ∷ 0x63 ∷ []) None (types.binary NonNullable)) ≡ 0x0b ∷ 0x04 ∷ 0x00 ∷ 0x02 ∷ 0x00 ∷ 0x00 ∷ 0x03 ∷ 0x00 ∷ 0x01 ∷ 0x03 ∷ 0x00 ∷ 0x03 ∷ 0x61 ∷ 0x62 ∷ 0x63 ∷ 0x00 ∷ []
text-var-bin = refl

-- 9 in the second of three rows of 7, with offset 0
pub text-sparse : tree_text (sparse 3 0 (u8s (pos 1 ∷ [])) (u8s (pos 9 ∷ [])) (scalar (types.primitive U8 NonNullable) (int (pos 7)))) ≡ 0x0c ∷ 0x03 ∷ 0x00 ∷ 0x02 ∷ 0x00 ∷ 0x00 ∷ 0x01 ∷ 0x01 ∷ 0x00 ∷ 0x02 ∷ 0x00 ∷ 0x00 ∷ 0x01 ∷ 0x09 ∷ 0x00 ∷ 0x00 ∷ 0x02 ∷ 0x00 ∷ 0x00 ∷ 0x01 ∷ 0x07 ∷ []
text-sparse = refl

-- 9 in the first row, by offset 1 and with chunk offsets
pub text-sparse-chunked : tree_text (sparse_chunked 3 1 (u8s (pos 1 ∷ [])) (u8s (pos 9 ∷ [])) (u8s (pos 0 ∷ [])) (scalar (types.primitive U8 NonNullable) (int (pos 7)))) ≡ 0x0c ∷ 0x03 ∷ 0x01 ∷ 0x02 ∷ 0x00 ∷ 0x00 ∷ 0x01 ∷ 0x01 ∷ 0x00 ∷ 0x02 ∷ 0x00 ∷ 0x00 ∷ 0x01 ∷ 0x09 ∷ 0x00 ∷ 0x01 ∷ 0x02 ∷ 0x00 ∷ 0x00 ∷ 0x01 ∷ 0x00 ∷ 0x00 ∷ 0x02 ∷ 0x00 ∷ 0x00 ∷ 0x01 ∷ 0x07 ∷ []
text-sparse-chunked = refl

-- days, seconds and subseconds, in milliseconds without a zone
pub text-datetime : tree_text (datetime_parts (kind Milliseconds None) NonNullable (u8s (pos 1 ∷ [])) (u8s (pos 2 ∷ [])) (u8s (pos 3 ∷ []))) ≡ 0x0d ∷ 0x02 ∷ 0x00 ∷ 0x00 ∷ 0x02 ∷ 0x00 ∷ 0x00 ∷ 0x01 ∷ 0x01 ∷ 0x00 ∷ 0x02 ∷ 0x00 ∷ 0x00 ∷ 0x01 ∷ 0x02 ∷ 0x00 ∷ 0x02 ∷ 0x00 ∷ 0x00 ∷ 0x01 ∷ 0x03 ∷ 0x00 ∷ []
text-datetime = refl

-- ends, then values
pub text-run-end : tree_text (run_end (u8s (pos 2 ∷ pos 3 ∷ [])) (u8s (pos 5 ∷ pos 6 ∷ []))) ≡ 0x0e ∷ 0x02 ∷ 0x00 ∷ 0x00 ∷ 0x02 ∷ 0x02 ∷ 0x03 ∷ 0x00 ∷ 0x02 ∷ 0x00 ∷ 0x00 ∷ 0x02 ∷ 0x05 ∷ 0x06 ∷ 0x00 ∷ []
text-run-end = refl

-- two rows of 0 in no bits
pub text-packed : tree_text (bit_packed (plain_packed U16 0 [] 2 None NonNullable)) ≡ 0x0f ∷ 0x01 ∷ 0x00 ∷ 0x00 ∷ 0x02 ∷ 0x00 ∷ 0x00 ∷ []
text-packed = refl

-- the same, with 9 in the second row, and a byte 0 for no chunk offsets
pub text-packed-with : tree_text (bit_packed_with (plain_packed U16 0 [] 2 None NonNullable) 2 0 (u8s (pos 1 ∷ [])) (primitive U16 (pos 9 ∷ []) None NonNullable)) ≡ 0x0f ∷ 0x01 ∷ 0x00 ∷ 0x00 ∷ 0x02 ∷ 0x00 ∷ 0x01 ∷ 0x02 ∷ 0x00 ∷ 0x02 ∷ 0x00 ∷ 0x00 ∷ 0x01 ∷ 0x01 ∷ 0x00 ∷ 0x02 ∷ 0x01 ∷ 0x00 ∷ 0x01 ∷ 0x09 ∷ 0x00 ∷ 0x00 ∷ 0x00 ∷ []
text-packed-with = refl

-- block offsets, then bytes behind their length
pub text-blocks : tree_text (bit_packed_v2 (plain_blocks U16 [] 2 None NonNullable) (u8s (pos 0 ∷ pos 0 ∷ []))) ≡ 0x10 ∷ 0x01 ∷ 0x00 ∷ 0x02 ∷ 0x02 ∷ 0x00 ∷ 0x00 ∷ 0x02 ∷ 0x00 ∷ 0x00 ∷ 0x00 ∷ 0x00 ∷ 0x00 ∷ 0x00 ∷ []
text-blocks = refl

-- the same, with 9 in the second row
pub text-blocks-with : tree_text (bit_packed_v2_with (plain_blocks U16 [] 2 None NonNullable) (u8s (pos 0 ∷ pos 0 ∷ [])) 2 0 (u8s (pos 1 ∷ [])) (primitive U16 (pos 9 ∷ []) None NonNullable)) ≡ 0x10 ∷ 0x01 ∷ 0x00 ∷ 0x02 ∷ 0x02 ∷ 0x00 ∷ 0x00 ∷ 0x02 ∷ 0x00 ∷ 0x00 ∷ 0x00 ∷ 0x00 ∷ 0x00 ∷ 0x01 ∷ 0x02 ∷ 0x00 ∷ 0x02 ∷ 0x00 ∷ 0x00 ∷ 0x01 ∷ 0x01 ∷ 0x00 ∷ 0x02 ∷ 0x01 ∷ 0x00 ∷ 0x01 ∷ 0x09 ∷ 0x00 ∷ 0x00 ∷ 0x00 ∷ []
text-blocks-with = refl

-- the differences 1 and 2 from -1
pub text-for : tree_text (frame_of_reference (u8s (pos 1 ∷ pos 2 ∷ [])) (scalar (types.primitive I8 NonNullable) (int (negsuc 0)))) ≡ 0x11 ∷ 0x02 ∷ 0x00 ∷ 0x00 ∷ 0x02 ∷ 0x01 ∷ 0x02 ∷ 0x00 ∷ 0x02 ∷ 0x00 ∷ 0x04 ∷ 0x01 ∷ 0xff ∷ []
text-for = refl

-- the same, with a reference per block
pub text-frames : tree_text (frame_of_reference_v2 (u8s (pos 1 ∷ pos 2 ∷ [])) (primitive I8 (negsuc 0 ∷ []) None NonNullable)) ≡ 0x12 ∷ 0x02 ∷ 0x00 ∷ 0x00 ∷ 0x02 ∷ 0x01 ∷ 0x02 ∷ 0x00 ∷ 0x02 ∷ 0x04 ∷ 0x00 ∷ 0x01 ∷ 0xff ∷ 0x00 ∷ []
text-frames = refl

-- two rows of 5: the base of a block, then a difference for each of 1,024 rows
pub text-delta : tree_text (delta (u8s (pos 5 ∷ [])) (constant (scalar (types.primitive U8 NonNullable) (int (pos 0))) 1024) 2 None NonNullable) ≡ 0x13 ∷ 0x00 ∷ 0x02 ∷ 0x02 ∷ 0x00 ∷ 0x00 ∷ 0x01 ∷ 0x05 ∷ 0x00 ∷ 0x08 ∷ 0x80 ∷ 0x08 ∷ 0x02 ∷ 0x00 ∷ 0x00 ∷ 0x01 ∷ 0x00 ∷ 0x00 ∷ []
text-delta = refl

-- two rows of 5: values, indices, offsets
pub text-rle : tree_text (rle (u8s (pos 5 ∷ [])) (constant (scalar (types.primitive U8 NonNullable) (int (pos 0))) 1024) (u8s (pos 0 ∷ [])) 2) ≡ 0x14 ∷ 0x02 ∷ 0x02 ∷ 0x00 ∷ 0x00 ∷ 0x01 ∷ 0x05 ∷ 0x00 ∷ 0x08 ∷ 0x80 ∷ 0x08 ∷ 0x02 ∷ 0x00 ∷ 0x00 ∷ 0x01 ∷ 0x00 ∷ 0x02 ∷ 0x00 ∷ 0x00 ∷ 0x01 ∷ 0x00 ∷ 0x00 ∷ []
text-rle = refl

-- -2 as 3
pub text-zig-zag : tree_text (zig_zag (u8s (pos 3 ∷ []))) ≡ 0x15 ∷ 0x02 ∷ 0x00 ∷ 0x00 ∷ 0x01 ∷ 0x03 ∷ 0x00 ∷ []
text-zig-zag = refl

-- -1, 1 and 3: the first row and the step in 16 bytes each
pub text-sequence : tree_text (sequence I16 NonNullable (negsuc 0) (pos 2) 3) ≡ 0x16 ∷ 0x05 ∷ 0x00 ∷ 0xff ∷ 0xff ∷ 0xff ∷ 0xff ∷ 0xff ∷ 0xff ∷ 0xff ∷ 0xff ∷ 0xff ∷ 0xff ∷ 0xff ∷ 0xff ∷ 0xff ∷ 0xff ∷ 0xff ∷ 0xff ∷ 0x02 ∷ 0x00 ∷ 0x00 ∷ 0x00 ∷ 0x00 ∷ 0x00 ∷ 0x00 ∷ 0x00 ∷ 0x00 ∷ 0x00 ∷ 0x00 ∷ 0x00 ∷ 0x00 ∷ 0x00 ∷ 0x00 ∷ 0x00 ∷ 0x03 ∷ []
text-sequence = refl

-- the type null has no byte for its nullability
pub text-scalar-null : tree_text (constant (scalar types.null_type null) 1) ≡ 0x08 ∷ 0x01 ∷ 0x00 ∷ 0x00 ∷ []
text-scalar-null = refl

-- true
pub text-scalar-bool : tree_text (constant (scalar (types.boolean Nullable) (truth true)) 1) ≡ 0x08 ∷ 0x01 ∷ 0x01 ∷ 0x01 ∷ 0x01 ∷ 0x01 ∷ []
text-scalar-bool = refl

-- a struct of a text a and a list b of binaries, with the value x and a list of a null
pub text-scalar-struct : tree_text (constant (scalar (types.structure (types.more (0x61 ∷ []) (types.utf8 NonNullable) (types.more (0x62 ∷ []) (types.list (types.binary Nullable) NonNullable) types.none)) NonNullable) (items (of_list (bytes (0x78 ∷ []) ∷ items (of_list (null ∷ [])) ∷ [])))) 1) ≡ 0x08 ∷ 0x01 ∷ 0x06 ∷ 0x00 ∷ 0x02 ∷ 0x01 ∷ 0x61 ∷ 0x03 ∷ 0x00 ∷ 0x01 ∷ 0x62 ∷ 0x07 ∷ 0x00 ∷ 0x04 ∷ 0x01 ∷ 0x01 ∷ 0x01 ∷ 0x01 ∷ 0x78 ∷ 0x01 ∷ 0x01 ∷ 0x00 ∷ []
text-scalar-struct = refl

-- two timestamps in nanoseconds, of which the second is null
pub text-scalar-fixed : tree_text (constant (scalar (types.fixed_size_list (types.timestamp (kind Nanoseconds None) Nullable) 2 NonNullable) (items (of_list (int (negsuc 0) ∷ null ∷ [])))) 1) ≡ 0x08 ∷ 0x01 ∷ 0x08 ∷ 0x00 ∷ 0x02 ∷ 0x05 ∷ 0x01 ∷ 0x00 ∷ 0x00 ∷ 0x01 ∷ 0x01 ∷ 0xff ∷ 0xff ∷ 0xff ∷ 0xff ∷ 0xff ∷ 0xff ∷ 0xff ∷ 0xff ∷ 0x00 ∷ []
text-scalar-fixed = refl
