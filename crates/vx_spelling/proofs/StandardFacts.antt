-- Worked files, so that a wrong rule in specs doesn't check.
use Rattle.std.proofs.Common.{◌≡◌, ℕ, pos, List, [], ◌∷◌, ◌++◌, Some, None, refl}
use Rattle.std.specs.Prelude.{map}
use Rattle.std.specs.Str.{is_utf8, chars}
use Rattle.vx_base.specs.declared.array_id.ArrayId.TheVariants as ids
use Rattle.vx_base.specs.declared.dtype.Nullability.TheVariants.{NonNullable, Nullable}
use Rattle.vx_base.specs.declared.ptype.PType.TheVariants.{U8, U16, U32, U64, I8, I16, I32, I64}
use Rattle.vx_base.specs.declared.timestamp.TimeUnit.TheVariants.{Nanoseconds, Microseconds, Milliseconds, Seconds}
use Rattle.vx_base.specs.IdNumber.{id_number}
use Rattle.vx_base.specs.PlainScalar.{scalar}
use Rattle.vx_base.specs.PlainType.{ptype_number}
use Rattle.vx_base.specs.PlainType as types
use Rattle.vx_base.specs.PlainValue.{null, int, items, of_list}
use Rattle.vx_base.specs.Timestamps.{kind, unit_number}
use Rattle.vx_model.specs.Tree.{Tree, constant, dict, primitive, structure, more, none}
use Rattle.vx_spelling.specs.Fields.{row_count}
use Rattle.vx_spelling.specs.FileSpelling.{file_text, file_at}
use Rattle.vx_spelling.specs.TreeSpelling.{tree_at}
use Rattle.vx_spelling.specs.TypeSpelling.{type_text}
use Rattle.vx_spelling.specs.ValueSpelling.{value_text}

-- VXTREES1
abbrev mark_bytes : List ℕ
mark_bytes = 0x56 ∷ 0x58 ∷ 0x54 ∷ 0x52 ∷ 0x45 ∷ 0x45 ∷ 0x53 ∷ 0x31 ∷ []

-- three rows of 7 as i64, of which the file is the mark, a tree, and its 14 bytes
abbrev sevens : Tree
sevens = constant (scalar (types.primitive I64 NonNullable) (int (pos 7))) 3

abbrev sevens_bytes : List ℕ
sevens_bytes = 0x08 ∷ 0x03 ∷ 0x02 ∷ 0x00 ∷ 0x07 ∷ 0x01 ∷ 0x07 ∷ 0 ∷ 0 ∷ 0 ∷ 0 ∷ 0 ∷ 0 ∷ 0 ∷ []

pub file-sevens : file_text (sevens ∷ []) ≡ mark_bytes ++ (0x01 ∷ 0x0e ∷ sevens_bytes)
file-sevens = refl

pub file-empty : file_text [] ≡ mark_bytes ++ (0 ∷ [])
file-empty = refl

-- the same file with its length in two bytes, with a byte behind it, and without its last byte
pub read-sevens :
    (file_at (mark_bytes ++ (0x01 ∷ 0x0e ∷ sevens_bytes)) ≡ Some (sevens ∷ []))
    × (file_at (mark_bytes ++ (0x01 ∷ 0x8e ∷ 0x00 ∷ sevens_bytes)) ≡ None)
    × (file_at (mark_bytes ++ (0x01 ∷ 0x0e ∷ (sevens_bytes ++ (0 ∷ [])))) ≡ None)
    × (file_at (mark_bytes ++ (0x01 ∷ 0x0e ∷ 0x08 ∷ 0x03 ∷ 0x02 ∷ 0x00 ∷ 0x07 ∷ 0x01 ∷ 0x07 ∷ 0 ∷ 0 ∷ 0 ∷ 0 ∷ 0 ∷ 0 ∷ [])) ≡ None)
read-sevens = (refl, refl, refl, refl)

-- codes 0 and 1 over two values are read, codes 0 and 2 aren't
pub read-codes :
    (file_at (mark_bytes ++ (0x01 ∷ 0x0f ∷ 0x0a ∷ 0x02 ∷ 0x00 ∷ 0x00 ∷ 0x02 ∷ 0x00 ∷ 0x01 ∷ 0x00 ∷ 0x02 ∷ 0x00 ∷ 0x00 ∷ 0x02 ∷ 0x05 ∷ 0x06 ∷ 0x00 ∷ []))
    ≡ Some (dict (primitive U8 (pos 0 ∷ pos 1 ∷ []) None NonNullable) (primitive U8 (pos 5 ∷ pos 6 ∷ []) None NonNullable) ∷ []))
    × (file_at (mark_bytes ++ (0x01 ∷ 0x0f ∷ 0x0a ∷ 0x02 ∷ 0x00 ∷ 0x00 ∷ 0x02 ∷ 0x00 ∷ 0x02 ∷ 0x00 ∷ 0x02 ∷ 0x00 ∷ 0x00 ∷ 0x02 ∷ 0x05 ∷ 0x06 ∷ 0x00 ∷ [])) ≡ None)
read-codes = (refl, refl)

-- lists of timestamps in milliseconds of the zone Z; a value of it, with a timestamp and a null
pub text-stamps :
    (type_text (types.list (types.timestamp (kind Milliseconds (Some (0x5a ∷ []))) Nullable) NonNullable) ≡ 0x07 ∷ 0x00 ∷ 0x05 ∷ 0x01 ∷ 0x02 ∷ 0x01 ∷ 0x01 ∷ 0x5a ∷ [])
    × (value_text (items (of_list (int (pos 1) ∷ null ∷ []))) (types.list (types.timestamp (kind Milliseconds (Some (0x5a ∷ []))) Nullable) NonNullable)
    ≡ 0x01 ∷ 0x02 ∷ 0x01 ∷ 0x01 ∷ 0 ∷ 0 ∷ 0 ∷ 0 ∷ 0 ∷ 0 ∷ 0 ∷ 0x00 ∷ [])
text-stamps = (refl, refl)

-- a struct of one field with the name a is read; with a name that isn't UTF-8 it is not
pub read-names :
    (tree_at 64 (0x04 ∷ 0x00 ∷ 0x01 ∷ 0x01 ∷ 0x01 ∷ 0x61 ∷ 0x02 ∷ 0x00 ∷ 0x00 ∷ 0x01 ∷ 0x05 ∷ 0x00 ∷ 0x00 ∷ [])
    ≡ Some (structure ((0x61 ∷ []) ∷ []) (more (primitive U8 (pos 5 ∷ []) None NonNullable) none) 1 None NonNullable, []))
    × (tree_at 64 (0x04 ∷ 0x00 ∷ 0x01 ∷ 0x01 ∷ 0x01 ∷ 0xff ∷ 0x02 ∷ 0x00 ∷ 0x00 ∷ 0x01 ∷ 0x05 ∷ 0x00 ∷ 0x00 ∷ []) ≡ None)
unfolding is_utf8 chars lib.Utf8.encode
read-names = (refl, refl)

-- 2,147,488,769 rows are the most that a node can name
pub most-rows :
    (row_count.parse (0x81 ∷ 0xa8 ∷ 0x80 ∷ 0x80 ∷ 0x08 ∷ []) ≡ Some (2_147_488_769, []))
    × (row_count.parse (0x82 ∷ 0xa8 ∷ 0x80 ∷ 0x80 ∷ 0x08 ∷ []) ≡ None)
most-rows = (refl, refl)

-- The numbers of encodings, integer types and units stand in files, so they stay as they are.
pub ids-numbered :
    map id_number
    (ids.Null ∷ ids.Bool ∷ ids.Primitive ∷ ids.VarBinView ∷ ids.Struct ∷ ids.List ∷ ids.FixedSizeList ∷ ids.Timestamp ∷ ids.Constant ∷ ids.Masked ∷ ids.Dict ∷ ids.VarBin ∷ ids.Sparse
    ∷ ids.DateTimeParts ∷ ids.RunEnd ∷ ids.BitPacked ∷ ids.BitPackedV2 ∷ ids.FoR ∷ ids.FoRV2 ∷ ids.Delta ∷ ids.Rle ∷ ids.ZigZag ∷ ids.Sequence ∷ [])
    ≡ 0 ∷ 1 ∷ 2 ∷ 3 ∷ 4 ∷ 5 ∷ 6 ∷ 7 ∷ 8 ∷ 9 ∷ 10 ∷ 11 ∷ 12 ∷ 13 ∷ 14 ∷ 15 ∷ 16 ∷ 17 ∷ 18 ∷ 19 ∷ 20 ∷ 21 ∷ 22 ∷ []
ids-numbered = refl

pub ptypes-numbered : map ptype_number (U8 ∷ U16 ∷ U32 ∷ U64 ∷ I8 ∷ I16 ∷ I32 ∷ I64 ∷ []) ≡ 0 ∷ 1 ∷ 2 ∷ 3 ∷ 4 ∷ 5 ∷ 6 ∷ 7 ∷ []
ptypes-numbered = refl

pub units-numbered : map unit_number (Nanoseconds ∷ Microseconds ∷ Milliseconds ∷ Seconds ∷ []) ≡ 0 ∷ 1 ∷ 2 ∷ 3 ∷ []
units-numbered = refl
