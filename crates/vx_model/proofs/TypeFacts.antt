-- Worked columns of truth values, texts, binaries and timestamps, counted by hand, so that a wrong rule in the definitions does not check.
use Rattle.std.specs.Prelude.{◌≡◌, ℕ, true, false, List, [], ◌∷◌, map, Option, Some, None, pos, negsuc, replicate, if◌then◌else◌, refl}
use Rattle.std.specs.Str.{is_utf8, chars}
use Rattle.vx_base.specs.declared.ptype.PType.TheVariants.{U8, I8, I32, I64}
use Rattle.vx_base.specs.declared.dtype.Nullability.TheVariants.{NonNullable, Nullable}
use Rattle.vx_base.specs.declared.error.VortexError.{VortexError}
use Rattle.vx_base.specs.declared.error.VortexError.TheVariants.{MismatchedTypes, LengthMismatch, OutOfBounds}
use Rattle.vx_base.specs.declared.timestamp.TimeUnit.TheVariants.{Microseconds}
use Rattle.vx_base.specs.PlainScalar.{scalar}
use Rattle.vx_base.specs.PlainType.{is_timestamp}
use Rattle.vx_base.specs.PlainType as types
use Rattle.vx_base.specs.PlainValue.{PlainValue, null, truth, int, bytes}
use Rattle.vx_base.specs.Timestamps.{PlainTimestamp, kind}
use Rattle.vx_model.specs.Tree.{Tree, bool, primitive, var_bin_view, var_bin, timestamp, constant, masked, dict}
use Rattle.vx_model.specs.Cascade.{cascade}
use Rattle.vx_model.specs.Column.{Column, column}
use Rattle.vx_model.specs.Extents.{extents}
use Rattle.vx_model.specs.Leaf.{Chooses, no_scheme, leaf}
use Rattle.vx_model.specs.Plain.{plain}
use Rattle.vx_model.specs.Refusals.{var_bin_view_refusal, var_bin_refusal, timestamp_refusal, dict_refusal}
use Rattle.vx_model.specs.Rows.{rows}
use Rattle.vx_model.specs.Size.{size}
use Rattle.vx_model.specs.TreeType.{tree_type}

abbrev made : Column → Tree
made = cascade (leaf no_scheme)

-- ---- truth values

abbrev trues : Column
trues = column (types.boolean NonNullable) (replicate 24 (truth true))

-- 24 times true: a byte and the value, in place of three bytes of bits
pub made-trues : (made trues ≡ constant (scalar (types.boolean NonNullable) (truth true)) 24) × (size (made trues) ≡ 2) × (size (plain trues) ≡ 3)
made-trues = (refl, refl, refl)

-- false beneath the null; a byte of bits and one of validity
pub made-bits :
    (made (column (types.boolean Nullable) (truth true ∷ null ∷ truth false ∷ [])) ≡ bool (true ∷ false ∷ false ∷ []) (Some (true ∷ false ∷ true ∷ [])) Nullable)
    × (size (bool (true ∷ false ∷ false ∷ []) (Some (true ∷ false ∷ true ∷ [])) Nullable) ≡ 2)
    × (rows (bool (true ∷ true ∷ false ∷ []) (Some (true ∷ false ∷ true ∷ [])) Nullable) ≡ truth true ∷ null ∷ truth false ∷ [])
made-bits = (refl, refl, refl)

-- ---- texts and binaries

abbrev letters : ℕ → PlainValue
letters n = bytes (replicate n 97)

-- 12 bytes and a null stand in 16 bytes each; 13 are long
pub size-texts : size (plain (column (types.utf8 Nullable) (letters 12 ∷ letters 13 ∷ null ∷ []))) ≡ 62
size-texts = refl

abbrev twice : Column
twice = column (types.binary NonNullable) (bytes (171 ∷ 5 ∷ []) ∷ bytes (171 ∷ 5 ∷ []) ∷ [])

pub made-twice : (made twice ≡ constant (scalar (types.binary NonNullable) (bytes (171 ∷ 5 ∷ []))) 2) × (size (made twice) ≡ 3) × (size (plain twice) ≡ 32)
made-twice = (refl, refl, refl)

abbrev numbers : List ℕ → Tree
numbers ns = primitive U8 (map pos ns) None NonNullable

-- the bytes 01, 0203, none and ff, from offset to offset
abbrev four_binaries : Tree
four_binaries = var_bin (numbers (0 ∷ 1 ∷ 3 ∷ 3 ∷ 4 ∷ [])) (1 ∷ 2 ∷ 3 ∷ 255 ∷ []) None (types.binary NonNullable)

pub rows-four_binaries :
    (rows four_binaries ≡ bytes (1 ∷ []) ∷ bytes (2 ∷ 3 ∷ []) ∷ bytes [] ∷ bytes (255 ∷ []) ∷ []) × (size four_binaries ≡ 9) × (extents four_binaries ≡ 4 ∷ [])
    × (tree_type four_binaries ≡ types.binary NonNullable)
rows-four_binaries = (refl, refl, refl, refl)

-- bytes beneath a null are no row
pub rows-beneath : rows (var_bin (numbers (0 ∷ 2 ∷ 3 ∷ [])) (9 ∷ 9 ∷ 7 ∷ []) (Some (false ∷ true ∷ [])) (types.binary Nullable)) ≡ null ∷ bytes (7 ∷ []) ∷ []
rows-beneath = refl

abbrev cut : List ℕ → List ℕ → Option VortexError
cut offsets bs = var_bin_refusal (numbers offsets) bs None (types.binary NonNullable)

-- offsets that end late, begin late or before 0, fall, or are none; and validity of another length
pub refused_offsets :
    (cut (0 ∷ 2 ∷ []) (1 ∷ 2 ∷ []) ≡ None) × (cut (0 ∷ 3 ∷ []) (1 ∷ 2 ∷ []) ≡ Some OutOfBounds) × (cut (1 ∷ 2 ∷ []) (1 ∷ 2 ∷ []) ≡ Some OutOfBounds)
    × (var_bin_refusal (primitive I8 (negsuc 0 ∷ pos 2 ∷ []) None NonNullable) (1 ∷ 2 ∷ []) None (types.binary NonNullable) ≡ Some OutOfBounds)
    × (cut (0 ∷ 2 ∷ 1 ∷ 2 ∷ []) (1 ∷ 2 ∷ []) ≡ Some OutOfBounds) × (cut [] [] ≡ Some LengthMismatch)
    × (var_bin_refusal (numbers (0 ∷ [])) [] (Some (false ∷ [])) (types.binary Nullable) ≡ Some LengthMismatch)
refused_offsets = (refl, refl, refl, refl, refl, refl, refl)

-- the byte 255 is no text in a valid row, and may stand beneath a null; an integer type has no bytes
pub refused_texts :
    (var_bin_view_refusal ((255 ∷ []) ∷ []) None (types.utf8 Nullable) ≡ Some MismatchedTypes)
    × (var_bin_view_refusal ((255 ∷ []) ∷ []) (Some (false ∷ [])) (types.utf8 Nullable) ≡ None)
    × (var_bin_view_refusal ((255 ∷ []) ∷ []) None (types.binary Nullable) ≡ None)
    × (var_bin_view_refusal ((255 ∷ []) ∷ []) (Some (false ∷ [])) (types.binary NonNullable) ≡ Some MismatchedTypes)
    × (var_bin_view_refusal [] None (types.primitive U8 NonNullable) ≡ Some MismatchedTypes)
unfolding is_utf8 chars
refused_texts = (refl, refl, refl, refl, refl)

-- codes are integers
pub refused_codes : dict_refusal (var_bin_view [] None (types.utf8 NonNullable)) (numbers []) ≡ Some MismatchedTypes
refused_codes = refl

-- ---- timestamps

abbrev zoned : PlainTimestamp
zoned = kind Microseconds (Some (85 ∷ 84 ∷ 67 ∷ []))

abbrev stamps : List PlainValue → Column
stamps vs = column (types.timestamp zoned Nullable) vs

-- the plain storage under the kind: three times 8 bytes and one of validity
pub made-stamps :
    (made (stamps (int (pos 1) ∷ int (pos 2) ∷ null ∷ [])) ≡ timestamp (primitive I64 (pos 1 ∷ pos 2 ∷ pos 0 ∷ []) (Some (true ∷ true ∷ false ∷ [])) Nullable) zoned)
    × (size (made (stamps (int (pos 1) ∷ int (pos 2) ∷ null ∷ []))) ≡ 25)
made-stamps = (refl, refl)

-- a constant has the timestamps' own type
pub made-equal_stamps :
    (made (stamps (int (pos 7) ∷ int (pos 7) ∷ null ∷ [])) ≡ masked (constant (scalar (types.timestamp zoned Nullable) (int (pos 7))) 3) (true ∷ true ∷ false ∷ []))
    × (size (made (stamps (int (pos 7) ∷ int (pos 7) ∷ null ∷ []))) ≡ 10) × (made (stamps (null ∷ null ∷ [])) ≡ constant (scalar (types.timestamp zoned Nullable) null) 2)
made-equal_stamps = (refl, refl, refl)

pub made-no_stamps : (made (stamps []) ≡ timestamp (primitive I64 [] None Nullable) zoned) × (size (made (stamps [])) ≡ 0)
made-no_stamps = (refl, refl)

-- 5 and 6 in turn, by their codes
abbrev in_turn : Column
in_turn = stamps (int (pos 5) ∷ int (pos 6) ∷ int (pos 5) ∷ int (pos 6) ∷ [])

abbrev by_codes : Tree → Tree
by_codes values = dict (numbers (0 ∷ 1 ∷ 0 ∷ 1 ∷ [])) values

abbrev two_wholes : Tree
two_wholes = primitive I64 (pos 5 ∷ pos 6 ∷ []) None Nullable

-- a choice for timestamps alone, and one for their storage too
abbrev of_stamps : Chooses
of_stamps c site = if is_timestamp c.dtype then Some (by_codes (timestamp two_wholes zoned)) else None

abbrev of_both : Chooses
of_both c site = Some (by_codes (if is_timestamp c.dtype then timestamp two_wholes zoned else two_wholes))

-- 20 bytes for 32: the site's tree stands where the storage stays plain, and not where the storage is as small
pub made-in_turn : (cascade (leaf of_stamps) in_turn ≡ by_codes (timestamp two_wholes zoned)) × (cascade (leaf of_both) in_turn ≡ timestamp (by_codes two_wholes) zoned)
made-in_turn = (refl, refl)

-- storage has 64 signed bits
pub refused_storage : map (λ p. timestamp_refusal (primitive p [] None Nullable)) (I64 ∷ I32 ∷ []) ≡ None ∷ Some MismatchedTypes ∷ []
refused_storage = refl
