-- Worked types, values and texts, counted by hand, so that a wrong rule in the definitions does not check.
use Rattle.std.proofs.Common.{ap}
use Rattle.std.specs.Prelude.{◌≡◌, ◌∷◌, [], ◌++◌, ◌&&◌, ℕ, List, map, true, false, Some, None, pos, negsuc, codes, refl}
use Rattle.std.specs.Fmt.{digits}
use Rattle.std.specs.Hash as fed
use Rattle.std.specs.Str.{is_utf8, chars}
use Rattle.hex.proofs.OnLiterals.{hex_on_literals}
use Rattle.json.proofs.OnLiterals.{json_on_literals}
use Rattle.vx_base.specs.declared.ptype.PType.TheVariants.{U8, I32, I64}
use Rattle.vx_base.specs.declared.dtype.Nullability.TheVariants.{NonNullable, Nullable}
use Rattle.vx_base.specs.declared.error.VortexError.TheVariants.{MismatchedTypes, CastRefused}
use Rattle.vx_base.specs.declared.timestamp.TimeUnit.TheVariants.{Nanoseconds, Microseconds, Milliseconds, Seconds, Days}
use Rattle.vx_base.specs.Casts.{cast_refusal}
use Rattle.vx_base.specs.Defaults.{null_or_default}
use Rattle.vx_base.specs.Digits as binary
use Rattle.vx_base.specs.PlainScalar.{fits}
use Rattle.vx_base.specs.PlainType.{PlainType, null_type, boolean, primitive, utf8, binary, timestamp, structure, list, fixed_size_list, of_fields, is_leaf, is_flat, same_base}
use Rattle.vx_base.specs.PlainValue.{PlainValue, null, truth, int, bytes, items, of_list, is_short, has_short}
use Rattle.vx_base.specs.Timestamps.{PlainTimestamp, kind, divides}
use Rattle.vx_base.specs.TypeText.{type_text, value_text}
use Rattle.vx_base.specs.Writes.{value_writes}

abbrev plain_seconds : PlainTimestamp
plain_seconds = kind Seconds None

abbrev zoned : PlainTimestamp
zoned = kind Microseconds (Some (codes "UTC"))

-- a struct of two fields, a list, and a list of three items
abbrev pair : PlainType
pair = structure (of_fields ((codes "a", primitive U8 NonNullable) ∷ (codes "b", utf8 Nullable) ∷ [])) NonNullable

abbrev numbers : PlainType
numbers = list (primitive I32 Nullable) Nullable

abbrev three : PlainType
three = fixed_size_list (primitive U8 NonNullable) 3 NonNullable

-- ---- types

pub texts_of_nested_types : map type_text (null_type ∷ pair ∷ numbers ∷ three ∷ []) ≡ codes "null" ∷ codes "{a:u8,b:text?}" ∷ codes "[i32?]?" ∷ codes "[u8;3]" ∷ []
unfolding digits
texts_of_nested_types = refl

pub texts_of_types :
    map type_text
    (boolean NonNullable ∷ primitive U8 Nullable ∷ utf8 Nullable ∷ binary NonNullable ∷ timestamp plain_seconds NonNullable ∷ timestamp zoned Nullable ∷ [])
    ≡ codes "bool" ∷ codes "u8?" ∷ codes "text?" ∷ codes "binary" ∷ codes "timestamp s" ∷ codes "timestamp us<UTC>?" ∷ []
texts_of_types = refl

pub units : map divides (Nanoseconds ∷ Microseconds ∷ Milliseconds ∷ Seconds ∷ Days ∷ []) ≡ true ∷ true ∷ true ∷ true ∷ false ∷ []
units = refl

-- timestamps are flat, and no leaf type
pub leaves : (is_leaf (binary Nullable) ≡ true) × (is_leaf (timestamp zoned Nullable) ≡ false) × (is_flat (timestamp zoned Nullable) ≡ true)
leaves = (refl, refl, refl)

-- the base has the zone, and not the outermost nullability
pub bases : (same_base (timestamp zoned Nullable) (timestamp zoned NonNullable) ≡ true) × (same_base (timestamp zoned Nullable) (timestamp (kind Microseconds None) Nullable) ≡ false) × (same_base (utf8 Nullable) (binary Nullable) ≡ false)
bases = (refl, refl, refl)

-- the base has names, sizes and the nullability of types within, and not the outermost nullability
pub nested_bases :
    (same_base pair (structure (of_fields ((codes "a", primitive U8 NonNullable) ∷ (codes "b", utf8 Nullable) ∷ [])) Nullable) ≡ true)
    × (same_base pair (structure (of_fields ((codes "a", primitive U8 NonNullable) ∷ (codes "c", utf8 Nullable) ∷ [])) NonNullable) ≡ false)
    × (same_base pair (structure (of_fields ((codes "b", utf8 Nullable) ∷ (codes "a", primitive U8 NonNullable) ∷ [])) NonNullable) ≡ false)
    × (same_base three (fixed_size_list (primitive U8 NonNullable) 4 NonNullable) ≡ false) × (same_base numbers (list (primitive I32 NonNullable) Nullable) ≡ false)
    × (same_base three (list (primitive U8 NonNullable) NonNullable) ≡ false)
nested_bases = (refl, refl, refl, refl, refl, refl)

pub nested_leaves : map is_flat (null_type ∷ pair ∷ numbers ∷ three ∷ []) ≡ false ∷ false ∷ false ∷ false ∷ []
nested_leaves = refl

-- ---- values

-- a number is no bool; timestamps are exactly the numbers of 64 signed bits
pub fits-numbers :
    (fits (boolean NonNullable) (int (pos 1)) ≡ false) × (fits (timestamp zoned NonNullable) (int (negsuc 9_223_372_036_854_775_807)) ≡ true)
    × (fits (timestamp zoned NonNullable) (int (pos 9_223_372_036_854_775_808)) ≡ false) × (fits (utf8 NonNullable) (int (pos 7)) ≡ false)
fits-numbers = (refl, refl, refl, refl)

pub fits-null : (fits (binary Nullable) null ≡ true) × (fits (binary NonNullable) null ≡ false)
fits-null = (refl, refl)

-- any bytes are a binary value
pub fits-bytes : (fits (binary NonNullable) (bytes (255 ∷ [])) ≡ true) × (fits (boolean NonNullable) (bytes []) ≡ false)
fits-bytes = (refl, refl)

-- "a" and the two bytes of an accented e are texts; the byte 255 is none, nor is the first byte of two alone
pub fits-texts :
    map (fits (utf8 NonNullable)) (bytes [] ∷ bytes (97 ∷ []) ∷ bytes (195 ∷ 169 ∷ []) ∷ bytes (255 ∷ []) ∷ bytes (195 ∷ []) ∷ [])
    ≡ true ∷ true ∷ true ∷ false ∷ false ∷ []
unfolding is_utf8 chars lib.Utf8.encode
fits-texts = refl

-- a struct has one value per field, a list of three three items, and each is of its type
pub fits-nested :
    map (fits pair) (items (of_list (int (pos 7) ∷ null ∷ [])) ∷ items (of_list (int (pos 7) ∷ [])) ∷ items (of_list (int (pos 7) ∷ null ∷ null ∷ [])) ∷ items (of_list (null ∷ null ∷ [])) ∷ null ∷ [])
    ≡ true ∷ false ∷ false ∷ false ∷ false ∷ []
fits-nested = refl

pub fits-lists :
    (map (fits three) (items (of_list (int (pos 1) ∷ int (pos 2) ∷ int (pos 3) ∷ [])) ∷ items (of_list (int (pos 1) ∷ int (pos 2) ∷ [])) ∷ items (of_list (int (pos 1) ∷ int (pos 2) ∷ int (pos 300) ∷ [])) ∷ []) ≡ true ∷ false ∷ false ∷ [])
    × (map (fits numbers) (null ∷ items (of_list []) ∷ items (of_list (int (pos 1) ∷ null ∷ [])) ∷ items (of_list (truth true ∷ [])) ∷ int (pos 1) ∷ []) ≡ true ∷ true ∷ true ∷ false ∷ false ∷ [])
    × (map (fits null_type) (null ∷ int (pos 0) ∷ items (of_list []) ∷ []) ≡ true ∷ false ∷ false ∷ [])
fits-lists = (refl, refl, refl)

-- a text of 2^32 bytes two lists deep is found
pub short_within : (bs : List ℕ) → is_short bs ≡ false → has_short (items (of_list (null ∷ items (of_list (bytes bs ∷ [])) ∷ []))) ≡ false
short_within bs e = ap (λ b. (b && true) && true) e

pub short_lists : has_short (items (of_list (null ∷ items (of_list (bytes (1 ∷ []) ∷ [])) ∷ []))) ≡ true
short_lists = refl

-- a text in quotes, with a quote, a line feed and the byte 1 escaped; bytes as their digits
pub texts_of_values :
    (value_text (utf8 Nullable) (bytes (codes "a")) ≡ 34 ∷ 97 ∷ 34 ∷ [])
    × (value_text (utf8 Nullable) (bytes (34 ∷ 10 ∷ 1 ∷ [])) ≡ 34 ∷ 92 ∷ 34 ∷ 92 ∷ 110 ∷ 92 ∷ (codes "u0001" ++ 34 ∷ []))
    × (value_text (binary Nullable) (bytes (171 ∷ 5 ∷ [])) ≡ 34 ∷ (codes "ab05" ++ 34 ∷ []))
    × (value_text (boolean Nullable) (truth true) ≡ codes "true")
unfolding hex_on_literals json_on_literals
texts_of_values = (refl, refl, refl, refl)

pub texts_of_nested_values :
    (value_text numbers (items (of_list (int (pos 1) ∷ null ∷ []))) ≡ codes "[1,null]")
    × (value_text pair (items (of_list (int (pos 7) ∷ bytes (codes "x") ∷ []))) ≡ codes "[7," ++ 34 ∷ 120 ∷ 34 ∷ codes "]")
    × (value_text (list three NonNullable) (items (of_list (items (of_list (int (pos 1) ∷ int (pos 2) ∷ int (pos 3) ∷ [])) ∷ []))) ≡ codes "[[1,2,3]]") × (value_text numbers (items (of_list [])) ≡ codes "[]")
unfolding digits hex_on_literals json_on_literals
texts_of_nested_values = (refl, refl, refl, refl)

pub nested_defaults :
    map null_or_default (null_type ∷ pair ∷ three ∷ numbers ∷ list (utf8 NonNullable) NonNullable ∷ [])
    ≡ null ∷ items (of_list (int (pos 0) ∷ null ∷ [])) ∷ items (of_list (int (pos 0) ∷ int (pos 0) ∷ int (pos 0) ∷ [])) ∷ null ∷ items (of_list []) ∷ []
nested_defaults = refl

pub defaults :
    map null_or_default (boolean NonNullable ∷ primitive I32 Nullable ∷ primitive I32 NonNullable ∷ utf8 NonNullable ∷ timestamp zoned NonNullable ∷ [])
    ≡ truth false ∷ null ∷ int (pos 0) ∷ bytes [] ∷ int (pos 0) ∷ []
defaults = refl

-- ---- binary digits

-- 0 has none, and 2^k is the least number of k + 1
pub binary_digits : map binary.digits (0 ∷ 1 ∷ 2 ∷ 3 ∷ 4 ∷ 255 ∷ 256 ∷ 18_446_744_073_709_551_615 ∷ 18_446_744_073_709_551_616 ∷ []) ≡ 0 ∷ 1 ∷ 2 ∷ 2 ∷ 3 ∷ 8 ∷ 9 ∷ 64 ∷ 65 ∷ []
binary_digits = refl

-- ---- hashes

-- [[], null] and [[null]] hold the same kinds in the same order, and differ in the numbers of values
abbrev empty_then_null : PlainValue
empty_then_null = items (of_list (items (of_list []) ∷ null ∷ []))

abbrev null_within : PlainValue
null_within = items (of_list (items (of_list (null ∷ [])) ∷ []))

pub nested_hashes :
    (value_writes empty_then_null ≡ fed.u8 4 ++ fed.u64 2 ++ fed.u8 4 ++ fed.u64 0 ++ fed.u8 0) × (value_writes null_within ≡ fed.u8 4 ++ fed.u64 1 ++ fed.u8 4 ++ fed.u64 1 ++ fed.u8 0)
nested_hashes = (refl, refl)

-- ---- casts

-- 300 is no u8, null no value of a non-nullable type; an integer becomes no text, nor a timestamp
pub casts :
    (cast_refusal (primitive I32 NonNullable) (primitive U8 NonNullable) (int (pos 300)) ≡ Some CastRefused)
    × (cast_refusal (primitive I32 NonNullable) (primitive U8 NonNullable) (int (pos 200)) ≡ None)
    × (cast_refusal (boolean Nullable) (boolean NonNullable) null ≡ Some CastRefused)
    × (cast_refusal (primitive U8 NonNullable) (utf8 NonNullable) (int (pos 7)) ≡ Some MismatchedTypes)
    × (cast_refusal (primitive I64 NonNullable) (timestamp zoned NonNullable) (int (pos 7)) ≡ Some MismatchedTypes)
casts = (refl, refl, refl, refl, refl)
