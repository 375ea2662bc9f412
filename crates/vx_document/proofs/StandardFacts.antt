-- Worked values, written by hand, so that a wrong rule in the definitions does not check.
use Rattle.std.proofs.Common.{◌≡◌, ◌^◌, ◌-◌, ℕ, List, pos, negsuc, [], ◌∷◌, true, false, Option, Some, None, Float, codes, refl}
use Rattle.hex.proofs.OnLiterals.{hex_on_literals}
use Rattle.rand_core.specs.Pcg32Seed.{pcg32_seed}
use Rattle.rand_core.specs.Steps.{first_words, u32_at, word_bytes}
use Rattle.rand_pcg.specs.Pcg.{pcg32, pcg32_of_seed}
use Rattle.serde_json.specs.Data.{Data, unsigned, negative, float, null, boolean, number, string, array, object, Items, no_items, item, Members, no_members, member}
use Rattle.vx_base.specs.declared.dtype.Nullability.TheVariants.{NonNullable, Nullable}
use Rattle.vx_base.specs.declared.ptype.PType.TheVariants.{U8}
use Rattle.vx_base.specs.declared.timestamp.TimeUnit.TheVariants.{Microseconds, Seconds}
use Rattle.vx_base.specs.PlainType as types
use Rattle.vx_base.specs.PlainValue as values
use Rattle.vx_base.specs.Timestamps.{kind}
use Rattle.vx_rules.specs.declared.options.CompareOperator.TheVariants.{Lte}
use Rattle.vx_document.specs.Arguments.{operator_named}
use Rattle.vx_document.specs.Commands as commands
use Rattle.vx_document.specs.Commands.{PlainCommand, command_of, command_named, query_named, commands_in}
use Rattle.vx_document.specs.RowsOf.{row_of}
use Rattle.vx_document.specs.Types.{type_named, type_read, unit_named, timestamp_of}
use Rattle.vx_document.specs.Words.{words_in}

-- ---- types

-- the text of a type with nulls, and none of days
pub named : (type_named (codes "timestamp us?") ≡ Some (types.timestamp (kind Microseconds None) Nullable)) × (type_named (codes "u8") ≡ Some (types.primitive U8 NonNullable)) × (type_named (codes "timestamp days") ≡ None)
unfolding type_named
named = (refl, refl, refl)

abbrev zoned : Members
zoned = member (codes "timestamp") (string (codes "s")) (member (codes "zone") (string (codes "UTC")) no_members)

-- a zone, and no word on nulls; a zone that is null
pub with_zone : (timestamp_of zoned ≡ Some (types.timestamp (kind Seconds (Some (codes "UTC"))) NonNullable)) × (timestamp_of (member (codes "timestamp") (string (codes "s")) (member (codes "zone") null no_members)) ≡ None)
unfolding timestamp_of unit_named
with_zone = (refl, refl)

-- ---- types with types within

abbrev of_u8 : Members
of_u8 = member (codes "list") (string (codes "u8")) no_members

abbrev flagged : Data → Members
flagged d = member (codes "list") (string (codes "u8")) (member (codes "nullable") d no_members)

-- lists, with and without a flag; a flag that is null, and one that is a number
pub lists : (type_read (object of_u8) ≡ Some (types.list (types.primitive U8 NonNullable) NonNullable)) × (type_read (object (flagged (boolean true))) ≡ Some (types.list (types.primitive U8 NonNullable) Nullable))
    × (type_read (object (flagged null)) ≡ None) × (type_read (object (flagged (number (unsigned 1)))) ≡ None)
unfolding type_named
lists = (refl, refl, refl, refl)

abbrev sized : Data → Members
sized d = member (codes "fixed") (string (codes "bool?")) (member (codes "size") d no_members)

-- a size of 2^32 - 1, and of 2^32; no size
pub sizes : (type_read (object (sized (number (unsigned (2 ^ 32 - 1))))) ≡ Some (types.fixed_size_list (types.boolean Nullable) (2 ^ 32 - 1) NonNullable))
    × (type_read (object (sized (number (unsigned (2 ^ 32))))) ≡ None) × (type_read (object (member (codes "fixed") (string (codes "bool?")) no_members)) ≡ None)
unfolding type_named
sizes = (refl, refl, refl)

abbrev named_a : Data → Data
named_a d = array (item (string (codes "a")) (item d no_items))

abbrev fields : Data
fields = array (item (named_a (string (codes "u8"))) (item (named_a (object of_u8)) no_items))

-- two fields of one name in their order; a key that no struct has; a field that is no pair
pub structs : (type_read (object (member (codes "struct") fields no_members))
    ≡ Some (types.structure (types.more (codes "a") (types.primitive U8 NonNullable) (types.more (codes "a") (types.list (types.primitive U8 NonNullable) NonNullable) types.none)) NonNullable))
    × (type_read (object (member (codes "struct") fields (member (codes "zone") null no_members))) ≡ None)
    × (type_read (object (member (codes "struct") (array (item (array (item (string (codes "a")) no_items)) no_items)) no_members)) ≡ None)
unfolding type_named
structs = (refl, refl, refl)

-- ---- rows

-- null of a nullable type alone
pub nulls : (row_of (types.utf8 Nullable) null ≡ Some values.null) × (row_of (types.utf8 NonNullable) null ≡ None)
unfolding row_of
nulls = (refl, refl)

-- true, and no number
pub truths : (row_of (types.boolean Nullable) (boolean true) ≡ Some (values.truth true)) × (row_of (types.boolean Nullable) (number (unsigned 1)) ≡ None)
unfolding row_of
truths = (refl, refl)

-- the digits 0aFf, and three digits
pub digits : (row_of (types.binary NonNullable) (string (codes "0aFf")) ≡ Some (values.bytes (10 ∷ 255 ∷ []))) × (row_of (types.binary NonNullable) (string (codes "0aF")) ≡ None)
unfolding row_of hex_on_literals
digits = (refl, refl)

-- -1 and 2^63 as timestamps
pub stamps : (row_of (types.timestamp (kind Seconds None) NonNullable) (number (negative (negsuc 0))) ≡ Some (values.int (negsuc 0))) × (row_of (types.timestamp (kind Seconds None) NonNullable) (number (unsigned (2 ^ 63))) ≡ None)
unfolding row_of
stamps = (refl, refl)

abbrev numbers : ℕ → ℕ → Data
numbers m n = array (item (number (unsigned m)) (item (number (unsigned n)) no_items))

-- a list of an integer and null; a list with an integer that its type doesn't hold
pub list_rows : (row_of (types.list (types.primitive U8 Nullable) NonNullable) (array (item (number (unsigned 7)) (item null no_items)))
    ≡ Some (values.items (values.more (values.int (pos 7)) (values.more values.null values.none))))
    × (row_of (types.list (types.primitive U8 Nullable) NonNullable) (numbers 7 256) ≡ None)
unfolding row_of
list_rows = (refl, refl)

-- two values where the size is two, and where it is three
pub fixed_rows : (row_of (types.fixed_size_list (types.primitive U8 NonNullable) 2 NonNullable) (numbers 7 8) ≡ Some (values.items (values.more (values.int (pos 7)) (values.more (values.int (pos 8)) values.none))))
    × (row_of (types.fixed_size_list (types.primitive U8 NonNullable) 3 NonNullable) (numbers 7 8) ≡ None)
unfolding row_of
fixed_rows = (refl, refl)

abbrev one_field : types.PlainFields
one_field = types.more (codes "a") (types.primitive U8 NonNullable) types.none

-- a value for a field, and two; null of structs that may be null
pub struct_rows : (row_of (types.structure one_field Nullable) (array (item (number (unsigned 7)) no_items)) ≡ Some (values.items (values.more (values.int (pos 7)) values.none)))
    × (row_of (types.structure one_field Nullable) (numbers 7 8) ≡ None) × (row_of (types.structure one_field Nullable) null ≡ Some values.null)
unfolding row_of
struct_rows = (refl, refl, refl)

-- ---- words

-- both, and neither
pub one_alone : (words_in (Some null) (Some (number (unsigned 7))) ≡ None) × (words_in None None ≡ None)
one_alone = (refl, refl)

-- the first outputs of the generator of seed 7
pub seeded : first_words pcg32 2 (pcg32_of_seed (pcg32_seed 16 7)) ≡ 2_442_223_337 ∷ 414_063_806 ∷ []
unfolding first_words u32_at pcg32_seed word_bytes
seeded = refl

-- ---- commands

abbrev some : List Data → Items
some [] = no_items
some (d ∷ ds) = item d (some ds)

-- a command of a name with these arguments
abbrev called : List ℕ → List Data → Option PlainCommand
called name arguments = command_of (array (item (string name) (some arguments)))

abbrev whole : ℕ → Data
whole n = number (unsigned n)

-- two numbers; one, three, a negative one; another name
pub slices : (called (codes "slice") (whole 2 ∷ whole 6 ∷ []) ≡ Some (commands.slice 2 6)) × (called (codes "slice") (whole 2 ∷ []) ≡ None)
    × (called (codes "slice") (whole 2 ∷ whole 6 ∷ whole 7 ∷ []) ≡ None) × (called (codes "slice") (number (negative (negsuc 0)) ∷ whole 6 ∷ []) ≡ None)
    × (called (codes "slices") (whole 2 ∷ whole 6 ∷ []) ≡ None)
unfolding command_named query_named
slices = (refl, refl, refl, refl, refl)

-- bits; a number among them
pub bits : (called (codes "filter") (array (some (boolean true ∷ boolean false ∷ [])) ∷ []) ≡ Some (commands.filter (true ∷ false ∷ [])))
    × (called (codes "mask") (array no_items ∷ []) ≡ Some (commands.mask [])) × (called (codes "filter") (array (some (whole 1 ∷ [])) ∷ []) ≡ None)
unfolding command_named
bits = (refl, refl, refl)

-- null is no index, and 0 is one
pub indices : called (codes "take") (array (some (whole 3 ∷ null ∷ whole 0 ∷ [])) ∷ []) ≡ Some (commands.take (Some 3 ∷ None ∷ Some 0 ∷ []))
unfolding command_named
indices = refl

-- a type; null as a fill
pub conversions : (called (codes "cast") (string (codes "u8") ∷ []) ≡ Some (commands.cast (types.primitive U8 NonNullable))) × (called (codes "fill_null") (null ∷ []) ≡ Some (commands.fill_null null))
unfolding command_named type_named
conversions = (refl, refl)

-- an operator before its value; another spelling of it; a float within the value
pub comparisons : (x : Float) → (called (codes "compare") (string (codes "<=") ∷ whole 5 ∷ []) ≡ Some (commands.compare Lte (whole 5)))
    × (called (codes "compare") (string (codes "=<") ∷ whole 5 ∷ []) ≡ None)
    × (called (codes "compare") (string (codes "<=") ∷ array (some (object (member (codes "a") (number (float x)) no_members) ∷ [])) ∷ []) ≡ None)
unfolding command_named query_named operator_named
comparisons x = (refl, refl, refl)

-- the lower bound's strictness stands first; three arguments
pub bounds : (called (codes "between") (whole 1 ∷ null ∷ boolean true ∷ boolean false ∷ []) ≡ Some (commands.between (whole 1) null (record { lower_strict = true; upper_strict = false })))
    × (called (codes "between") (whole 1 ∷ null ∷ boolean true ∷ []) ≡ None)
unfolding command_named query_named
bounds = (refl, refl)

-- not negated without a word; negated; a third argument
pub patterns : (called (codes "like") (string (codes "a%") ∷ []) ≡ Some (commands.like (string (codes "a%")) (record { negated = false })))
    × (called (codes "like") (string (codes "a%") ∷ boolean true ∷ []) ≡ Some (commands.like (string (codes "a%")) (record { negated = true })))
    × (called (codes "like") (string (codes "a%") ∷ boolean true ∷ boolean true ∷ []) ≡ None)
unfolding command_named query_named
patterns = (refl, refl, refl)

-- no argument, and one; a row's index
pub questions : (called (codes "not") [] ≡ Some commands.not) × (called (codes "is_constant") [] ≡ Some commands.is_constant) × (called (codes "min_max") [] ≡ Some commands.min_max)
    × (called (codes "null_count") [] ≡ Some commands.null_count) × (called (codes "sum") [] ≡ Some commands.sum) × (called (codes "rows") [] ≡ Some commands.rows)
    × (called (codes "rows") (whole 0 ∷ []) ≡ None) × (called (codes "row") (whole 7 ∷ []) ≡ Some (commands.row 7))
unfolding command_named query_named
questions = (refl, refl, refl, refl, refl, refl, refl, refl)

-- two in their order; one that is none; no list; absent
pub command_lists : (commands_in (Some (array (some (array (some (string (codes "sum") ∷ [])) ∷ array (some (string (codes "not") ∷ [])) ∷ [])))) ≡ Some (commands.sum ∷ commands.not ∷ []))
    × (commands_in (Some (array (some (array (some (string (codes "sum") ∷ [])) ∷ null ∷ [])))) ≡ None) × (commands_in (Some null) ≡ None) × (commands_in None ≡ Some [])
unfolding command_named query_named
command_lists = (refl, refl, refl, refl)
