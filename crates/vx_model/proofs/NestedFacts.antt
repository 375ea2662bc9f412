-- Worked columns of structs and lists, counted by hand, so that a wrong rule in the definitions does not check.
use Rattle.std.specs.Prelude.{◌≡◌, ℕ, true, false, List, [], ◌∷◌, map, codes, Option, Some, None, pos, refl}
use Rattle.vx_base.specs.declared.ptype.PType.TheVariants.{U8, U64, I32}
use Rattle.vx_base.specs.declared.dtype.Nullability.{Nullability}
use Rattle.vx_base.specs.declared.dtype.Nullability.TheVariants.{NonNullable, Nullable}
use Rattle.vx_base.specs.declared.error.VortexError.{VortexError}
use Rattle.vx_base.specs.declared.error.VortexError.TheVariants.{MismatchedTypes, LengthMismatch, OutOfBounds}
use Rattle.vx_base.specs.PlainScalar.{scalar}
use Rattle.vx_base.specs.PlainType.{PlainType, of_fields}
use Rattle.vx_base.specs.PlainType as types
use Rattle.vx_base.specs.PlainValue.{PlainValue, null, int, bytes, items, of_list}
use Rattle.vx_model.specs.Cascade.{cascade}
use Rattle.vx_model.specs.Column.{Column, column}
use Rattle.vx_model.specs.Extents.{counts, extents}
use Rattle.vx_model.specs.Leaf.{no_scheme, leaf}
use Rattle.vx_model.specs.Plain.{plain}
use Rattle.vx_model.specs.Refusals.{structure_refusal, list_refusal, fixed_size_list_refusal}
use Rattle.vx_model.specs.Rows.{rows}
use Rattle.vx_model.specs.Size.{size}
use Rattle.vx_model.specs.Tree.{Tree, Validity, primitive, var_bin_view, constant, masked, nulls, structure, list, fixed_size_list}
use Rattle.vx_model.specs.Tree as trees
use Rattle.vx_model.specs.TreeType.{tree_type}

abbrev made : Column → Tree
made = cascade (leaf no_scheme)

abbrev whole : ℕ → PlainValue
whole n = int (pos n)

abbrev values : List PlainValue → PlainValue
values vs = items (of_list vs)

abbrev numbers : List ℕ → Tree
numbers ns = primitive U8 (map pos ns) None NonNullable

-- ---- nulls alone

abbrev two_nulls : Column
two_nulls = column types.null_type (null ∷ null ∷ [])

pub made-two_nulls : (plain two_nulls ≡ nulls 2) × (made two_nulls ≡ nulls 2) × (rows (nulls 2) ≡ null ∷ null ∷ []) × (size (nulls 2) ≡ 0) × (extents (nulls 2) ≡ 2 ∷ [])
made-two_nulls = (refl, refl, refl, refl, refl)

-- ---- lists

abbrev four_lists : Column
four_lists = column (types.list (types.primitive I32 Nullable) Nullable) (values (whole 1 ∷ whole 2 ∷ []) ∷ values [] ∷ null ∷ values (whole 3 ∷ []) ∷ [])

abbrev three_wholes : Tree
three_wholes = primitive I32 (pos 1 ∷ pos 2 ∷ pos 3 ∷ []) None Nullable

abbrev third_null : Validity
third_null = Some (true ∷ true ∷ false ∷ true ∷ [])

-- four lists of three elements: the null has none
pub plain-four_lists : plain four_lists ≡ list three_wholes (primitive U64 (pos 0 ∷ pos 2 ∷ pos 2 ∷ pos 2 ∷ pos 3 ∷ []) None NonNullable) third_null Nullable
plain-four_lists = refl

pub own-four_lists : (rows (plain four_lists) ≡ four_lists.values) × (tree_type (plain four_lists) ≡ four_lists.dtype) × (counts four_lists.dtype four_lists.values ≡ 4 ∷ 3 ∷ []) × (extents (plain four_lists) ≡ 4 ∷ 3 ∷ [])
own-four_lists = (refl, refl, refl, refl)

-- three times 4 bytes, five offsets of 8 or of one, and a byte of validity
pub made-four_lists : (made four_lists ≡ list three_wholes (numbers (0 ∷ 2 ∷ 2 ∷ 2 ∷ 3 ∷ [])) third_null Nullable) × (size (plain four_lists) ≡ 53) × (size (made four_lists) ≡ 18)
made-four_lists = (refl, refl, refl)

abbrev no_lists : Column
no_lists = column (types.list (types.primitive I32 Nullable) Nullable) []

-- one offset, with no rows
pub made-no_lists : (plain no_lists ≡ list (primitive I32 [] None Nullable) (primitive U64 (pos 0 ∷ []) None NonNullable) None Nullable) × (size (plain no_lists) ≡ 8) × (size (made no_lists) ≡ 1)
made-no_lists = (refl, refl, refl)

-- what lies beneath a null is not a row, and counts as an extent
abbrev hidden : Tree
hidden = list (numbers (1 ∷ 2 ∷ 9 ∷ 3 ∷ [])) (numbers (0 ∷ 2 ∷ 3 ∷ 4 ∷ [])) (Some (true ∷ false ∷ true ∷ [])) Nullable

pub rows-hidden : (rows hidden ≡ values (whole 1 ∷ whole 2 ∷ []) ∷ null ∷ values (whole 3 ∷ []) ∷ []) × (counts (tree_type hidden) (rows hidden) ≡ 3 ∷ 3 ∷ []) × (extents hidden ≡ 3 ∷ 4 ∷ [])
rows-hidden = (refl, refl, refl)

-- offsets that end late, fall, or are none; and validity of another length, or of a list that isn't nullable
abbrev cut : List ℕ → Option VortexError
cut offsets = list_refusal (numbers (1 ∷ 2 ∷ [])) (numbers offsets) None NonNullable

pub refused_lists :
    (cut (0 ∷ 2 ∷ []) ≡ None) × (cut (0 ∷ 3 ∷ []) ≡ Some OutOfBounds) × (cut (0 ∷ 2 ∷ 1 ∷ 2 ∷ []) ≡ Some OutOfBounds) × (cut [] ≡ Some LengthMismatch)
    × (list_refusal (numbers []) (numbers (0 ∷ [])) (Some (false ∷ [])) Nullable ≡ Some LengthMismatch)
    × (list_refusal (numbers []) (numbers (0 ∷ 0 ∷ [])) (Some (false ∷ [])) NonNullable ≡ Some MismatchedTypes)
    × (list_refusal (numbers []) (primitive U8 (pos 0 ∷ []) None Nullable) None NonNullable ≡ Some MismatchedTypes)
refused_lists = (refl, refl, refl, refl, refl, refl, refl)

-- ---- structs

abbrev pairs : Nullability → PlainType
pairs n = types.structure (of_fields ((codes "a", types.primitive U8 NonNullable) ∷ (codes "b", types.utf8 Nullable) ∷ [])) n

abbrev two_pairs : Column
two_pairs = column (pairs NonNullable) (values (whole 7 ∷ bytes (codes "x") ∷ []) ∷ values (whole 7 ∷ null ∷ []) ∷ [])

abbrev of_pairs : Tree → Tree → ℕ → Validity → Nullability → Tree
of_pairs a b = structure (codes "a" ∷ codes "b" ∷ []) (trees.more a (trees.more b trees.none))

abbrev texts : Tree
texts = var_bin_view (codes "x" ∷ [] ∷ []) (Some (true ∷ false ∷ [])) (types.utf8 Nullable)

pub plain-two_pairs : plain two_pairs ≡ of_pairs (numbers (7 ∷ 7 ∷ [])) texts 2 None NonNullable
plain-two_pairs = refl

pub own-two_pairs :
    (rows (plain two_pairs) ≡ two_pairs.values) × (tree_type (plain two_pairs) ≡ two_pairs.dtype) × (counts two_pairs.dtype two_pairs.values ≡ 2 ∷ 2 ∷ 2 ∷ [])
    × (extents (plain two_pairs) ≡ 2 ∷ 2 ∷ 2 ∷ [])
own-two_pairs = (refl, refl, refl, refl)

-- two bytes, and two texts of 16 with a byte of validity; the one text becomes a constant of two bytes and a mask
pub made-two_pairs :
    (made two_pairs ≡ of_pairs (numbers (7 ∷ 7 ∷ [])) (masked (constant (scalar (types.utf8 Nullable) (bytes (codes "x"))) 2) (true ∷ false ∷ [])) 2 None NonNullable)
    × (size (plain two_pairs) ≡ 35) × (size (made two_pairs) ≡ 5)
made-two_pairs = (refl, refl, refl)

abbrev with_null : Column
with_null = column (pairs Nullable) (values (whole 7 ∷ bytes (codes "x") ∷ []) ∷ null ∷ [])

-- a null's fields: 0, and null where the field is nullable
pub plain-with_null : (plain with_null ≡ of_pairs (numbers (7 ∷ 0 ∷ [])) texts 2 (Some (true ∷ false ∷ [])) Nullable) × (rows (plain with_null) ≡ with_null.values)
plain-with_null = (refl, refl)

-- a struct of no fields has its rows
pub rows-no_fields : (rows (structure [] trees.none 2 None NonNullable) ≡ values [] ∷ values [] ∷ []) × (size (structure [] trees.none 2 None NonNullable) ≡ 0)
rows-no_fields = (refl, refl)

-- a name too many, a field too short, and validity where nulls aren't allowed
pub refused_structs :
    (structure_refusal (codes "a" ∷ []) (trees.more (numbers (7 ∷ [])) trees.none) 1 None NonNullable ≡ None)
    × (structure_refusal (codes "a" ∷ codes "b" ∷ []) (trees.more (numbers (7 ∷ [])) trees.none) 1 None NonNullable ≡ Some LengthMismatch)
    × (structure_refusal (codes "a" ∷ []) (trees.more (numbers (7 ∷ [])) trees.none) 2 None NonNullable ≡ Some LengthMismatch)
    × (structure_refusal [] trees.none 1 (Some (false ∷ [])) NonNullable ≡ Some MismatchedTypes)
refused_structs = (refl, refl, refl, refl)

-- ---- lists of fixed size

abbrev two_of_two : Column
two_of_two = column (types.fixed_size_list (types.primitive U8 NonNullable) 2 Nullable) (values (whole 1 ∷ whole 2 ∷ []) ∷ null ∷ [])

-- a null has two elements too
pub plain-two_of_two : plain two_of_two ≡ fixed_size_list (numbers (1 ∷ 2 ∷ 0 ∷ 0 ∷ [])) 2 2 (Some (true ∷ false ∷ [])) Nullable
plain-two_of_two = refl

pub own-two_of_two :
    (rows (plain two_of_two) ≡ two_of_two.values) × (tree_type (plain two_of_two) ≡ two_of_two.dtype) × (counts two_of_two.dtype two_of_two.values ≡ 2 ∷ 4 ∷ [])
    × (extents (plain two_of_two) ≡ 2 ∷ 4 ∷ []) × (size (plain two_of_two) ≡ 5) × (made two_of_two ≡ plain two_of_two)
own-two_of_two = (refl, refl, refl, refl, refl, refl)

-- lists of no elements have their rows
pub rows-of_none : rows (fixed_size_list (numbers []) 0 2 None NonNullable) ≡ values [] ∷ values [] ∷ []
rows-of_none = refl

-- five elements for three lists of two
pub refused_fixed : map (λ ns. fixed_size_list_refusal (numbers ns) 2 3 None NonNullable) ((1 ∷ 2 ∷ 3 ∷ 4 ∷ 5 ∷ 6 ∷ []) ∷ (1 ∷ 2 ∷ 3 ∷ 4 ∷ 5 ∷ []) ∷ []) ≡ None ∷ Some LengthMismatch ∷ []
refused_fixed = refl

-- ---- one value

-- five times a list of three i32: a byte and the elements, which stand in each row
abbrev five_lists : Tree
five_lists = constant (scalar (types.list (types.primitive I32 NonNullable) NonNullable) (values (whole 1 ∷ whole 2 ∷ whole 3 ∷ []))) 5

pub of-five_lists : (size five_lists ≡ 13) × (extents five_lists ≡ 5 ∷ 15 ∷ []) × (counts (tree_type five_lists) (rows five_lists) ≡ 5 ∷ 15 ∷ [])
of-five_lists = (refl, refl, refl)
