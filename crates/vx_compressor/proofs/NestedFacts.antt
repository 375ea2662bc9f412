-- Worked columns of structs and lists, so that a wrong rule in the definitions does not check.
use Rattle.std.specs.Prelude.{◌≡◌, ℕ, true, false, List, [], ◌∷◌, map, codes, Some, None, pos, refl}
use Rattle.vx_base.specs.declared.ptype.PType.TheVariants.{U8, I32, I64}
use Rattle.vx_base.specs.declared.dtype.Nullability.TheVariants.{NonNullable, Nullable}
use Rattle.vx_base.specs.declared.timestamp.TimeUnit.TheVariants.{Seconds}
use Rattle.vx_base.specs.PlainScalar.{scalar}
use Rattle.vx_base.specs.PlainType.{of_fields}
use Rattle.vx_base.specs.PlainType as types
use Rattle.vx_base.specs.PlainValue.{PlainValue, null, int, bytes, items, of_list}
use Rattle.vx_base.specs.Timestamps.{kind}
use Rattle.vx_model.specs.Cascade.{cascade, beginnings, offsets_site}
use Rattle.vx_model.specs.Column.{Column, column}
use Rattle.vx_model.specs.Site.{fresh}
use Rattle.vx_model.specs.Tree.{Tree, Validity, primitive, var_bin_view, constant, masked, nulls, structure, list, fixed_size_list}
use Rattle.vx_model.specs.Tree as trees
use Rattle.vx_scheme.specs.Meaning.{finished}
use Rattle.vx_scheme.specs.declared.estimate.CompressionEstimate.TheVariants.{Verdict}
use Rattle.vx_scheme.specs.declared.estimate.EstimateVerdict.TheVariants.{Skip, AlwaysUse}
use Rattle.vx_compressor.specs.Cascade.{leaf_tree}

abbrev whole : ℕ → PlainValue
whole n = int (pos n)

abbrev values : List PlainValue → PlainValue
values vs = items (of_list vs)

abbrev numbers : List ℕ → Tree
numbers ns = primitive U8 (map pos ns) None NonNullable

-- ---- without schemes

abbrev by_none : Column → Tree
by_none = cascade (leaf_tree (record { schemes = []; words = 0 ∷ [] }))

pub nulls-stay : by_none (column types.null_type (null ∷ null ∷ [])) ≡ nulls 2
nulls-stay = refl

-- four lists of three elements: the null has none
abbrev four_lists : Column
four_lists = column (types.list (types.primitive I32 Nullable) Nullable) (values (whole 1 ∷ whole 2 ∷ []) ∷ values [] ∷ null ∷ values (whole 3 ∷ []) ∷ [])

abbrev third_null : Validity
third_null = Some (true ∷ true ∷ false ∷ true ∷ [])

pub made-four_lists : by_none four_lists ≡ list (primitive I32 (pos 1 ∷ pos 2 ∷ pos 3 ∷ []) None Nullable) (numbers (0 ∷ 2 ∷ 2 ∷ 2 ∷ 3 ∷ [])) third_null Nullable
made-four_lists = refl

-- one offset, which is a column of one value: a constant takes two bytes, the plain one
pub made-no_lists : by_none (column (types.list (types.primitive I32 Nullable) Nullable) []) ≡ list (primitive I32 [] None Nullable) (numbers (0 ∷ [])) None Nullable
made-no_lists = refl

-- the offsets of empty lists are one value, so they become a constant where they are many
pub made-empty_lists :
    by_none (column (types.list (types.primitive I32 Nullable) NonNullable) (values [] ∷ values [] ∷ []))
    ≡ list (primitive I32 [] None Nullable) (constant (scalar (types.primitive U8 NonNullable) (whole 0)) 3) None NonNullable
made-empty_lists = refl

-- each field is a column of its own: four bytes stay, three equal texts become a constant
pub made-struct :
    by_none (column (types.structure (of_fields ((codes "a", types.primitive I32 NonNullable) ∷ (codes "b", types.utf8 NonNullable) ∷ [])) Nullable) (values (whole 7 ∷ bytes [] ∷ []) ∷ null ∷ values (whole 8 ∷ bytes [] ∷ []) ∷ []))
    ≡ structure (codes "a" ∷ codes "b" ∷ []) (trees.more (primitive I32 (pos 7 ∷ pos 0 ∷ pos 8 ∷ []) None NonNullable) (trees.more (constant (scalar (types.utf8 NonNullable) (bytes [])) 3) trees.none)) 3 (Some (true ∷ false ∷ true ∷ [])) Nullable
made-struct = refl

-- the elements of a null are its type's defaults
pub made-fixed :
    by_none (column (types.fixed_size_list (types.primitive U8 NonNullable) 2 Nullable) (values (whole 1 ∷ whole 2 ∷ []) ∷ null ∷ []))
    ≡ fixed_size_list (numbers (1 ∷ 2 ∷ 0 ∷ 0 ∷ [])) 2 2 (Some (true ∷ false ∷ [])) Nullable
made-fixed = refl

-- ---- with a scheme that takes every column

abbrev small : Tree
small = constant (scalar (types.primitive U8 NonNullable) (whole 0)) 1

abbrev always : List ℕ → Column → Tree
always name =
    cascade (leaf_tree (record {
      schemes = record {
        name = name;
        takes = λ t. true;
        children = 0;
        options = record { count_distinct_values = false };
        produces = λ id. true;
        descendants = [];
        ancestors = [];
        estimate = λ c site. Verdict AlwaysUse;
        resolve = λ c site. Skip;
        splits = λ c site. finished small;
        joined = λ c site made. small;
      } ∷ [];
      words = 0 ∷ [];
    }))

-- elements and offsets are both judged, but for a dictionary, which no offsets have; the root of lists isn't
pub judged_lists :
    (always (codes "some.scheme") four_lists ≡ list small small third_null Nullable) × (always (codes "vortex.int.dict") four_lists ≡ list small (numbers (0 ∷ 2 ∷ 2 ∷ 2 ∷ 3 ∷ [])) third_null Nullable)
judged_lists = (refl, refl)

-- ---- where columns begin

pub begin-four_lists :
    beginnings four_lists.dtype four_lists.values
    ≡ (column (types.primitive U8 NonNullable) (whole 0 ∷ whole 2 ∷ whole 2 ∷ whole 2 ∷ whole 3 ∷ []), offsets_site) ∷ (column (types.primitive I32 Nullable) (whole 1 ∷ whole 2 ∷ whole 3 ∷ []), fresh) ∷ []
begin-four_lists = refl

pub offsets_stand : offsets_site ≡ record { budget = 3; sampled = false; history = (codes "vortex.compressor.root", 1) ∷ [] }
offsets_stand = refl

-- timestamps and their whole numbers, each in a field of its own; nulls alone are judged nowhere
pub begin-fields :
    beginnings (types.structure (of_fields ((codes "t", types.timestamp (kind Seconds None) NonNullable) ∷ (codes "n", types.null_type) ∷ (codes "b", types.boolean Nullable) ∷ [])) NonNullable) (values (whole 5 ∷ null ∷ null ∷ []) ∷ [])
    ≡ (column (types.timestamp (kind Seconds None) NonNullable) (whole 5 ∷ []), fresh) ∷ (column (types.primitive I64 NonNullable) (whole 5 ∷ []), fresh) ∷ (column (types.boolean Nullable) (null ∷ []), fresh) ∷ []
begin-fields = refl
