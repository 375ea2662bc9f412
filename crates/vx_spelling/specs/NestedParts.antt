-- The layout of nested columns, timestamps, texts by offsets, masks, codes and runs behind their ids, given the format of their
-- children: the fields in order, which of them the constructor accepts, and the node of them.
use Rattle.std.specs.Prelude.{ℕ, ◌-◌, Bool, List, length, map, is_none}
use Rattle.vx_base.specs.declared.dtype.Nullability.{Nullability}
use Rattle.vx_base.specs.Timestamps.{PlainTimestamp}
use Rattle.vx_codec.specs.Bits.{bits}
use Rattle.vx_codec.specs.Format.{Format, pair, both, tested}
use Rattle.vx_codec.specs.Lists.{counted, delimited}
use Rattle.vx_model.specs.Refusals.{var_bin_refusal, timestamp_refusal, structure_refusal, list_refusal, fixed_size_list_refusal, masked_refusal, dict_refusal, run_end_refusal, rle_refusal, datetime_parts_refusal}
use Rattle.vx_model.specs.Rows.{rows}
use Rattle.vx_model.specs.Tree.{Tree, Trees, Validity, of_list}
use Rattle.vx_model.specs.Tree as trees
use Rattle.vx_spelling.specs.Fields.{nullability, name, timestamp_kind, row_count, list_size, validity}
use Rattle.vx_spelling.specs.LeafParts.{byte_type, byte_type_of}

-- ---- nested columns

-- the nullability, the row count, each field's name and tree, and the validity
abbrev pub StructParts : Type 0
StructParts = (Nullability × ℕ) × (List (List ℕ × Tree) × Validity)

-- the names of fields
abbrev pub names_of : List (List ℕ × Tree) → List (List ℕ)
names_of = map (λ f. f.0)

-- the trees of fields
abbrev pub trees_of : List (List ℕ × Tree) → Trees
trees_of fs = of_list (map (λ f. f.1) fs)

-- whether the constructor of struct nodes accepts these parts
abbrev pub struct_ok : StructParts → Bool
struct_ok x = is_none (structure_refusal (names_of x.1.0) (trees_of x.1.0) x.0.1 x.1.1 x.0.0)

-- layout: nullability, row count, number of fields, the name and the tree of each, validity
abbrev pub struct_parts : Format Tree → Format StructParts
struct_parts child = tested struct_ok (pair (both nullability row_count) (λ h. both (counted (both name child)) (validity h.1)))

-- the struct node of its parts
abbrev pub struct_of : StructParts → Tree
struct_of x = trees.structure (names_of x.1.0) (trees_of x.1.0) x.0.1 x.1.1 x.0.0

-- the nullability, the elements, the offsets and the validity
abbrev pub ListParts : Type 0
ListParts = Nullability × ((Tree × Tree) × Validity)

-- whether the constructor of list nodes accepts these parts
abbrev pub list_ok : ListParts → Bool
list_ok x = is_none (list_refusal x.1.0.0 x.1.0.1 x.1.1 x.0)

-- layout: nullability, elements, offsets, validity of one row less than there are offsets
abbrev pub list_parts : Format Tree → Format ListParts
list_parts child = tested list_ok (both nullability (pair (both child child) (λ c. validity (length (rows c.1) - 1))))

-- the list node of its parts
abbrev pub list_of : ListParts → Tree
list_of x = trees.list x.1.0.0 x.1.0.1 x.1.1 x.0

-- the nullability, the list size, the row count, the elements and the validity
abbrev pub FixedParts : Type 0
FixedParts = (Nullability × (ℕ × ℕ)) × (Tree × Validity)

-- whether the constructor of fixed-size list nodes accepts these parts
abbrev pub fixed_ok : FixedParts → Bool
fixed_ok x = is_none (fixed_size_list_refusal x.1.0 x.0.1.0 x.0.1.1 x.1.1 x.0.0)

-- layout: nullability, list size, row count, elements, validity
abbrev pub fixed_parts : Format Tree → Format FixedParts
fixed_parts child = tested fixed_ok (pair (both nullability (both list_size row_count)) (λ h. both child (validity h.1.1)))

-- the fixed-size list node of its parts
abbrev pub fixed_of : FixedParts → Tree
fixed_of x = trees.fixed_size_list x.1.0 x.0.1.0 x.0.1.1 x.1.1 x.0.0

-- ---- timestamps

-- whether the constructor of timestamp nodes accepts the storage
abbrev pub timestamp_ok : PlainTimestamp × Tree → Bool
timestamp_ok x = is_none (timestamp_refusal x.1)

-- layout: kind of timestamps, storage
abbrev pub timestamp_parts : Format Tree → Format (PlainTimestamp × Tree)
timestamp_parts child = tested timestamp_ok (both timestamp_kind child)

-- the timestamp node of its parts
abbrev pub timestamp_of : PlainTimestamp × Tree → Tree
timestamp_of x = trees.timestamp x.1 x.0

-- the kind of timestamps, the nullability, the days, the seconds and the subseconds
abbrev pub DateTimeParts : Type 0
DateTimeParts = (PlainTimestamp × Nullability) × (Tree × (Tree × Tree))

-- whether the constructor of datetimeparts nodes accepts these parts
abbrev pub datetime_ok : DateTimeParts → Bool
datetime_ok x = is_none (datetime_parts_refusal x.0.0 x.0.1 x.1.0 x.1.1.0 x.1.1.1)

-- layout: kind of timestamps, nullability, days, seconds, subseconds
abbrev pub datetime_parts : Format Tree → Format DateTimeParts
datetime_parts child = tested datetime_ok (both (both timestamp_kind nullability) (both child (both child child)))

-- the datetimeparts node of its parts
abbrev pub datetime_of : DateTimeParts → Tree
datetime_of x = trees.datetime_parts x.0.0 x.0.1 x.1.0 x.1.1.0 x.1.1.1

-- ---- texts and binaries by offsets, masks, codes, runs

-- the type, the offsets, the bytes of all values and the validity
abbrev pub VarBinParts : Type 0
VarBinParts = (Bool × Nullability) × (Tree × (List ℕ × Validity))

-- whether the constructor of varbin nodes accepts these parts
abbrev pub var_bin_ok : VarBinParts → Bool
var_bin_ok x = is_none (var_bin_refusal x.1.0 x.1.1.0 x.1.1.1 (byte_type_of x.0))

-- layout: type, offsets, bytes behind their length, validity of one row less than there are offsets
abbrev pub var_bin_parts : Format Tree → Format VarBinParts
var_bin_parts child = tested var_bin_ok (both byte_type (pair child (λ offsets. both delimited (validity (length (rows offsets) - 1)))))

-- the varbin node of its parts
abbrev pub var_bin_of : VarBinParts → Tree
var_bin_of x = trees.var_bin x.1.0 x.1.1.0 x.1.1.1 (byte_type_of x.0)

-- whether the constructor of masked nodes accepts the child and the mask
abbrev pub masked_ok : Tree × List Bool → Bool
masked_ok x = is_none (masked_refusal x.0 x.1)

-- layout: child, a bit per row of it
abbrev pub masked_parts : Format Tree → Format (Tree × List Bool)
masked_parts child = tested masked_ok (pair child (λ t. bits (length (rows t))))

-- the masked node of its parts
abbrev pub masked_of : Tree × List Bool → Tree
masked_of x = trees.masked x.0 x.1

-- whether the constructor of dict nodes accepts codes and values
abbrev pub dict_ok : Tree × Tree → Bool
dict_ok x = is_none (dict_refusal x.0 x.1)

-- layout: codes, values
abbrev pub dict_parts : Format Tree → Format (Tree × Tree)
dict_parts child = tested dict_ok (both child child)

-- the dict node of its parts
abbrev pub dict_of : Tree × Tree → Tree
dict_of x = trees.dict x.0 x.1

-- whether the constructor of runend nodes accepts ends and values
abbrev pub run_end_ok : Tree × Tree → Bool
run_end_ok x = is_none (run_end_refusal x.0 x.1)

-- layout: ends, values
abbrev pub run_end_parts : Format Tree → Format (Tree × Tree)
run_end_parts child = tested run_end_ok (both child child)

-- the runend node of its parts
abbrev pub run_end_of : Tree × Tree → Tree
run_end_of x = trees.run_end x.0 x.1

-- the row count, the values, the indices and the offsets
abbrev pub RleParts : Type 0
RleParts = ℕ × (Tree × (Tree × Tree))

-- whether the constructor of rle nodes accepts these parts
abbrev pub rle_ok : RleParts → Bool
rle_ok x = is_none (rle_refusal x.1.0 x.1.1.0 x.1.1.1 x.0)

-- layout: row count, values, indices, offsets
abbrev pub rle_parts : Format Tree → Format RleParts
rle_parts child = tested rle_ok (both row_count (both child (both child child)))

-- the rle node of its parts
abbrev pub rle_of : RleParts → Tree
rle_of x = trees.rle x.1.0 x.1.1.0 x.1.1.1 x.0
