-- The layout of each leaf behind its id: the fields in the order in which they are spelled, which of them the constructor accepts,
-- and the node of them.
use Rattle.std.specs.Prelude.{ℕ, ℤ, Bool, true, false, List, length, Option, Some, None, ◌==◌, cond, is_none}
use Rattle.vx_base.specs.declared.dtype.Nullability.{Nullability}
use Rattle.vx_base.specs.declared.ptype.PType.{PType}
use Rattle.vx_base.specs.PlainScalar.{PlainScalar, scalar}
use Rattle.vx_base.specs.PlainType.{PlainType}
use Rattle.vx_base.specs.PlainType as types
use Rattle.vx_base.specs.PlainValue.{PlainValue}
use Rattle.vx_codec.specs.Bits.{bits}
use Rattle.vx_codec.specs.FixedWidth.{enumerated}
use Rattle.vx_codec.specs.Format.{Format, pair, both, tested, keyed}
use Rattle.vx_codec.specs.Lists.{counted, delimited}
use Rattle.vx_codec.specs.Varint.{varint}
use Rattle.vx_model.specs.Refusals.{primitive_refusal, var_bin_view_refusal, sequence_refusal}
use Rattle.vx_model.specs.Tree.{Tree, Validity}
use Rattle.vx_model.specs.Tree as trees
use Rattle.vx_spelling.specs.Fields.{nullability, ptype, integer, wide_integer, row_count, validity}
use Rattle.vx_spelling.specs.ValueSpelling.{scalar_parts}

-- the nullability and the rows, and the validity
abbrev pub BoolParts : Type 0
BoolParts = (Nullability × List Bool) × Validity

-- whether the constructor of bool nodes accepts these parts
abbrev pub bool_ok : BoolParts → Bool
bool_ok x = is_none (primitive_refusal (length x.0.1) x.1 x.0.0)

-- layout: nullability, row count, a bit per row, validity
abbrev pub bool_parts : Format BoolParts
bool_parts = tested bool_ok (pair (both nullability (keyed varint length bits)) (λ h. validity (length h.1)))

-- the bool node of its parts
abbrev pub bool_of : BoolParts → Tree
bool_of x = trees.bool x.0.1 x.1 x.0.0

-- the type, the nullability, the integers and the validity
abbrev pub PrimitiveParts : Type 0
PrimitiveParts = (PType × Nullability) × (List ℤ × Validity)

-- whether the constructor of primitive nodes accepts these parts
abbrev pub primitive_ok : PrimitiveParts → Bool
primitive_ok x = is_none (primitive_refusal (length x.1.0) x.1.1 x.0.1)

-- layout: type, nullability, row count, an integer per row, validity
abbrev pub primitive_parts : Format PrimitiveParts
primitive_parts = tested primitive_ok (pair (both ptype nullability) (λ h. pair (counted (integer h.0)) (λ xs. validity (length xs))))

-- the primitive node of its parts
abbrev pub primitive_of : PrimitiveParts → Tree
primitive_of x = trees.primitive x.0.0 x.1.0 x.1.1 x.0.1

-- the byte of a type of texts or binaries: 3 for texts, 4 for binaries, as among the kinds of types
abbrev pub text_number : Bool → ℕ
text_number is_text = cond is_text 3 4

-- whether a byte stands for texts; None but for 3 and 4
abbrev pub text_from : ℕ → Option Bool
text_from n = cond (n == 3) (Some true) (cond (n == 4) (Some false) None)

-- a text or binary type: a byte 3 or 4, and the nullability
abbrev pub byte_type : Format (Bool × Nullability)
byte_type = both (enumerated text_number text_from) nullability

-- the type of texts or binaries with a nullability
abbrev pub byte_type_of : Bool × Nullability → PlainType
byte_type_of (true, n) = types.utf8 n
byte_type_of (false, n) = types.binary n

-- the type, the values and the validity
abbrev pub ViewParts : Type 0
ViewParts = (Bool × Nullability) × (List (List ℕ) × Validity)

-- whether the constructor of varbinview nodes accepts these parts
abbrev pub view_ok : ViewParts → Bool
view_ok x = is_none (var_bin_view_refusal x.1.0 x.1.1 (byte_type_of x.0))

-- layout: type, row count, each value behind its length, validity
abbrev pub view_parts : Format ViewParts
view_parts = tested view_ok (both byte_type (pair (counted delimited) (λ vs. validity (length vs))))

-- the varbinview node of its parts
abbrev pub view_of : ViewParts → Tree
view_of x = trees.var_bin_view x.1.0 x.1.1 (byte_type_of x.0)

-- layout: row count, scalar; the constructor of constant nodes refuses nothing
abbrev pub constant_parts : Format (ℕ × (PlainType × PlainValue))
constant_parts = both row_count scalar_parts

-- the scalar of a type and a value
abbrev pub scalar_of : PlainType × PlainValue → PlainScalar
scalar_of s = scalar s.0 s.1

-- the constant node of its parts
abbrev pub constant_of : ℕ × (PlainType × PlainValue) → Tree
constant_of x = trees.constant (scalar_of x.1) x.0

-- the type, the nullability, the first row, the step and the row count
abbrev pub SequenceParts : Type 0
SequenceParts = (PType × Nullability) × ((ℤ × ℤ) × ℕ)

-- whether the constructor of sequence nodes accepts these parts
abbrev pub sequence_ok : SequenceParts → Bool
sequence_ok x = is_none (sequence_refusal x.0.0 x.1.0.0 x.1.0.1 x.1.1)

-- layout: type, nullability, first row and step in 16 bytes each, row count
abbrev pub sequence_parts : Format SequenceParts
sequence_parts = tested sequence_ok (both (both ptype nullability) (both (both wide_integer wide_integer) row_count))

-- the sequence node of its parts
abbrev pub sequence_of : SequenceParts → Tree
sequence_of x = trees.sequence x.0.0 x.0.1 x.1.0.0 x.1.0.1 x.1.1
