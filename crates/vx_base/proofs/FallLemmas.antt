-- Measures by which recursion over values, types and lists of them ends: a part has a smaller one than the whole.
use Rattle.std.proofs.Common.{◌≡◌, ◌<◌, ◌+◌, ℕ, zero, suc, List, [], ◌∷◌, length, map, get_or, arith}
use Rattle.vx_base.specs.declared.dtype.DType.{DType}
use Rattle.vx_base.specs.declared.dtype.Fields.{Fields}
use Rattle.vx_base.specs.declared.dtype.Nullability.{Nullability}
use Rattle.vx_base.specs.declared.dtype.DType.TheViews.{Struct}
use Rattle.vx_base.specs.declared.value.Value.{Value}
use Rattle.vx_base.specs.PlainType.{PlainType, PlainFields, null_type, boolean, primitive, utf8, binary, timestamp, structure, list, fixed_size_list, none, more, of_fields}
use Rattle.vx_base.specs.PlainValue.{value_count, list_count}
use Rattle.vx_base.specs.TypeOf.{type_of, value_of, field_of, fields_of}
use Rattle.vx_base.proofs.FieldLemmas.{type_of-Struct}

-- the measure of a type: 1, and for each type inside its measure and 1 more for a field
abbrev mutual
  pub type_count : PlainType → ℕ
  type_count null_type = 1
  type_count (boolean n) = 1
  type_count (primitive p n) = 1
  type_count (utf8 n) = 1
  type_count (binary n) = 1
  type_count (timestamp k n) = 1
  type_count (structure fs n) = suc (fields_count fs)
  type_count (list t n) = suc (type_count t)
  type_count (fixed_size_list t size n) = suc (type_count t)

  pub fields_count : PlainFields → ℕ
  fields_count none = 0
  fields_count (more name t fs) = suc (type_count t + fields_count fs)

-- the measure of a list of fields
abbrev pub field_list_count : List (List ℕ × PlainType) → ℕ
field_list_count fs = fields_count (of_fields fs)

pub value_falls : (vs : List Value) (i : ℕ) (v : Value) → i < length vs → v ≡ get_or vs i v → value_count (value_of v) < list_count (map value_of vs)
value_falls [] i v h e = absurd (omega arith)
value_falls (w ∷ vs) zero v h e = rw e (omega arith)
value_falls (w ∷ vs) (suc i) v h e = let k = value_falls vs i v (omega arith) e in omega (arith, k)

pub field_falls : (fs : List (List ℕ × DType)) (i : ℕ) (f : List ℕ × DType) → i < length fs → f ≡ get_or fs i f → type_count (type_of f.1) < field_list_count (map field_of fs)
field_falls [] i f h e = absurd (omega arith)
field_falls (g ∷ fs) zero f h e = rw e (omega arith)
field_falls (g ∷ fs) (suc i) f h e = let k = field_falls fs i f (omega arith) e in omega (arith, k)

pub struct_falls : (fs : Fields) (n : Nullability) → field_list_count (fields_of fs) < type_count (type_of (Struct fs n))
struct_falls fs n = rw (type_of-Struct fs n) (omega arith)

pub ruleset falls = (value_falls, field_falls, struct_falls)
