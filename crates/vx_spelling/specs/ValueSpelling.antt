-- How a value of a type is spelled: a byte 0 for null; else a byte 1 and the value.
use Rattle.std.specs.Prelude.{◌≡◌, ℕ, suc, Bool, true, IsTrue, List, [], ◌∷◌, ◌++◌, Some, None, ◌==◌, if◌then◌else◌}
use Rattle.vx_base.specs.declared.ptype.PType.TheVariants.{I64}
use Rattle.vx_base.specs.PlainScalar.{PlainScalar, fits}
use Rattle.vx_base.specs.PlainType.{PlainType, PlainFields, null_type, boolean, primitive, utf8, binary, timestamp, structure, list, fixed_size_list, allows_null}
use Rattle.vx_base.specs.PlainType as types
use Rattle.vx_base.specs.PlainValue.{PlainValue, PlainValues, null, truth, int, bytes, items, of_list}
use Rattle.vx_base.specs.PlainValue as vals
use Rattle.vx_codec.specs.FixedWidth.{byte_at}
use Rattle.vx_codec.specs.Format.{◌>>=◌, Parse, Format, pair, pair_at, tested, made_at, keyed_at}
use Rattle.vx_codec.specs.Lists.{repeated_at, delimited}
use Rattle.vx_codec.specs.Varint.{varint}
use Rattle.vx_spelling.specs.Fields.{truth_value, integer}
use Rattle.vx_spelling.specs.TypeSpelling.{TypeFits, type_format}

-- the number of values
abbrev pub count_values : PlainValues → ℕ
count_values vals.none = 0
count_values (vals.more v vs) = suc (count_values vs)

-- the spelling of a value of a type
abbrev mutual
  pub value_text : PlainValue → PlainType → List ℕ
  value_text null t = 0 ∷ []
  value_text (truth b) (boolean n) = 1 ∷ truth_value.spell b
  value_text (int z) (primitive p n) = 1 ∷ (integer p).spell z
  value_text (int z) (timestamp k n) = 1 ∷ (integer I64).spell z
  value_text (bytes bs) (utf8 n) = 1 ∷ delimited.spell bs
  value_text (bytes bs) (binary n) = 1 ∷ delimited.spell bs
  value_text (items vs) (structure fs n) = 1 ∷ each_field_text vs fs
  value_text (items vs) (list t n) = 1 ∷ (varint.spell (count_values vs) ++ each_text vs t)
  value_text (items vs) (fixed_size_list t size n) = 1 ∷ each_text vs t
  value_text _ _ = []

  -- one value for each field
  pub each_field_text : PlainValues → PlainFields → List ℕ
  each_field_text (vals.more v vs) (types.more name t fs) = value_text v t ++ each_field_text vs fs
  each_field_text _ _ = []

  -- values of one type
  pub each_text : PlainValues → PlainType → List ℕ
  each_text vals.none t = []
  each_text (vals.more v vs) t = value_text v t ++ each_text vs t

-- a value has the form of its type, and its numbers fit their fields: integers their width, and lengths
abbrev mutual
  pub ValueFits : PlainValue → PlainType → Type 0
  ValueFits null t = IsTrue (types.is_nullable t)
  ValueFits (truth b) (boolean n) = Unit {0}
  ValueFits (int z) (primitive p n) = (integer p).Fits z
  ValueFits (int z) (timestamp k n) = (integer I64).Fits z
  ValueFits (bytes bs) (utf8 n) = delimited.Fits bs
  ValueFits (bytes bs) (binary n) = delimited.Fits bs
  ValueFits (items vs) (structure fs n) = EachFieldFits vs fs
  ValueFits (items vs) (list t n) = varint.Fits (count_values vs) × EachFits vs t
  ValueFits (items vs) (fixed_size_list t size n) = (count_values vs ≡ size) × EachFits vs t
  ValueFits _ _ = ⊥

  -- as many values as fields, and each fits its field's type
  pub EachFieldFits : PlainValues → PlainFields → Type 0
  EachFieldFits vals.none types.none = Unit {0}
  EachFieldFits (vals.more v vs) (types.more name t fs) = ValueFits v t × EachFieldFits vs fs
  EachFieldFits _ _ = ⊥

  -- each value fits one type
  pub EachFits : PlainValues → PlainType → Type 0
  EachFits vals.none t = Unit {0}
  EachFits (vals.more v vs) t = ValueFits v t × EachFits vs t

-- null behind a 0 where it is allowed, or what is read behind a 1
abbrev pub flagged_at : Bool → Parse PlainValue → Parse PlainValue
flagged_at nullable p bs =
    byte_at bs >>= λ b. (if b.0 == 0 then (if nullable then Some (null, b.1) else None) else (if b.0 == 1 then p b.1 else None))

-- a list as a value
abbrev pub items_of : List PlainValue → PlainValue
items_of vs = items (of_list vs)

-- nothing: the null type has no value but null
abbrev pub nothing_at : Parse PlainValue
nothing_at bs = None

abbrev mutual
  -- reads a value of a type
  pub value_at : PlainType → Parse PlainValue
  value_at null_type bs = flagged_at true nothing_at bs
  value_at (boolean n) bs = flagged_at (allows_null n) (made_at truth truth_value.parse) bs
  value_at (primitive p n) bs = flagged_at (allows_null n) (made_at int (integer p).parse) bs
  value_at (utf8 n) bs = flagged_at (allows_null n) (made_at bytes delimited.parse) bs
  value_at (binary n) bs = flagged_at (allows_null n) (made_at bytes delimited.parse) bs
  value_at (timestamp k n) bs = flagged_at (allows_null n) (made_at int (integer I64).parse) bs
  value_at (structure fs n) bs = flagged_at (allows_null n) (made_at items (fields_at fs)) bs
  value_at (list t n) bs = flagged_at (allows_null n) (made_at items_of (keyed_at varint.parse (repeated_at (value_at t)))) bs
  value_at (fixed_size_list t size n) bs = flagged_at (allows_null n) (made_at items_of (repeated_at (value_at t) size)) bs

  -- one value for each field
  pub fields_at : PlainFields → Parse PlainValues
  fields_at types.none bs = Some (vals.none, bs)
  fields_at (types.more name t fs) bs = made_at (λ x. vals.more x.0 x.1) (pair_at (value_at t) (λ _. fields_at fs)) bs

-- a value of a type
abbrev pub value_format : PlainType → Format PlainValue
value_format t = record { spell = λ v. value_text v t; parse = value_at t; Fits = λ v. ValueFits v t }

-- whether a value is one of its type
abbrev pub is_scalar : PlainType × PlainValue → Bool
is_scalar s = fits s.0 s.1

-- a scalar: a type in which at most 64 types nest, and a value of it
abbrev pub scalar_parts : Format (PlainType × PlainValue)
scalar_parts = tested is_scalar (pair (type_format 64) value_format)

-- the numbers of a scalar fit their fields
abbrev pub ScalarFits : PlainScalar → Type 0
ScalarFits s = TypeFits s.dtype × ValueFits s.value s.dtype
