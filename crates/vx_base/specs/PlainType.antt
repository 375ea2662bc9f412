-- Types as plain data.
use Rattle.std.specs.Prelude.{◌≡◌, ℕ, Bool, true, false, not, ◌&&◌, ◌||◌, cond, ◌==◌, List, [], ◌∷◌, refl}
use Rattle.std.proofs.Common.{ap}
use Rattle.vx_base.specs.declared.ptype.PType.{PType}
use Rattle.vx_base.specs.declared.ptype.PType.TheVariants as kinds
use Rattle.vx_base.specs.declared.dtype.Nullability.{Nullability}
use Rattle.vx_base.specs.declared.dtype.Nullability.TheVariants.{NonNullable, Nullable}
use Rattle.vx_base.specs.Integers.{is_signed}
use Rattle.vx_base.specs.Storable.{Storable, first, rest, stored_by, stored×, stored_ℕ, stored_bytes, same}
use Rattle.vx_base.specs.Timestamps.{PlainTimestamp, stored_kind}
use base.Stored.{Gv, gnil, gnum, gcons, num}

mutual
  -- a type of columns: only null; truth values, integers, texts, binaries and timestamps; structs, lists of any length, and
  -- lists of `size` items each. All but the null type have a nullability.
  pub data PlainType : Type 0 where
    null_type : PlainType
    boolean : Nullability → PlainType
    primitive : PType → Nullability → PlainType
    utf8 : Nullability → PlainType
    binary : Nullability → PlainType
    timestamp : PlainTimestamp → Nullability → PlainType
    structure : PlainFields → Nullability → PlainType
    list : PlainType → Nullability → PlainType
    fixed_size_list : PlainType → ℕ → Nullability → PlainType

  -- the names and types of a struct's fields, in their order; names may repeat
  pub data PlainFields : Type 0 where
    none : PlainFields
    more : List ℕ → PlainType → PlainFields → PlainFields

-- fields in the form that types hold, from a list
abbrev pub of_fields : List (List ℕ × PlainType) → PlainFields
of_fields [] = none
of_fields (f ∷ fs) = more f.0 f.1 (of_fields fs)

-- the fields inside a type as a list
abbrev pub list_of_fields : PlainFields → List (List ℕ × PlainType)
list_of_fields none = []
list_of_fields (more name t fs) = (name, t) ∷ list_of_fields fs

-- whether null is allowed
abbrev pub allows_null : Nullability → Bool
allows_null NonNullable = false
allows_null Nullable = true

-- nullable where either is
abbrev pub or_nullable : Nullability → Nullability → Nullability
or_nullable NonNullable n = n
or_nullable Nullable n = Nullable

-- the outermost nullability; the null type is nullable
abbrev pub nullability_of : PlainType → Nullability
nullability_of null_type = Nullable
nullability_of (boolean n) = n
nullability_of (primitive p n) = n
nullability_of (utf8 n) = n
nullability_of (binary n) = n
nullability_of (timestamp k n) = n
nullability_of (structure fs n) = n
nullability_of (list t n) = n
nullability_of (fixed_size_list t size n) = n

-- whether null is a value of the type
abbrev pub is_nullable : PlainType → Bool
is_nullable t = allows_null (nullability_of t)

-- the type with another outermost nullability; the null type stays as it is
abbrev pub with_nullability : PlainType → Nullability → PlainType
with_nullability null_type n = null_type
with_nullability (boolean m) n = boolean n
with_nullability (primitive p m) n = primitive p n
with_nullability (utf8 m) n = utf8 n
with_nullability (binary m) n = binary n
with_nullability (timestamp k m) n = timestamp k n
with_nullability (structure fs m) n = structure fs n
with_nullability (list t m) n = list t n
with_nullability (fixed_size_list t size m) n = fixed_size_list t size n

-- whether it is a bool, integer, text or binary type
abbrev pub is_leaf : PlainType → Bool
is_leaf (boolean n) = true
is_leaf (primitive p n) = true
is_leaf (utf8 n) = true
is_leaf (binary n) = true
is_leaf _ = false

-- whether it is a timestamp type
abbrev pub is_timestamp : PlainType → Bool
is_timestamp (timestamp k n) = true
is_timestamp _ = false

-- whether the values hold no others: leaf types and timestamps
abbrev pub is_flat : PlainType → Bool
is_flat t = is_leaf t || is_timestamp t

-- whether it is an integer type
abbrev pub is_integer : PlainType → Bool
is_integer (primitive p n) = true
is_integer _ = false

-- whether it is a text type
abbrev pub is_text : PlainType → Bool
is_text (utf8 n) = true
is_text _ = false

-- whether the values are bytes: texts and binaries
abbrev pub is_bytes : PlainType → Bool
is_bytes (utf8 n) = true
is_bytes (binary n) = true
is_bytes _ = false

-- the integer type of a type of integers; U8, which nothing relies on, of any other
abbrev pub integer_of : PlainType → PType
integer_of (primitive p n) = p
integer_of _ = kinds.U8

-- whether it is an unsigned integer type
abbrev pub is_unsigned : PlainType → Bool
is_unsigned t = is_integer t && not (is_signed (integer_of t))

-- ---- how the logic stores a type: a label, and what is inside
abbrev pub ptype_number : PType → ℕ
ptype_number kinds.U8 = 0
ptype_number kinds.U16 = 1
ptype_number kinds.U32 = 2
ptype_number kinds.U64 = 3
ptype_number kinds.I8 = 4
ptype_number kinds.I16 = 5
ptype_number kinds.I32 = 6
ptype_number kinds.I64 = 7

-- the integer type with a number
abbrev pub ptype_at : ℕ → PType
ptype_at n =
    cond (n == 0) kinds.U8 (cond (n == 1) kinds.U16 (cond (n == 2) kinds.U32 (cond (n == 3) kinds.U64
    (cond (n == 4) kinds.I8 (cond (n == 5) kinds.I16 (cond (n == 6) kinds.I32 kinds.I64))))))

pub ptype_at-number : (p : PType) → ptype_at (ptype_number p) ≡ p
ptype_at-number kinds.U8 = refl
ptype_at-number kinds.U16 = refl
ptype_at-number kinds.U32 = refl
ptype_at-number kinds.U64 = refl
ptype_at-number kinds.I8 = refl
ptype_at-number kinds.I16 = refl
ptype_at-number kinds.I32 = refl
ptype_at-number kinds.I64 = refl

-- the number of a nullability
abbrev pub nullability_number : Nullability → ℕ
nullability_number NonNullable = 0
nullability_number Nullable = 1

-- the nullability with a number
abbrev pub nullability_at : ℕ → Nullability
nullability_at n = cond (n == 0) NonNullable Nullable

pub nullability_at-number : (n : Nullability) → nullability_at (nullability_number n) ≡ n
nullability_at-number NonNullable = refl
nullability_at-number Nullable = refl

abbrev pub stored_ptype : Storable PType
stored_ptype = stored_by ptype_number ptype_at ptype_at-number

abbrev pub stored_nullability : Storable Nullability
stored_nullability = stored_by nullability_number nullability_at nullability_at-number

abbrev pub stored_primitive : Storable (PType × Nullability)
stored_primitive = stored× stored_ptype stored_nullability

-- a kind of timestamps and its nullability, as a pair
abbrev pub stored_timestamp : Storable (PlainTimestamp × Nullability)
stored_timestamp = stored× stored_kind stored_nullability

-- a size and the nullability beside it, as a pair
abbrev pub stored_fixed : Storable (ℕ × Nullability)
stored_fixed = stored× stored_ℕ stored_nullability

-- a number and a label, and the types inside: none, a struct's fields, or the items' type as one field without a name
abbrev mutual
  pub to : PlainType → Gv
  to null_type = gcons (gcons (gnum 0) gnil) gnil
  to (boolean n) = gcons (gcons (gnum 1) (stored_nullability.to n)) gnil
  to (primitive p n) = gcons (gcons (gnum 2) (stored_primitive.to (p, n))) gnil
  to (utf8 n) = gcons (gcons (gnum 3) (stored_nullability.to n)) gnil
  to (binary n) = gcons (gcons (gnum 4) (stored_nullability.to n)) gnil
  to (timestamp k n) = gcons (gcons (gnum 5) (stored_timestamp.to (k, n))) gnil
  to (structure fs n) = gcons (gcons (gnum 6) (stored_nullability.to n)) (to_all fs)
  to (list t n) = gcons (gcons (gnum 7) (stored_nullability.to n)) (gcons (gcons gnil (to t)) gnil)
  to (fixed_size_list t size n) = gcons (gcons (gnum 8) (stored_fixed.to (size, n))) (gcons (gcons gnil (to t)) gnil)

  pub to_all : PlainFields → Gv
  to_all none = gnil
  to_all (more name t fs) = gcons (gcons (stored_bytes.to name) (to t)) (to_all fs)

-- the first type inside; the null type, which nothing relies on, where there is none
abbrev pub first_type : PlainFields → PlainType
first_type none = null_type
first_type (more name t fs) = t

-- the type with a number, a label and the types inside
abbrev pub type_at : ℕ → Gv → PlainFields → PlainType
type_at tag label inside =
    cond (tag == 0) null_type (cond (tag == 1) (boolean (stored_nullability.from label))
    (cond (tag == 2) (let p = stored_primitive.from label in primitive p.0 p.1)
    (cond (tag == 3) (utf8 (stored_nullability.from label)) (cond (tag == 4) (binary (stored_nullability.from label))
    (cond (tag == 5) (let p = stored_timestamp.from label in timestamp p.0 p.1)
    (cond (tag == 6) (structure inside (stored_nullability.from label)) (cond (tag == 7) (list (first_type inside) (stored_nullability.from label))
    (let p = stored_fixed.from label in fixed_size_list (first_type inside) p.0 p.1))))))))

-- a stored tree read as a type and as fields, and its right part read as a type
abbrev pub read : Gv → PlainType × PlainFields × PlainType
read gnil = (null_type, none, null_type)
read (gnum n) = (null_type, none, null_type)
read (gcons a b) = (type_at (num (first a)) (rest a) (read b).1, more (stored_bytes.from (first a)) (read a).2 (read b).1, (read b).0)

abbrev pub from : Gv → PlainType
from g = (read g).0

mutual
  pub from-to : (t : PlainType) → from (to t) ≡ t
  from-to null_type = refl
  from-to (boolean n) = ap boolean (stored_nullability.back n)
  from-to (primitive p n) = λ i. let q = stored_primitive.back (p, n) i in primitive q.0 q.1
  from-to (utf8 n) = ap utf8 (stored_nullability.back n)
  from-to (binary n) = ap binary (stored_nullability.back n)
  from-to (timestamp k n) = λ i. let q = stored_timestamp.back (k, n) i in timestamp q.0 q.1
  from-to (structure fs n) = λ i. structure (from-to_all fs i) (stored_nullability.back n i)
  from-to (list t n) = λ i. list (from-to t i) (stored_nullability.back n i)
  from-to (fixed_size_list t size n) = λ i. let q = stored_fixed.back (size, n) i in fixed_size_list (from-to t i) q.0 q.1

  pub from-to_all : (fs : PlainFields) → (read (to_all fs)).1 ≡ fs
  from-to_all none = refl
  from-to_all (more name t fs) = λ i. more (stored_bytes.back name i) (from-to t i) (from-to_all fs i)

-- a type is stored as a number for its kind, what it has of its own, and the types inside
abbrev pub stored_type : Storable PlainType
stored_type = record { to = to; from = from; back = from-to }

-- whether two types are equal
abbrev pub same_type : PlainType → PlainType → Bool
same_type = same stored_type

-- whether two types are equal up to outermost nullability
abbrev pub same_base : PlainType → PlainType → Bool
same_base s t = same_type (with_nullability s NonNullable) (with_nullability t NonNullable)
