-- Types that differ in their nullability alone.
use Rattle.std.proofs.Common.{◌≡◌, true, false, refl}
use Rattle.vx_base.specs.declared.dtype.Nullability.{Nullability}
use Rattle.vx_base.specs.declared.dtype.Nullability.TheVariants.{NonNullable, Nullable}
use Rattle.vx_base.specs.Defaults.{default_of}
use Rattle.vx_base.specs.PlainScalar.{fits}
use Rattle.vx_base.specs.PlainType.{PlainType, null_type, boolean, primitive, utf8, binary, timestamp, structure, list, fixed_size_list, allows_null, is_flat, is_nullable, nullability_of, with_nullability}
use Rattle.vx_base.specs.PlainValue.{PlainValue, null, is_null}

pub allows_null-is : (n : Nullability) → allows_null n ≡ true → n ≡ Nullable
allows_null-is NonNullable h = absurd cc
allows_null-is Nullable h = refl

-- for every type but the null type, so for the flat ones
pub nullability_of-with : (t : PlainType) (n : Nullability) → is_flat t ≡ true → nullability_of (with_nullability t n) ≡ n
nullability_of-with (boolean m) n h = refl
nullability_of-with (primitive p m) n h = refl
nullability_of-with (utf8 m) n h = refl
nullability_of-with (binary m) n h = refl
nullability_of-with (timestamp k m) n h = refl
nullability_of-with t n h = absurd cc

-- a type made nullable is nullable, the null type too
pub is_nullable-with : (t : PlainType) (n : Nullability) → allows_null n ≡ true → is_nullable (with_nullability t n) ≡ true
is_nullable-with null_type n h = refl
is_nullable-with (boolean m) n h = h
is_nullable-with (primitive p m) n h = h
is_nullable-with (utf8 m) n h = h
is_nullable-with (binary m) n h = h
is_nullable-with (timestamp k m) n h = h
is_nullable-with (structure fs m) n h = h
is_nullable-with (list t m) n h = h
is_nullable-with (fixed_size_list t size m) n h = h

pub default_of-with : (t : PlainType) (n : Nullability) → default_of (with_nullability t n) ≡ default_of t
default_of-with (boolean m) n = refl
default_of-with (primitive p m) n = refl
default_of-with (utf8 m) n = refl
default_of-with (binary m) n = refl
default_of-with (timestamp k m) n = refl
default_of-with null_type n = refl
default_of-with (structure fs m) n = refl
default_of-with (list t m) n = refl
default_of-with (fixed_size_list t size m) n = refl

-- a value other than null is of both or of neither
pub fits-with : (t : PlainType) (n : Nullability) (v : PlainValue) → is_null v ≡ false → fits (with_nullability t n) v ≡ fits t v
fits-with t n null e = absurd cc
fits-with (boolean m) n v e = refl
fits-with (primitive p m) n v e = refl
fits-with (utf8 m) n v e = refl
fits-with (binary m) n v e = refl
fits-with (timestamp k m) n v e = refl
fits-with null_type n v e = refl
fits-with (structure fs m) n v e = refl
fits-with (list t m) n v e = refl
fits-with (fixed_size_list t size m) n v e = refl
