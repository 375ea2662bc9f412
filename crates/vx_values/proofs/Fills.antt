-- A fill of a flat type, as an item of the kind of that type's values.
use Rattle.std.proofs.Common.{◌≡◌, true, refl}
use Rattle.vx_base.specs.declared.ptype.PType.{PType}
use Rattle.vx_base.specs.Defaults.{default_of, or_default}
use Rattle.vx_base.specs.PlainScalar.{fits}
use Rattle.vx_base.specs.PlainType.{PlainType, boolean, primitive, utf8, binary, timestamp, is_flat}
use Rattle.vx_base.specs.PlainValue.{PlainValue, null, truth, int, bytes, truth_or_false, whole_or_zero, bytes_or_empty}
use Rattle.vx_values.specs.ValuesOf.{truths, ints, byte_rows, kind_of}

pub fill-truth : (t : PlainType) (v : PlainValue) → is_flat t ≡ true → fits t v ≡ true → truths ≡ kind_of t → truth (truth_or_false v) ≡ or_default (default_of t) v
fill-truth (boolean n) null f h k = refl
fill-truth (boolean n) (truth b) f h k = refl
fill-truth (boolean n) v f h k = absurd cc
fill-truth (primitive p n) v f h k = absurd cc
fill-truth (utf8 n) v f h k = absurd cc
fill-truth (binary n) v f h k = absurd cc
fill-truth (timestamp s n) v f h k = absurd cc
fill-truth t v f h k = absurd cc

pub fill-int : (t : PlainType) (v : PlainValue) (p : PType) → is_flat t ≡ true → fits t v ≡ true → ints p ≡ kind_of t → int (whole_or_zero v) ≡ or_default (default_of t) v
fill-int (primitive q n) null p f h k = refl
fill-int (primitive q n) (int z) p f h k = refl
fill-int (primitive q n) v p f h k = absurd cc
fill-int (timestamp s n) null p f h k = refl
fill-int (timestamp s n) (int z) p f h k = refl
fill-int (timestamp s n) v p f h k = absurd cc
fill-int t v p f h k = absurd cc

pub fill-bytes : (t : PlainType) (v : PlainValue) → is_flat t ≡ true → fits t v ≡ true → byte_rows ≡ kind_of t → bytes (bytes_or_empty v) ≡ or_default (default_of t) v
fill-bytes (utf8 n) null f h k = refl
fill-bytes (utf8 n) (bytes b) f h k = refl
fill-bytes (utf8 n) v f h k = absurd cc
fill-bytes (binary n) null f h k = refl
fill-bytes (binary n) (bytes b) f h k = refl
fill-bytes (binary n) v f h k = absurd cc
fill-bytes t v f h k = absurd cc
