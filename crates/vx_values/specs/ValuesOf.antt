-- Flat lists of values: their kind, and their values as plain data.
use Rattle.std.specs.Prelude.{◌≡◌, pos, Bool, true, false, List, [], map}
use Rattle.vx_base.specs.declared.ptype.PType.{PType}
use Rattle.vx_base.specs.declared.ptype.PType.TheVariants as ptypes
use Rattle.vx_base.specs.PlainType.{PlainType, boolean, primitive, utf8, binary, timestamp}
use Rattle.vx_base.specs.PlainValue.{PlainValue, truth, int, bytes}
use Rattle.vx_model.specs.Tree.{Validity}
use Rattle.vx_values.specs.declared.decoded.Decoded.{Decoded}
use Rattle.vx_values.specs.declared.values.Values.{Values}
use Rattle.vx_values.specs.declared.values.Values.TheVariants.{Bits, Ints, Bytes}
use Rattle.vx_values.specs.IntsOf.{ptype_of, wholes_of}

-- the kinds of flat lists
pub data ValueKind : Type 0 where
  truths : ValueKind
  -- integers of a type
  ints : PType → ValueKind
  -- texts or binaries
  byte_rows : ValueKind

-- the kind of a flat type's values: of timestamps i64; truths, which nothing relies on, of a type that isn't flat
abbrev pub kind_of : PlainType → ValueKind
kind_of (boolean n) = truths
kind_of (primitive p n) = ints p
kind_of (utf8 n) = byte_rows
kind_of (binary n) = byte_rows
kind_of (timestamp k n) = ints ptypes.I64
kind_of _ = truths

-- the kind of a list
abbrev pub kind_in : Values → ValueKind
kind_in (Bits bs) = truths
kind_in (Ints xs) = ints (ptype_of xs)
kind_in (Bytes rows) = byte_rows

abbrev pub holds_integers : ValueKind → Bool
holds_integers (ints p) = true
holds_integers _ = false

-- the values of a list as plain data
abbrev pub values_of : Values → List PlainValue
values_of (Bits bs) = map truth bs
values_of (Ints xs) = map int (wholes_of xs)
values_of (Bytes rows) = map bytes rows

-- the default of a kind: false, 0 or no bytes
abbrev pub default_in : ValueKind → PlainValue
default_in truths = truth false
default_in (ints p) = int (pos 0)
default_in byte_rows = bytes []

-- a decoding has these values of this kind, and this validity
abbrev pub AreRows : ValueKind → List PlainValue → Validity → Decoded → Type 0
AreRows kind values valid rows = (kind_in rows.values ≡ kind) × (values_of rows.values ≡ values) × (rows.valid ≡ valid)
