-- What the frame-of-reference scheme makes of a column of integers: the differences from the least value, packed.
use Rattle.std.specs.Prelude.{◌-ℤ◌, ℤ, List, map, Option, unwrap_or, option_map}
use Rattle.std.specs.Int.{int_min}
use Rattle.std.specs.List.{reduce}
use Rattle.vx_base.specs.declared.ptype.PType.{PType}
use Rattle.vx_base.specs.declared.dtype.Nullability.TheVariants.{NonNullable}
use Rattle.vx_base.specs.Integers.{unsigned_of}
use Rattle.vx_base.specs.PlainType.{integer_of, nullability_of}
use Rattle.vx_base.specs.PlainType as types
use Rattle.vx_base.specs.PlainScalar.{scalar}
use Rattle.vx_base.specs.PlainValue.{PlainValue, int}
use Rattle.vx_base.specs.Wrapping.{wrap}
use Rattle.vx_model.specs.Column.{Column, column}
use Rattle.vx_model.specs.Plain.{plain}
use Rattle.vx_model.specs.Rows.{each_int}
use Rattle.vx_model.specs.Tree.{Tree, frame_of_reference}
use Rattle.vx_stats.specs.Stats.{valid_wholes}
use Rattle.vx_schemes.specs.BitPacking.Tree.{bit_packing_made}

-- the least value; None where there is no value
abbrev pub least_value : List PlainValue → Option ℤ
least_value values = reduce int_min (valid_wholes values)

-- number - reference, wrapped to the unsigned type of the same width
abbrev pub less : PType → ℤ → ℤ → ℤ
less p reference z = wrap (unsigned_of p) (z -ℤ reference)

-- the difference of a row; null stays
abbrev pub difference : PType → ℤ → PlainValue → PlainValue
difference p reference = each_int (less p reference)

-- the differences of a column's rows, of the same nullability
abbrev pub differences : Column → ℤ → Column
differences c reference = column (types.primitive (unsigned_of (integer_of c.dtype)) (nullability_of c.dtype)) (map (difference (integer_of c.dtype) reference) c.values)

-- bit packed, or plain where bit packing keeps the column
abbrev pub packed_or_plain : Column → Tree
packed_or_plain c = unwrap_or (bit_packing_made c) (plain c)

-- the frame of reference over the differences from a reference
abbrev pub framed : Column → ℤ → Tree
framed c reference = frame_of_reference (packed_or_plain (differences c reference)) (scalar (types.primitive (integer_of c.dtype) NonNullable) (int reference))

-- the frame of reference from the least value; None where there is no value
abbrev pub for_made : Column → Option Tree
for_made c = option_map (framed c) (least_value c.values)
