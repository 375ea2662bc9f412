-- What the zigzag scheme makes of a column of integers: one part, the zigzags of its rows.
use Rattle.std.specs.Prelude.{ℤ, pos, not, List, map}
use Rattle.vx_base.specs.Integers.{unsigned_of}
use Rattle.vx_base.specs.PlainType.{integer_of, nullability_of, is_unsigned}
use Rattle.vx_base.specs.PlainType as types
use Rattle.vx_base.specs.PlainValue.{PlainValue}
use Rattle.vx_base.specs.ZigZag.{zigzag}
use Rattle.vx_model.specs.Column.{Column, column}
use Rattle.vx_model.specs.Rows.{each_int}
use Rattle.vx_model.specs.Tree.{Tree, zig_zag}
use Rattle.vx_scheme.specs.Meaning.{PlainSplit}
use Rattle.vx_schemes_common.specs.OnePart.{part_where, over_part}

-- the zigzag as a whole number
abbrev pub zigzag_whole : ℤ → ℤ
zigzag_whole z = pos (zigzag z)

-- the zigzag of a row; null stays
abbrev pub zigzagged : PlainValue → PlainValue
zigzagged = each_int zigzag_whole

-- the zigzags of a column's rows, in the unsigned type of the same width and of the same nullability
abbrev pub zigzags : Column → Column
zigzags c = column (types.primitive (unsigned_of (integer_of c.dtype)) (nullability_of c.dtype)) (map zigzagged c.values)

-- a column of an unsigned type stays plain
abbrev pub zig_zag_made : Column → PlainSplit
zig_zag_made c = part_where (not (is_unsigned c.dtype)) (zigzags c)

-- the zigzag array over the part's tree
abbrev pub zig_zag_over : Column → List Tree → Tree
zig_zag_over = over_part (λ c tree. zig_zag tree)
