-- The integers among values.
use Rattle.std.specs.Prelude.{ℤ, List, Option, Some, None}
use Rattle.std.specs.List.{filter_map}
use Rattle.vx_base.specs.PlainValue.{PlainValue, int}

-- the integer of a value, None of any other kind
abbrev pub integer_in : PlainValue → Option ℤ
integer_in (int z) = Some z
integer_in _ = None

-- the integers among the values, in order
abbrev pub integers_in : List PlainValue → List ℤ
integers_in vs = filter_map integer_in vs
