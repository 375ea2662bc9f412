-- The order of values by which rows are compared, and least and greatest values are found.
use Rattle.std.specs.declared.cmp.Ordering.{Ordering}
use Rattle.std.specs.declared.cmp.Ordering.TheVariants.{Equal}
use Rattle.std.specs.Ordering.{nat_cmp, int_cmp, bool_cmp}
use Rattle.std.specs.Cmp.Lexicographic.{slice_cmp}
use Rattle.vx_base.specs.PlainValue.{PlainValue, truth, int, bytes}

-- false below true, whole numbers as such (timestamps too), texts and binaries by their bytes, a prefix first. Nothing relies on the
-- order of null, of structs and lists, or of values of two kinds: such rows are null in a comparison, or their types are refused
abbrev pub value_cmp : PlainValue → PlainValue → Ordering
value_cmp (truth a) (truth b) = bool_cmp a b
value_cmp (int a) (int b) = int_cmp a b
value_cmp (bytes a) (bytes b) = slice_cmp nat_cmp a b
value_cmp _ _ = Equal
