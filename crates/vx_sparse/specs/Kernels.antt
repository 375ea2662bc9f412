-- Words of the kernels: the patches of a sparse tree, and the values in its rows.
use Rattle.std.specs.Prelude.{ℕ, ◌-◌, ◌==◌, ◌||◌, Bool, if◌then◌else◌, List, [], ◌∷◌, ◌++◌, length, Option, None, Some}
use Rattle.std.specs.Ordering.{ord_min, ord_max}
use Rattle.vx_base.specs.PlainScalar.{PlainScalar}
use Rattle.vx_base.specs.PlainType.{PlainType, is_integer}
use Rattle.vx_base.specs.PlainValue.{PlainValue, is_null}
use Rattle.vx_model.specs.Rows.{rows}
use Rattle.vx_model.specs.Tree.{Tree, PlainPatches, sparse, sparse_chunked}
use Rattle.vx_rules.specs.Aggregates.{valid_values, least, greatest}
use Rattle.vx_rules.specs.Comparisons.{is_boolean}
use Rattle.vx_rules.specs.ValueOrder.{value_cmp}

-- the types that have a sum: truth values and integers. Their scalars own no memory
abbrev pub is_summable : PlainType → Bool
is_summable t = is_boolean t || is_integer t

-- the number of patches of a tree whose root is a Sparse; 0, which nothing relies on, of any other
abbrev pub patch_count : Tree → ℕ
patch_count (sparse len offset indices values fill) = length (rows indices)
patch_count (sparse_chunked len offset indices values chunks fill) = length (rows indices)
patch_count _ = 0

-- the number of rows without a patch
abbrev pub unpatched : PlainPatches → ℕ
unpatched p = p.array_len - length (rows p.values)

-- a value, unless there is no row for it
abbrev pub unless_none : ℕ → PlainValue → List PlainValue
unless_none n v = if n == 0 then [] else v ∷ []

-- each value in the rows, once a patch and once for all rows without one
abbrev pub row_values : PlainPatches → PlainScalar → List PlainValue
row_values p fill = rows p.values ++ unless_none (unpatched p) fill.value

-- two values where both are there
abbrev pub both : Option PlainValue → Option PlainValue → Option (PlainValue × PlainValue)
both (Some v) (Some w) = Some (v, w)
both _ _ = None

-- the least and the greatest valid value, None without one
abbrev pub extremes : List PlainValue → Option (PlainValue × PlainValue)
extremes vs = both (least (valid_values vs)) (greatest (valid_values vs))

-- two extremes with a valid value more
abbrev pub grown : Option (PlainValue × PlainValue) → PlainValue → Option (PlainValue × PlainValue)
grown None v = Some (v, v)
grown (Some e) v = Some (ord_min value_cmp e.0 v, ord_max value_cmp e.1 v)

-- extremes with a value more, which may be null
abbrev pub widened : Option (PlainValue × PlainValue) → PlainValue → Option (PlainValue × PlainValue)
widened e v = if is_null v then e else grown e v
