-- A list of operations on a column, and a query of what they leave: each step answers or refuses by its own rule.
use Rattle.std.specs.Prelude.{ℕ, Bool, List, [], ◌∷◌, length, replicate, Option, Result, Ok}
use Rattle.vx_base.specs.declared.error.VortexError.{VortexError}
use Rattle.vx_base.specs.PlainScalar.{PlainScalar}
use Rattle.vx_base.specs.PlainType.{PlainType}
use Rattle.vx_model.specs.Column.{Column, column}
use Rattle.vx_rules.specs.declared.options.BetweenOptions.{BetweenOptions}
use Rattle.vx_rules.specs.declared.options.CompareOperator.{CompareOperator}
use Rattle.vx_rules.specs.declared.options.LikeOptions.{LikeOptions}
use Rattle.vx_rules.specs.Aggregates as aggregates
use Rattle.vx_rules.specs.Comparisons as comparisons
use Rattle.vx_rules.specs.Conversions as conversions
use Rattle.vx_rules.specs.Outcomes.{outcome, and_then}
use Rattle.vx_rules.specs.Patterns as patterns
use Rattle.vx_rules.specs.Selections as selections

-- an operation, which gives another column
pub data PlainOp : Type 0 where
  slice : ℕ → ℕ → PlainOp
  filter : List Bool → PlainOp
  take : Column → PlainOp
  mask : List Bool → PlainOp
  cast : PlainType → PlainOp
  fill_null : PlainScalar → PlainOp

-- a query. A scalar in it stands for a column of as many rows as are asked about, all equal to it
pub data PlainQuery : Type 0 where
  compare : CompareOperator → PlainScalar → PlainQuery
  between : PlainScalar → PlainScalar → BetweenOptions → PlainQuery
  like : PlainScalar → LikeOptions → PlainQuery
  negate : PlainQuery
  is_constant : PlainQuery
  min_max : PlainQuery
  null_count : PlainQuery
  sum : PlainQuery
  row : ℕ → PlainQuery
  rows : PlainQuery

-- the answer to a query: a column, one scalar, a least and a greatest, a truth value or a count
pub data PlainAnswer : Type 0 where
  of_column : Column → PlainAnswer
  one : PlainScalar → PlainAnswer
  pair : Option (PlainScalar × PlainScalar) → PlainAnswer
  yes : Bool → PlainAnswer
  count : ℕ → PlainAnswer

-- what an operation makes of a column
abbrev pub applied : PlainOp → Column → Result Column VortexError
applied (slice start end) c = outcome (selections.slice_refusal c start end) (selections.sliced c start end)
applied (filter keep) c = outcome (selections.mask_refusal c keep) (selections.filtered c keep)
applied (take indices) c = outcome (selections.take_refusal c indices) (selections.taken c indices)
applied (mask keep) c = outcome (selections.mask_refusal c keep) (selections.masked c keep)
applied (cast t) c = outcome (conversions.cast_refusal c t) (conversions.casted c t)
applied (fill_null fill) c = outcome (conversions.fill_null_refusal c fill) (conversions.null_filled c fill)

-- what operations make of a column, one after another, or the first refusal
abbrev pub all_applied : List PlainOp → Column → Result Column VortexError
all_applied [] c = Ok c
all_applied (op ∷ ops) c = and_then (all_applied ops) (applied op c)

-- a scalar, in as many rows as a column has
abbrev pub repeated : PlainScalar → Column → Column
repeated s c = column s.dtype (replicate (length c.values) s.value)

-- what a query answers of a column
abbrev pub answered : PlainQuery → Column → Result PlainAnswer VortexError
answered (compare op s) c = let d = repeated s c in outcome (comparisons.compare_refusal c d) (of_column (comparisons.comparison op c d))
answered (between low high options) c =
    let l = repeated low c in
    let h = repeated high c in
    outcome (comparisons.between_refusal c l h) (of_column (comparisons.between options c l h))
answered (like pattern options) c = let p = repeated pattern c in outcome (patterns.like_refusal c p) (of_column (patterns.like options c p))
answered negate c = outcome (comparisons.not_refusal c) (of_column (comparisons.negation c))
answered is_constant c = Ok (yes (aggregates.is_constant c))
answered min_max c = outcome (aggregates.min_max_refusal c) (pair (aggregates.min_max c))
answered null_count c = Ok (count (aggregates.null_count c))
answered sum c = outcome (aggregates.sum_refusal c) (one (aggregates.sum c))
answered (row i) c = outcome (selections.row_refusal c i) (one (selections.row_scalar c i))
answered rows c = Ok (of_column c)

-- what a query answers of what operations leave of a column, or the first refusal
abbrev pub all_answered : List PlainOp → PlainQuery → Column → Result PlainAnswer VortexError
all_answered ops query c = and_then (answered query) (all_applied ops c)
