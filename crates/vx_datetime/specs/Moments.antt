-- A timestamp by its parts, which rows in parts are compared with, and rows in parts as lists of whole numbers.
use Rattle.std.specs.Prelude.{◌≡◌, ◌&&◌, ℕ, ℤ, pos, Bool, IsTrue, if◌then◌else◌, List, map, slice_index_or}
use Rattle.vx_base.specs.PlainType.{is_integer}
use Rattle.vx_base.specs.PlainValue.{whole_or_zero}
use Rattle.vx_datetime.specs.declared.kernels.moments.Moment.{Moment}
use Rattle.vx_datetime.specs.declared.kernels.part_rows.DecodedParts.{DecodedParts}
use Rattle.vx_datetime.specs.declared.kernels.part_rows.PartRows.{PartRows}
use Rattle.vx_datetime.specs.declared.kernels.part_rows.PlainPart.{PlainPart}
use Rattle.vx_datetime.specs.declared.kernels.part_rows.PlainPart.TheVariants.{Lent, Decoded}
use Rattle.vx_model.specs.Column.{column_of}
use Rattle.vx_model.specs.Plain.{IsPlain, validity}
use Rattle.vx_model.specs.Rows.{rows}
use Rattle.vx_model.specs.Tree.{Tree}
use Rattle.vx_model.specs.TreeType.{tree_type}
use Rattle.vx_rules.specs.declared.options.BetweenOptions.{BetweenOptions}
use Rattle.vx_rules.specs.declared.options.CompareOperator.{CompareOperator}
use Rattle.vx_rules.specs.declared.options.CompareOperator.TheVariants as ops
use Rattle.vx_rules.specs.Comparisons.{bound_operator, holds}
use Rattle.vx_time.specs.CanonicalParts.{parts_cmp}
use Rattle.vx_time.specs.declared.parts.TimestampParts.{TimestampParts}
use Rattle.vx_time.specs.PartsOf.{parts}
use Rattle.vx_values.specs.IntsOf.{wholes_of}

-- the parts of a moment
abbrev pub moment_parts : Moment → TimestampParts
moment_parts m = parts m.days m.seconds m.subseconds

-- the parts in row i of three lists
abbrev pub parts_at : List ℤ → List ℤ → List ℤ → ℕ → TimestampParts
parts_at days seconds subseconds i = parts (slice_index_or days i (pos 0)) (slice_index_or seconds i (pos 0)) (slice_index_or subseconds i (pos 0))

-- the parts in row i
abbrev pub row_parts : PartRows → ℕ → TimestampParts
row_parts r i = parts_at (wholes_of r.days.now) (wholes_of r.seconds.now) (wholes_of r.subseconds.now) i

-- the operator between what is within a bound and the lower bound
abbrev pub floor_operator : Bool → CompareOperator
floor_operator strict = if strict then ops.Gt else ops.Gte

-- whether parts lie between two others, by the lexicographic order
abbrev pub lie_within : BetweenOptions → TimestampParts → TimestampParts → TimestampParts → Bool
lie_within options p low high = holds (bound_operator options.lower_strict) (parts_cmp low p) && holds (bound_operator options.upper_strict) (parts_cmp p high)

-- a plain tree of another's column
pub record IsDecoded (tree read : Tree) : Type 0 where
  pub plain : IsPlain read
  pub same : column_of read ≡ column_of tree

-- the tree that stands for a part
abbrev pub part_tree : PlainPart → Tree
part_tree (Lent tree) = tree.now
part_tree (Decoded tree) = tree

-- the plain trees of three columns
pub record AreDecoded (d s u : Tree) (read : DecodedParts) : Type 0 where
  pub days : IsDecoded d (part_tree read.days)
  pub seconds : IsDecoded s (part_tree read.seconds)
  pub subseconds : IsDecoded u (part_tree read.subseconds)

-- a plain column of whole numbers
pub record IsReadable (tree : Tree) : Type 0 where
  pub plain : IsPlain tree
  pub integers : IsTrue (is_integer (tree_type tree))

-- three of them
pub record AreReadable (read : DecodedParts) : Type 0 where
  pub days : IsReadable (part_tree read.days)
  pub seconds : IsReadable (part_tree read.seconds)
  pub subseconds : IsReadable (part_tree read.subseconds)

-- what the rows of three columns are: whole numbers, 0 beneath nulls, and the validity of the days
pub record ArePartRows (d s u : Tree) (r : PartRows) : Type 0 where
  pub days : wholes_of r.days.now ≡ map whole_or_zero (rows d)
  pub valid : r.valid.now ≡ validity (rows d)
  pub seconds : wholes_of r.seconds.now ≡ map whole_or_zero (rows s)
  pub subseconds : wholes_of r.subseconds.now ≡ map whole_or_zero (rows u)
