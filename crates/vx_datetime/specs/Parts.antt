-- Arrays of timestamps in parts: the node over parts and over those of a column, the parts in it, and why parts aren't valid.
use Rattle.std.specs.Prelude.{◌&&◌, ◌==◌, ℕ, length, Option, Some, None}
use Rattle.vx_base.specs.Answers.{unless}
use Rattle.vx_base.specs.declared.error.VortexError.{VortexError}
use Rattle.vx_base.specs.declared.error.VortexError.TheVariants.{LengthMismatch, MismatchedTypes}
use Rattle.vx_base.specs.PlainType.{PlainType, nullability_of}
use Rattle.vx_base.specs.PlainType as types
use Rattle.vx_model.specs.Column.{Column}
use Rattle.vx_model.specs.Plain.{plain}
use Rattle.vx_model.specs.Rows.{rows}
use Rattle.vx_model.specs.Tree.{Tree, datetime_parts}
use Rattle.vx_temporal.specs.Joined.{are_parts_types}
use Rattle.vx_temporal.specs.Split.{days_of, divisor_in, others_of, subseconds_tree}
use Rattle.vx_temporal.specs.SplitRows.{second_in}

-- the node over the parts of timestamps of a type; the days, which nothing relies on, of any other type
abbrev pub parts_tree : PlainType → Tree → Tree → Tree → Tree
parts_tree (types.timestamp k n) days seconds subseconds = datetime_parts k n days seconds subseconds
parts_tree _ days seconds subseconds = days

-- the node over the parts that a column is split into
abbrev pub split_tree : Column → Tree
split_tree c =
    let d = divisor_in c.dtype in
    parts_tree c.dtype (plain (days_of d (nullability_of c.dtype) c.values)) (plain (others_of (second_in d) c.values)) (subseconds_tree d c.values)

-- the parts in a tree whose root is DateTimeParts
abbrev pub parts_in : Tree → Option (Tree × Tree × Tree)
parts_in (datetime_parts k n days seconds subseconds) = Some (days, seconds, subseconds)
parts_in t = None

-- why three columns aren't the parts of timestamps of a type and `len` rows: types, then lengths
abbrev pub data_refusal : PlainType → Tree → Tree → Tree → ℕ → Option VortexError
data_refusal (types.timestamp k n) days seconds subseconds len =
    unless (are_parts_types n days seconds subseconds) MismatchedTypes
    (unless (length (rows days) == len && (length (rows seconds) == len && length (rows subseconds) == len)) LengthMismatch None)
data_refusal _ days seconds subseconds len = Some MismatchedTypes
