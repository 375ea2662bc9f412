-- Three columns as the parts of timestamps: why they are refused, and the rows that they join to.
use Rattle.std.specs.Prelude.{◌&&◌, ◌==◌, ℤ, Bool, List, length, Option, Some, None}
use Rattle.vx_base.specs.Answers.{unless}
use Rattle.vx_base.specs.declared.dtype.Nullability.{Nullability}
use Rattle.vx_base.specs.declared.error.VortexError.{VortexError}
use Rattle.vx_base.specs.declared.error.VortexError.TheVariants.{LengthMismatch, MismatchedTypes}
use Rattle.vx_base.specs.PlainType.{PlainType, integer_of, same_type}
use Rattle.vx_base.specs.PlainType as types
use Rattle.vx_base.specs.PlainValue.{PlainValue}
use Rattle.vx_model.specs.Refusals.{datetime_parts_refusal}
use Rattle.vx_model.specs.Rows.{rows, below, combined_at}
use Rattle.vx_model.specs.Tree.{Tree}
use Rattle.vx_model.specs.TreeType.{tree_type}
use Rattle.vx_model.specs.WellFormed.{is_whole_type}

-- row i: days * (86,400 * d) + seconds * d + subseconds, null where the day is; d units make a second
abbrev pub joined : ℤ → Tree → Tree → Tree → List PlainValue
joined d days seconds subseconds = below (combined_at d (rows days) (rows seconds) (rows subseconds)) (length (rows days))

-- why three columns aren't the parts of timestamps of a type: as the node over them is refused
abbrev pub parts_refusal : PlainType → Tree → Tree → Tree → Option VortexError
parts_refusal (types.timestamp k n) days seconds subseconds = datetime_parts_refusal k n days seconds subseconds
parts_refusal _ days seconds subseconds = Some MismatchedTypes

-- integers: days of a nullability, the others non-nullable
abbrev pub are_parts_types : Nullability → Tree → Tree → Tree → Bool
are_parts_types n days seconds subseconds =
    same_type (tree_type days) (types.primitive (integer_of (tree_type days)) n) && (is_whole_type (tree_type seconds) && is_whole_type (tree_type subseconds))

-- the first tests, which look at no row: types, then lengths
abbrev pub shape_refusal : PlainType → Tree → Tree → Tree → Option VortexError
shape_refusal (types.timestamp k n) days seconds subseconds =
    unless (are_parts_types n days seconds subseconds) MismatchedTypes
    (unless (length (rows seconds) == length (rows days) && length (rows subseconds) == length (rows days)) LengthMismatch None)
shape_refusal _ days seconds subseconds = Some MismatchedTypes
