-- What the commands of a document print: each is read against the type of the column that it finds, an operation replaces the column,
-- and a query prints a line.
use Rattle.std.specs.Prelude.{ℕ, pos, List, [], ◌∷◌, ◌++◌, map, if◌then◌else◌, Option, Some, None, option_map, Result, Ok, Err, codes, decimal}
use Rattle.serde_json.specs.Data.{Data}
use Rattle.vx_base.specs.declared.dtype.Nullability.{Nullability}
use Rattle.vx_base.specs.declared.dtype.Nullability.TheVariants.{NonNullable, Nullable}
use Rattle.vx_base.specs.declared.error.VortexError.{VortexError}
use Rattle.vx_base.specs.declared.error.VortexError.TheVariants.{MismatchedTypes}
use Rattle.vx_base.specs.declared.ptype.PType.TheVariants.{U64}
use Rattle.vx_base.specs.PlainScalar.{PlainScalar, scalar}
use Rattle.vx_base.specs.PlainType.{PlainType, primitive, utf8, with_nullability}
use Rattle.vx_base.specs.PlainValue.{PlainValue, null, int}
use Rattle.vx_base.specs.TypeText.{value_text, list_text}
use Rattle.vx_model.specs.Column.{Column, column}
use Rattle.vx_document.specs.Commands.{PlainCommand}
use Rattle.vx_document.specs.Commands as commands
use Rattle.vx_document.specs.Reading.{◌>>=◌}
use Rattle.vx_document.specs.RowsOf.{row_of}
use Rattle.vx_rules.specs.Operations.{PlainOp, PlainQuery, PlainAnswer, slice, filter, take, mask, cast, fill_null, compare, between, like, negate, is_constant, min_max, null_count, sum, row, rows, of_column, one, pair, yes, count, applied, answered}
use Rattle.vx_rules.specs.Outcomes.{and_then}

-- ---- a command, by the type of the column

-- what a command is of a column: an operation on it, or a query of it
pub data PlainStep : Type 0 where
  operation : PlainOp → PlainStep
  question : PlainQuery → PlainStep

-- a value of JSON as a row of a type with this nullability
abbrev pub scalar_read : Nullability → PlainType → Data → Option PlainScalar
scalar_read n t d = option_map (scalar (with_nullability t n)) (row_of (with_nullability t n) d)

-- an index of a take
abbrev pub index_row : Option ℕ → PlainValue
index_row None = null
index_row (Some i) = int (pos i)

-- the indices of a take
abbrev pub index_column : List (Option ℕ) → Column
index_column indices = column (primitive U64 Nullable) (map index_row indices)

-- The step that a command is; None where a value in it isn't one of the type. A fill isn't nullable, other values are; a pattern is a
-- text whatever the type is.
abbrev pub step_of : PlainType → PlainCommand → Option PlainStep
step_of t (commands.slice start stop) = Some (operation (slice start stop))
step_of t (commands.filter bits) = Some (operation (filter bits))
step_of t (commands.mask bits) = Some (operation (mask bits))
step_of t (commands.take indices) = Some (operation (take (index_column indices)))
step_of t (commands.cast to) = Some (operation (cast to))
step_of t (commands.fill_null d) = option_map (λ s. operation (fill_null s)) (scalar_read NonNullable t d)
step_of t (commands.compare operator d) = option_map (λ s. question (compare operator s)) (scalar_read Nullable t d)
step_of t (commands.between low high options) = do
  l ← scalar_read Nullable t low
  h ← scalar_read Nullable t high
  Some (question (between l h options))
step_of t (commands.like d options) = option_map (λ s. question (like s options)) (scalar_read Nullable (utf8 Nullable) d)
step_of t commands.not = Some (question negate)
step_of t commands.is_constant = Some (question is_constant)
step_of t commands.min_max = Some (question min_max)
step_of t commands.null_count = Some (question null_count)
step_of t commands.sum = Some (question sum)
step_of t (commands.row i) = Some (question (row i))
step_of t commands.rows = Some (question rows)

-- what is there, else MismatchedTypes
abbrev pub or_mismatched : {A : Type 0} → Option A → Result A VortexError
or_mismatched None = Err MismatchedTypes
or_mismatched (Some a) = Ok a

-- ---- lines

-- a scalar as compact JSON
abbrev pub scalar_text : PlainScalar → List ℕ
scalar_text s = value_text s.dtype s.value

-- a least and a greatest as a list of two
abbrev pub pair_text : Option (PlainScalar × PlainScalar) → List ℕ
pair_text None = codes "null"
pair_text (Some p) = codes "[" ++ scalar_text p.0 ++ codes "," ++ scalar_text p.1 ++ codes "]"

-- an answer as compact JSON: a column as the list of its rows
abbrev pub answer_text : PlainAnswer → List ℕ
answer_text (of_column c) = list_text c.dtype c.values
answer_text (one s) = scalar_text s
answer_text (pair p) = pair_text p
answer_text (yes b) = if b then codes "true" else codes "false"
answer_text (count n) = decimal n

-- an answer, and a line feed
abbrev pub line_of : PlainAnswer → List ℕ
line_of answer = answer_text answer ++ codes "\n"

-- ---- one command after another

-- what is left where nothing was refused
abbrev pub mapped : {A B : Type 0} → (A → B) → Result A VortexError → Result B VortexError
mapped f outcome = and_then (λ a. Ok (f a)) outcome

-- the column that a step leaves, and what it prints: an operation nothing, a query the line of its answer
abbrev pub stepped : Column → PlainStep → Result (Column × List ℕ) VortexError
stepped c (operation op) = mapped (λ d. (d, [])) (applied op c)
stepped c (question query) = mapped (λ answer. (c, line_of answer)) (answered query c)

-- the column that a command leaves, and what it prints; MismatchedTypes where a value in it is not one of the type
abbrev pub commanded : Column → PlainCommand → Result (Column × List ℕ) VortexError
commanded c command = and_then (stepped c) (or_mismatched (step_of c.dtype command))

-- all that commands print, or the first refusal
abbrev pub query_lines : Column → List PlainCommand → Result (List ℕ) VortexError
query_lines c [] = Ok []
query_lines c (command ∷ others) = and_then (λ s. mapped (λ lines. s.1 ++ lines) (query_lines s.0 others)) (commanded c command)
