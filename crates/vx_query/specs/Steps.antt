-- Operations, queries and answers of the code as plain data.
use Rattle.vx_base.specs.TypeOf.{type_of}
use Rattle.vx_model.specs.Column.{column_of}
use Rattle.vx_query.specs.declared.steps.RowAnswer.{RowAnswer}
use Rattle.vx_query.specs.declared.steps.RowAnswer.TheVariants as answers
use Rattle.vx_query.specs.declared.steps.RowOp.{RowOp}
use Rattle.vx_query.specs.declared.steps.RowOp.TheVariants as ops
use Rattle.vx_query.specs.declared.steps.RowQuery.{RowQuery}
use Rattle.vx_query.specs.declared.steps.RowQuery.TheVariants as queries
use Rattle.vx_query.specs.declared.steps.Step.{Step}
use Rattle.vx_query.specs.declared.steps.Step.TheVariants as steps
use Rattle.vx_query.specs.Queries.{PlainStep, operation, question}
use Rattle.vx_rules.specs.Operations.{PlainOp, PlainQuery, PlainAnswer, slice, filter, take, mask, cast, fill_null, compare, between, like, negate, is_constant, min_max, null_count, sum, row, rows, of_column, one, pair, yes, count}

-- an operation
abbrev pub op_of : RowOp → PlainOp
op_of (ops.Slice start end) = slice start end
op_of (ops.Filter keep) = filter keep
op_of (ops.Take indices) = take (column_of indices)
op_of (ops.Mask keep) = mask keep
op_of (ops.Cast t) = cast (type_of t)
op_of (ops.FillNull fill) = fill_null fill

-- a query
abbrev pub query_of : RowQuery → PlainQuery
query_of (queries.Compare operator s) = compare operator s
query_of (queries.Between low high options) = between low high options
query_of (queries.Like pattern options) = like pattern options
query_of queries.Not = negate
query_of queries.IsConstant = is_constant
query_of queries.MinMax = min_max
query_of queries.NullCount = null_count
query_of queries.Sum = sum
query_of (queries.Row i) = row i
query_of queries.Rows = rows

-- an operation or a query
abbrev pub step_view : Step → PlainStep
step_view (steps.Operation op) = operation (op_of op)
step_view (steps.Question query) = question (query_of query)

-- an answer
abbrev pub answer_of : RowAnswer → PlainAnswer
answer_of (answers.Column tree) = of_column (column_of tree)
answer_of (answers.One s) = one s
answer_of (answers.Pair p) = pair p
answer_of (answers.Yes b) = yes b
answer_of (answers.Count n) = count n
