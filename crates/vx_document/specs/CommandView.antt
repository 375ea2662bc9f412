-- A command as plain data: its types and values as what they stand for.
use Rattle.serde_json.specs.View.{view}
use Rattle.vx_base.specs.TypeOf.{type_of}
use Rattle.vx_document.specs.declared.document.commands.Command.{Command}
use Rattle.vx_document.specs.declared.document.commands.Command.TheVariants.{Slice, Filter, Mask, Take, Cast, FillNull, Compare, Between, Like, Not, IsConstant, MinMax, NullCount, Sum, Row, Rows}
use Rattle.vx_document.specs.Commands.{PlainCommand, slice, filter, mask, take, cast, fill_null, compare, between, like, not, is_constant, min_max, null_count, sum, row, rows}

-- the command that is held
abbrev pub command_view : Command → PlainCommand
command_view (Slice start stop) = slice start stop
command_view (Filter bits) = filter bits
command_view (Mask bits) = mask bits
command_view (Take indices) = take indices.items
command_view (Cast t) = cast (type_of t)
command_view (FillNull v) = fill_null (view v)
command_view (Compare operator v) = compare operator (view v)
command_view (Between lower upper options) = between (view lower) (view upper) options
command_view (Like pattern options) = like (view pattern) options
command_view Not = not
command_view IsConstant = is_constant
command_view MinMax = min_max
command_view NullCount = null_count
command_view Sum = sum
command_view (Row index) = row index
command_view Rows = rows
