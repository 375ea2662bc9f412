-- The commands of a document: what becomes of its column, and what is asked of it. They are read here, and run by none.
use Rattle.std.specs.Prelude.{ℕ, List, [], Bool, if◌then◌else◌, Option, Some, None, option_map, codes}
use Rattle.std.specs.Str.{bytes_eq}
use Rattle.serde_json.specs.Data.{Data, string, array, Items, no_items, item}
use Rattle.serde_json.specs.Find.{as_array}
use Rattle.vx_base.specs.PlainType.{PlainType}
use Rattle.vx_rules.specs.declared.options.CompareOperator.{CompareOperator}
use Rattle.vx_rules.specs.declared.options.BetweenOptions.{BetweenOptions}
use Rattle.vx_rules.specs.declared.options.LikeOptions.{LikeOptions}
use Rattle.vx_document.specs.Arguments.{one, two, one_or_two, four, operand_of, bits_in, indices_in, operator_of, bounds_of, negation_in}
use Rattle.vx_document.specs.Reading.{◌>>=◌, all_by}
use Rattle.vx_document.specs.Types.{type_read}
use Rattle.vx_document.specs.Words.{word_of}

-- A command: six operations, which replace the column, then ten queries. The values and patterns are JSON without floats: which
-- rows they are is a question of the column's type where the command runs.
pub data PlainCommand : Type 0 where
  slice : ℕ → ℕ → PlainCommand
  filter : List Bool → PlainCommand
  mask : List Bool → PlainCommand
  take : List (Option ℕ) → PlainCommand
  cast : PlainType → PlainCommand
  fill_null : Data → PlainCommand
  compare : CompareOperator → Data → PlainCommand
  between : Data → Data → BetweenOptions → PlainCommand
  like : Data → LikeOptions → PlainCommand
  not : PlainCommand
  is_constant : PlainCommand
  min_max : PlainCommand
  null_count : PlainCommand
  sum : PlainCommand
  row : ℕ → PlainCommand
  rows : PlainCommand

-- ---- the arguments of each

-- the first row and the one behind the last
abbrev pub slice_in : Items → Option PlainCommand
slice_in arguments = do
  p ← two arguments
  start ← word_of p.0
  stop ← word_of p.1
  Some (slice start stop)

-- whether each row stays
abbrev pub filter_in : Items → Option PlainCommand
filter_in arguments = one arguments >>= (λ d. option_map filter (bits_in d))

-- whether each row stays, the others being null
abbrev pub mask_in : Items → Option PlainCommand
mask_in arguments = one arguments >>= (λ d. option_map mask (bits_in d))

-- the indices of the rows
abbrev pub take_in : Items → Option PlainCommand
take_in arguments = one arguments >>= (λ d. option_map take (indices_in d))

-- a type
abbrev pub cast_in : Items → Option PlainCommand
cast_in arguments = one arguments >>= (λ d. option_map cast (type_read d))

-- the value in place of nulls
abbrev pub fill_null_in : Items → Option PlainCommand
fill_null_in arguments = one arguments >>= (λ d. option_map fill_null (operand_of d))

-- an operator and the value behind it
abbrev pub compare_in : Items → Option PlainCommand
compare_in arguments = do
  p ← two arguments
  operator ← operator_of p.0
  value ← operand_of p.1
  Some (compare operator value)

-- the lower bound and the upper one, and whether each is strict
abbrev pub between_in : Items → Option PlainCommand
between_in arguments = do
  p ← four arguments
  lower ← operand_of p.0.0
  upper ← operand_of p.0.1
  options ← bounds_of p.1
  Some (between lower upper options)

-- a pattern, and perhaps whether it is negated
abbrev pub like_in : Items → Option PlainCommand
like_in arguments = do
  p ← one_or_two arguments
  pattern ← operand_of p.0
  options ← negation_in p.1
  Some (like pattern options)

-- the index of the row
abbrev pub row_in : Items → Option PlainCommand
row_in arguments = one arguments >>= (λ d. option_map row (word_of d))

-- a command without arguments
abbrev pub bare : PlainCommand → Items → Option PlainCommand
bare command no_items = Some command
bare command (item a more) = None

-- ---- by their names

-- a query
unfoldable pub query_named : List ℕ → Items → Option PlainCommand
query_named name arguments =
    if bytes_eq name (codes "compare") then compare_in arguments
    else (if bytes_eq name (codes "between") then between_in arguments
    else (if bytes_eq name (codes "like") then like_in arguments
    else (if bytes_eq name (codes "not") then bare not arguments
    else (if bytes_eq name (codes "is_constant") then bare is_constant arguments
    else (if bytes_eq name (codes "min_max") then bare min_max arguments
    else (if bytes_eq name (codes "null_count") then bare null_count arguments
    else (if bytes_eq name (codes "sum") then bare sum arguments
    else (if bytes_eq name (codes "row") then row_in arguments
    else (if bytes_eq name (codes "rows") then bare rows arguments else None)))))))))

-- an operation, else a query
unfoldable pub command_named : List ℕ → Items → Option PlainCommand
command_named name arguments =
    if bytes_eq name (codes "slice") then slice_in arguments
    else (if bytes_eq name (codes "filter") then filter_in arguments
    else (if bytes_eq name (codes "mask") then mask_in arguments
    else (if bytes_eq name (codes "take") then take_in arguments
    else (if bytes_eq name (codes "cast") then cast_in arguments
    else (if bytes_eq name (codes "fill_null") then fill_null_in arguments else query_named name arguments)))))

-- a list of a name and the arguments
abbrev pub command_of : Data → Option PlainCommand
command_of (array (item (string name) arguments)) = command_named name arguments
command_of _ = None

-- a list of commands; absent, there is none
abbrev pub commands_in : Option Data → Option (List PlainCommand)
commands_in None = Some []
commands_in (Some d) = as_array d >>= all_by command_of
