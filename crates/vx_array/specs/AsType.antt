-- Integers as a column of a type.
use Rattle.vx_base.specs.PlainType.{PlainType}
use Rattle.vx_base.specs.PlainType as types
use Rattle.vx_model.specs.Tree.{Tree, timestamp}

-- under a Timestamp node of the type's kind, or as they are where the type isn't one of timestamps
abbrev pub as_type : PlainType → Tree → Tree
as_type (types.timestamp k n) integers = timestamp integers k
as_type _ integers = integers
