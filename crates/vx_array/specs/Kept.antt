-- Types whose plain trees have validity bits.
use Rattle.std.specs.Prelude.{Bool, true, false}
use Rattle.vx_base.specs.PlainType.{PlainType}
use Rattle.vx_base.specs.PlainType as types

-- all but the type of nulls alone, whose rows are null without them
abbrev pub keeps_validity : PlainType → Bool
keeps_validity types.null_type = false
keeps_validity _ = true
