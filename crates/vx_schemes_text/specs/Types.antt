-- The types of binaries.
use Rattle.std.specs.Prelude.{Bool, true, false}
use Rattle.vx_base.specs.PlainType.{PlainType, binary}

-- whether it is a binary type
abbrev pub is_binary : PlainType → Bool
is_binary (binary n) = true
is_binary _ = false
