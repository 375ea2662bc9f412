-- The words by which clauses state what a reader answers.
use Rattle.std.specs.Prelude.{◌≡◌, Option, Some, None, Result, Ok, Err}
use Rattle.vx_codec.specs.declared.error.ReadError.{ReadError}
use Rattle.vx_codec.specs.declared.error.ReadError.TheVariants.{NoMemory, Malformed}

-- Malformed exactly where nothing is spelled there; NoMemory has no cause
abbrev pub Fails : {Y : Type 0} → ReadError → Option Y → Type 0
Fails NoMemory parsed = Unit {0}
Fails Malformed parsed = parsed ≡ None

-- Ok of what is parsed, seen by `view`; Malformed exactly where that is None; or NoMemory
abbrev pub Reads : {X Y : Type 0} → (X → Y) → Result X ReadError → Option Y → Type 0
Reads view (Ok x) parsed = parsed ≡ Some (view x)
Reads view (Err e) parsed = Fails e parsed
