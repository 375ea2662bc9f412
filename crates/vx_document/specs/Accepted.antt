-- Trees over other children of the same columns: which columns are decoded as a whole, and what a constructor answers.
use Rattle.std.specs.Prelude.{◌≡◌, ◌&&◌, not, Bool, Result, Ok, Err}
use Rattle.vx_base.specs.declared.error.Refused.{Refused}
use Rattle.vx_base.specs.declared.error.VortexError.{VortexError}
use Rattle.vx_base.specs.PlainType.{PlainType, is_flat, is_bytes}

-- whether columns of a type are decoded as a whole: of a flat type, but not of texts and binaries
abbrev pub is_decoded : PlainType → Bool
is_decoded t = is_flat t && not (is_bytes t)

-- the same answer without the inputs that a refusal hands back
abbrev pub IsAccepted : {A I : Type 0} → Result A (Refused I) → Result A VortexError → Type 0
IsAccepted (Ok a) result = result ≡ Ok a
IsAccepted (Err refused) result = result ≡ Err refused.error
