-- What callers of constructors learn.
use Rattle.std.proofs.Common.{◌≡◌, Option, Some, None}
use Rattle.std.specs.Prelude.{Err}
use Rattle.vx_base.specs.Answers.{Makes}
use Rattle.vx_base.specs.declared.error.Refused.{Refused}
use Rattle.vx_base.specs.declared.error.VortexError.{VortexError}
use Rattle.vx_base.specs.declared.error.VortexError.TheVariants.{NoMemory}

-- where nothing is refused, a constructor that takes memory fails for want of it alone
pub Makes_err : {T U : Type 0} (r : Option VortexError) (made : U) (inputs : T) (f : Refused T) → r ≡ None → Makes r made inputs (Err f) → f.error ≡ NoMemory
Makes_err None made inputs f e h = h.0
Makes_err (Some x) made inputs f e h = absurd cc
