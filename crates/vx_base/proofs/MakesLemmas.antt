-- What a caller of a constructor learns.
use Rattle.std.proofs.Common.{◌≡◌, Option, Some, None}
use Rattle.std.specs.Prelude.{Ok, Err}
use Rattle.vx_base.specs.declared.error.VortexError.{VortexError}
use Rattle.vx_base.specs.declared.error.Refused.{Refused}
use Rattle.vx_base.specs.declared.error.VortexError.TheVariants.{NoMemory}
use Rattle.vx_base.specs.Answers.{Makes, MakesSurely}

pub MakesSurely_ok : {T U : Type 0} (r : Option VortexError) (made : U) (inputs : T) (a : U) → MakesSurely r made inputs (Ok a) → a ≡ made
MakesSurely_ok None made inputs a h = h
MakesSurely_ok (Some e) made inputs a h = absurd h

-- without a refusal, a constructor that allocates nothing makes its value
pub MakesSurely_err : {T U : Type 0} (r : Option VortexError) (made : U) (inputs : T) (f : Refused T) → r ≡ None → MakesSurely r made inputs (Err f) → ⊥
MakesSurely_err None made inputs f e h = h
MakesSurely_err (Some x) made inputs f e h = absurd cc

-- without a refusal, a constructor that allocates makes its value or answers NoMemory
pub Makes_ok : {T U : Type 0} (r : Option VortexError) (made : U) (inputs : T) (a : U) → Makes r made inputs (Ok a) → a ≡ made
Makes_ok None made inputs a h = h
Makes_ok (Some e) made inputs a h = absurd h

pub Makes_err : {T U : Type 0} (r : Option VortexError) (made : U) (inputs : T) (f : Refused T) → r ≡ None → Makes r made inputs (Err f) → f.error ≡ NoMemory
Makes_err None made inputs f e h = h.0
Makes_err (Some x) made inputs f e h = absurd cc
