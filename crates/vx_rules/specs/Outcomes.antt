-- What a call answers of which a rule gives an answer or a refusal.
use Rattle.std.specs.Prelude.{◌≡◌, ◌⊎◌, Option, None, Some, Result, Ok, Err}
use Rattle.vx_base.specs.declared.error.VortexError.{VortexError}
use Rattle.vx_base.specs.declared.error.VortexError.TheVariants.{NoMemory}

-- the answer where there is no refusal, else the refusal
abbrev pub outcome : {A : Type 0} → Option VortexError → A → Result A VortexError
outcome None answer = Ok answer
outcome (Some e) answer = Err e

-- the next step of what is left where nothing was refused
abbrev pub and_then : {A B : Type 0} → (A → Result B VortexError) → Result A VortexError → Result B VortexError
and_then next (Ok a) = next a
and_then next (Err e) = Err e

-- A call gives what `Is` the rule's answer, or the rule's refusal. NoMemory may come in place of both: a refusal that depends on
-- the rows is found while they are decoded
abbrev pub Follows : {A B : Type 0} → Result B VortexError → (A → B → Type 0) → Result A VortexError → Type 0
Follows (Ok answer) Is (Ok a) = Is a answer
Follows (Ok answer) Is (Err f) = f ≡ NoMemory
Follows (Err e) Is (Ok a) = ⊥
Follows (Err e) Is (Err f) = (f ≡ NoMemory) ⊎ (f ≡ e)
