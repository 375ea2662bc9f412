-- What a call answers that sees some refusals before it takes memory, and others only afterwards.
use Rattle.std.specs.Prelude.{◌≡◌, ◌⊎◌, Option, Some, None, Result, Ok, Err}
use Rattle.vx_base.specs.declared.error.VortexError.{VortexError}
use Rattle.vx_base.specs.declared.error.VortexError.TheVariants.{NoMemory}

-- With a refusal that is seen first, exactly its Err. Else Ok of something with P, only where nothing is refused later either; the
-- Err of a later refusal; or NoMemory.
abbrev pub Settled : {A : Type 0} → Option VortexError → Option VortexError → (A → Type 0) → Result A VortexError → Type 0
Settled None later P (Ok a) = (later ≡ None) × P a
Settled None later P (Err e) = (e ≡ NoMemory) ⊎ (later ≡ Some e)
Settled (Some first) later P (Ok a) = ⊥
Settled (Some first) later P (Err e) = e ≡ first
