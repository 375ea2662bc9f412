-- What readers of metadata answer.
use Rattle.std.specs.Prelude.{◌≡◌, Result, Ok, Err}
use Rattle.vx_base.specs.declared.error.VortexError.{VortexError}
use Rattle.vx_base.specs.declared.error.VortexError.TheVariants.{BadMetadata}

-- Ok of the one thing with P; BadMetadata exactly where nothing has it
abbrev pub ReadsTheOne : {A : Type 0} → (A → Type 0) → Result A VortexError → Type 0
ReadsTheOne P (Ok a) = P a × ((b : _) → P b → b ≡ a)
ReadsTheOne P (Err e) = (e ≡ BadMetadata) × ((b : _) → P b → ⊥)
