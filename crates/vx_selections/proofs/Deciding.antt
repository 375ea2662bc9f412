-- Calls that answer where indices are in bounds, and else refuse.
use Rattle.std.proofs.Common.{◌≡◌, Bool, true, false, cond, None, refl, ◌∙◌}
use Rattle.std.specs.Prelude.{Result, Err}
use Rattle.vx_base.specs.declared.error.VortexError.{VortexError}
use Rattle.vx_base.specs.declared.error.VortexError.TheVariants.{NoMemory, OutOfBounds}
use Rattle.vx_base.specs.Answers.{Decided, OrMemory, unless}

module _ {A : Type 0} (P : A → Type 0) where
  -- in bounds: an answer, or NoMemory
  pub decided-made : (b : Bool) (r : Result A VortexError) → b ≡ true → OrMemory r P → Decided (unless b OutOfBounds None) P r
  decided-made true r e h = h
  decided-made false r e h = absurd cc

  -- out of bounds
  pub decided-outside : (b : Bool) → b ≡ false → Decided (unless b OutOfBounds None) P (Err OutOfBounds)
  decided-outside true e = absurd cc
  decided-outside false e = refl

  -- in want of memory the refusal alone is an answer
  pub decided-wanting : (b : Bool) (e f : VortexError) → e ≡ NoMemory → f ≡ cond b e OutOfBounds → Decided (unless b OutOfBounds None) P (Err f)
  decided-wanting true e f wanting is = is ∙ wanting
  decided-wanting false e f wanting is = is
