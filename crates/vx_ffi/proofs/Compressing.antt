-- What the compressor answers is what is due to the caller.
use Rattle.std.proofs.Common.{◌≡◌, ◌∙◌, sym, ap, inl, inr, Option, Some, None, Result, Ok, Err}
use Rattle.vx_base.specs.Answers.{Decided}
use Rattle.vx_base.specs.declared.error.VortexError.{VortexError}
use Rattle.vx_buffers.specs.declared.refusal.Refusal.{Refusal}
use Rattle.vx_buffers.specs.Answered.{refusal_of, unless_refused}
use Rattle.vx_ffi.specs.declared.failure.Failure.{Failure}
use Rattle.vx_ffi.specs.declared.failure.Failure.TheVariants.{Refused}
use Rattle.vx_ffi.specs.Outcomes.{Settled, raised}

-- a refusal as an export's
abbrev failed : (A : Type 0) → Refusal → Result A Failure
failed A why = Err (Refused why)

-- what is made
pub settled_made : {A : Type 0} (r : Option VortexError) (due : A) (a : A) → Decided r (λ made. made ≡ due) (Ok a) → Settled (raised (unless_refused r due)) (Ok a)
settled_made None due a h = ap (λ x. Ok x) (sym h)
settled_made (Some e) due a h = absurd h

-- what is refused
pub settled_refused : {A : Type 0} (r : Option VortexError) (due : A) (why : VortexError) (told : Refusal) → told ≡ refusal_of why → Decided r (λ made. made ≡ due) (Err why) → Settled (raised (unless_refused r due)) (failed A told)
settled_refused None due why told is h = inl (ap (λ e. Refused e) (is ∙ ap refusal_of h))
settled_refused {A} (Some e) due why told is h = inr (ap (failed A) (ap refusal_of (sym h) ∙ sym is))
