-- What a constructor of the library makes or refuses is what is due to the caller.
use Rattle.std.proofs.Common.{◌≡◌, ◌∙◌, sym, ap, inl, inr, Option, Some, None, Result, Ok, Err}
use Rattle.vx_base.specs.Answers.{Makes}
use Rattle.vx_base.specs.declared.error.Refused.{Refused}
use Rattle.vx_base.specs.declared.error.VortexError.{VortexError}
use Rattle.vx_buffers.specs.declared.refusal.Refusal.{Refusal}
use Rattle.vx_buffers.specs.Answered.{Answered, refusal_of, unless_refused}

-- what is made
pub made_due : {A T : Type 0} (r : Option VortexError) (due : A) (inputs : T) (a : A) → Makes r due inputs (Ok a) → unless_refused r due ≡ Ok a
made_due None due inputs a h = ap (λ x. Ok x) (sym h)
made_due (Some e) due inputs a h = absurd h

-- a refusal of the caller's columns
abbrev failed : (A : Type 0) → VortexError → Result A Refusal
failed A e = Err (refusal_of e)

-- what is refused
pub refused_due : {A T : Type 0} (r : Option VortexError) (due : A) (inputs : T) (f : Refused T) (why : Refusal) → why ≡ refusal_of f.error → Makes r due inputs (Err f) → Answered (unless_refused r due) (Err why)
refused_due None due inputs f why is h = inl (is ∙ ap refusal_of h.0)
refused_due {A} (Some e) due inputs f why is h = inr (ap (failed A) (sym h.0) ∙ ap (λ x. Err x) (sym is))
