-- Why a first step is refused is why the whole is.
use Rattle.std.proofs.Common.{◌≡◌, sym, ap, subst, inl, inr, Result, Ok, Err}
use Rattle.vx_buffers.specs.declared.refusal.Refusal.{Refusal}
use Rattle.vx_buffers.specs.Answered.{Answered, followed_by}

-- a refusal, of a call that answers values of this type
abbrev failed : (B : Type 0) → Refusal → Result B Refusal
failed B why = Err why

-- a refusal of the first step
pub refused_before : {A B : Type 0} (due : Result A Refusal) (next : A → Result B Refusal) (why : Refusal) → Answered due (Err why) → Answered (followed_by due next) (failed B why)
refused_before due next why (inl none) = inl none
refused_before due next why (inr is) = inr (ap (λ d. followed_by d next) is)

-- an answer of the first step, and then what the second one answers
pub answered_behind : {A B : Type 0} (due : Result A Refusal) (next : A → Result B Refusal) (a : A) (result : Result B Refusal) → Answered due (Ok a) → Answered (next a) result → Answered (followed_by due next) result
answered_behind due next a result is h = subst (λ d. Answered (followed_by d next) result) (sym is) h

-- what is due is answered
pub answered_exactly : {A : Type 0} (due result : Result A Refusal) → result ≡ due → Answered due result
answered_exactly due (Ok a) is = sym is
answered_exactly due (Err why) is = inr (sym is)

pub ruleset passing = (refused_before, answered_behind, answered_exactly)
