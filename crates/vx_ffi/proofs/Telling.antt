-- What a call tells of what is due, by what its steps answer.
use Rattle.std.proofs.Common.{◌≡◌, ◌∙◌, ℕ, sym, ap, subst, inl, inr, Result, Ok, Err, Option}
use Rattle.vx_buffers.specs.declared.refusal.Refusal.{Refusal}
use Rattle.vx_buffers.specs.Answered.{Answered}
use Rattle.vx_ffi.specs.declared.failure.Failure.{Failure}
use Rattle.vx_ffi.specs.Outcomes.{Holds, Settled, followed_by, raised}
use Rattle.vx_ffi.specs.Statuses.{Told, number_of, refusal_number, status_of}
use Rattle.vx_model.specs.Tree.{Tree}

-- the status of an answer about rows or buffers
abbrev raised_status : {A : Type 0} → Result A Refusal → ℕ
raised_status r = status_of (raised r)

-- an answer is told as done
pub told_done : {A : Type 0} (due : Result A Refusal) (a : A) (status : ℕ) → Answered due (Ok a) → status ≡ 0 → Told (raised due) status
told_done due a status is e = inr (e ∙ sym (ap raised_status is))

-- a refusal is told by its number
pub told_refused : {A : Type 0} (due : Result A Refusal) (why : Refusal) (status : ℕ) → Answered due (Err why) → status ≡ refusal_number why → Told (raised due) status
told_refused due why status (inl none) e = inl (e ∙ ap refusal_number none)
told_refused due why status (inr is) e = inr (e ∙ sym (ap raised_status is))

-- what is told of a step that answers what is due is told of what is due
pub told_settled : {A : Type 0} (due made : Result A Failure) (status : ℕ) → Settled due made → Told made status → Told due status
told_settled due made status h (inl none) = inl none
told_settled due (Ok a) status h (inr is) = inr (is ∙ sym (ap status_of h))
told_settled due (Err why) status (inl none) (inr is) = inl (is ∙ ap number_of none)
told_settled due (Err why) status (inr same) (inr is) = inr (is ∙ sym (ap status_of same))

-- and the tree that such a step answers stands in the handle
pub holds_settled : (due made : Result Tree Failure) (held : Option Tree) → Settled due made → Holds made held → Holds due held
holds_settled due (Ok t) held h is = subst (λ d. Holds d held) (sym h) is
holds_settled due (Err why) held h is = absurd is

-- the status and the tree of two steps, of which the first is about a column that a caller gave
pub told_given : {A B : Type 0} (due given : Result A Refusal) (next : A → Result B Failure) (status : ℕ) → Answered due given → Told (followed_by (raised given) next) status → Told (followed_by (raised due) next) status
told_given due (Ok a) next status is h = subst (λ d. Told (followed_by (raised d) next) status) (sym is) h
told_given due (Err why) next status h (inl none) = inl none
told_given due (Err why) next status (inl none) (inr e) = inl (e ∙ ap refusal_number none)
told_given due (Err why) next status (inr is) (inr e) = inr (e ∙ sym (ap (λ d. status_of (followed_by (raised d) next)) is))

pub holds_given : {A : Type 0} (due given : Result A Refusal) (next : A → Result Tree Failure) (held : Option Tree) → Answered due given → Holds (followed_by (raised given) next) held → Holds (followed_by (raised due) next) held
holds_given due (Ok a) next held is h = subst (λ d. Holds (followed_by (raised d) next) held) (sym is) h
holds_given due (Err why) next held h is = absurd is

pub ruleset telling = (told_done, told_refused, told_settled, holds_settled, told_given, holds_given)
