-- What a call answers of the patch values, handed on as the answer of the whole column.
use Rattle.std.proofs.Common.{◌≡◌, refl, sym, subst, Option, None, Some, Result, Ok, Err, inl, inr}
use Rattle.vx_base.specs.declared.error.VortexError.{VortexError}
use Rattle.vx_base.specs.Answers.{Decided, OrMemory}
use Rattle.vx_rules.specs.Outcomes.{Follows, outcome}

-- ---- by a refusal

-- an answer says that nothing was refused
pub decided-made : {A : Type 0} (refusal : Option VortexError) (P : A → Type 0) (a : A) → Decided refusal P (Ok a) → (refusal ≡ None) × P a
decided-made None P a d = (refl, d)
decided-made (Some e) P a d = absurd d

-- an error, under an equal refusal
pub decided-error : {A B : Type 0} (refusal other : Option VortexError) (P : A → Type 0) (Q : B → Type 0) (e : VortexError) → refusal ≡ other → Decided refusal P (Err e) → Decided other Q (Err e)
decided-error refusal other P Q e same d = subst (λ o. Decided o Q (Err e)) same (by refusal d)
  where
    by : (o : Option VortexError) → Decided o P (Err e) → Decided o Q (Err e)
    by None d = d
    by (Some f) d = d

-- ---- by a rule

module _ {A B : Type 0} (Is : A → B → Type 0) where
  pub follows-made : (refusal : Option VortexError) (answer : B) (a : A) → Follows (outcome refusal answer) Is (Ok a) → (refusal ≡ None) × Is a answer
  follows-made None answer a h = (refl, h)
  follows-made (Some e) answer a h = absurd h

  -- an answer or NoMemory, where nothing is refused
  pub follows-memory : (refusal : Option VortexError) (answer : B) (r : Result A VortexError) → refusal ≡ None → OrMemory r (λ a. Is a answer) → Follows (outcome refusal answer) Is r
  follows-memory refusal answer r none h = subst (λ o. Follows (outcome o answer) Is r) (sym none) (by r h)
    where
      by : (r : Result A VortexError) → OrMemory r (λ a. Is a answer) → Follows (Ok answer) Is r
      by (Ok a) h = h
      by (Err e) h = h

  -- an error that a refusal decides
  pub follows-decided : {C : Type 0} (refusal other : Option VortexError) (P : C → Type 0) (answer : B) (e : VortexError) → refusal ≡ other → Decided refusal P (Err e) → Follows (outcome other answer) Is (Err e)
  follows-decided refusal other P answer e same d = subst (λ o. Follows (outcome o answer) Is (Err e)) same (by refusal d)
    where
      by : (o : Option VortexError) → Decided o P (Err e) → Follows (outcome o answer) Is (Err e)
      by None d = d
      by (Some f) d = inr d

  -- an error by a rule that refuses no more than another one
  pub follows-error : (refusal other : Option VortexError) (answer next : B) (e : VortexError) → ((f : VortexError) → refusal ≡ Some f → other ≡ Some f) → Follows (outcome refusal answer) Is (Err e)
      → Follows (outcome other next) Is (Err e)
  follows-error None None answer next e keeps h = h
  follows-error None (Some f) answer next e keeps h = inl h
  follows-error (Some f) other answer next e keeps h = subst (λ o. Follows (outcome o next) Is (Err e)) (sym (keeps f refl)) h
