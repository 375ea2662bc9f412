-- The reply to a document's commands, by what running them answers.
use Rattle.std.proofs.Common.{◌≡◌, ℕ, List, true, false, Ok, Err, refl, ap, inl, inr}
use Rattle.std.specs.Prelude.{Result, String, string_bytes}
use Rattle.std.specs.declared.alloc.Global.{Global}
use Rattle.vx_base.specs.declared.error.VortexError.{VortexError}
use Rattle.vx_base.specs.declared.error.VortexError.TheVariants.{NoMemory, TooManyRows}
use Rattle.vx_base.specs.ErrorName.{error_name}
use Rattle.vx_document.specs.Commands.{PlainCommand}
use Rattle.vx_model.specs.Column.{Column}
use Rattle.vx_query.specs.Queries.{query_lines}
use Rattle.vx_rules.specs.Outcomes.{Follows}
use Rattle.vx_program.specs.Answer.{counts_fit, lines_reply, queried, refusal}

pub are_lines : (lines : Result (List ℕ) VortexError) (text : String Global) → Follows lines (λ t bytes. string_bytes t ≡ bytes) (Ok text) → (0, string_bytes text) ≡ lines_reply lines
are_lines (Ok bytes) text h = ap (λ b. (0, b)) h
are_lines (Err error) text h = absurd h

pub is_first_refusal : (lines : Result (List ℕ) VortexError) (error : VortexError) → Follows {A = String Global} lines (λ t bytes. string_bytes t ≡ bytes) (Err error) → (error ≡ NoMemory → ⊥) → refusal 4 (error_name error) ≡ lines_reply lines
is_first_refusal (Ok bytes) error h other = absurd (other h)
is_first_refusal (Err first) error (inl h) other = absurd (other h)
is_first_refusal (Err first) error (inr h) other = ap (λ e. refusal 4 (error_name e)) h

module _ (commands : List PlainCommand) (c : Column) where
  pub is_queried : (d : Column) → counts_fit c ≡ true → d ≡ c → lines_reply (query_lines d commands) ≡ queried commands c
  unfolding queried
  is_queried d fit same = rw fit (ap (λ k. lines_reply (query_lines k commands)) same)

  pub is_not_queried : counts_fit c ≡ false → refusal 4 (error_name TooManyRows) ≡ queried commands c
  unfolding queried
  is_not_queried many = rw many refl
