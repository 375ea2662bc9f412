-- What came from a source, and the reply to it.
use Rattle.std.proofs.Common.{◌≡◌, ◌≤◌, ◌+◌, ℕ, List, [], ◌++◌, length, true, false, ltb, Option, Some, None, IfSome, codes, refl, sym, ap, ◌∙◌, append-nil, length-append, arith, inl}
use Rattle.std.specs.Prelude.{◌↔◌}
use Rattle.std.proofs.lemmas.Bool.{le-ltb, lt-ltb}
use Rattle.std.specs.Io.KnownBytes.{Consumes, IsAtEnd}
use Rattle.vx_program.specs.Reading.{limit}
use Rattle.vx_program.specs.Answer.{Reply, IsReply, answer, refusal, of_bytes, of_input}
use Rattle.vx_program.specs.Forms.{form_of}
use Rattle.vx_program.specs.declared.forms.Form.{Form}
use Rattle.vx_program.specs.Statuses.{IsTooLong}

-- the bytes, where they are known
abbrev known : Option (List ℕ) → List ℕ
known None = []
known (Some bytes) = bytes

is_known : (left : Option (List ℕ)) → IfSome left (λ all. known left ≡ all)
is_known None = tt
is_known (Some bytes) = refl

all_came : (old new : Option (List ℕ)) (bytes : List ℕ) → Consumes old new bytes → IsAtEnd new → IfSome old (λ all. bytes ≡ all)
all_came None new bytes came end = tt
all_came (Some x) None bytes came end = absurd came
all_came (Some x) (Some y) bytes came end = sym (came ∙ ap (λ l. bytes ++ l) end ∙ append-nil bytes)

-- what came is no longer than what was to come
as_many : (old new : Option (List ℕ)) (bytes : List ℕ) → Consumes old new bytes → (all : List ℕ) × IfSome old (λ xs. all ≡ xs) × (length bytes ≤ length all)
as_many None new bytes came = (bytes, tt, omega arith)
as_many (Some x) None bytes came = absurd came
as_many (Some x) (Some y) bytes came = (x, refl, omega (arith, ap length came, length-append bytes y))

-- what is no form is none
pub is_none : (o : Option Form) → ((form : Form) → o ≡ Some form → ⊥) → o ≡ None
is_none None other = refl
is_none (Some form) other = absurd (other form refl)

module _ (args : List (List ℕ)) (reply : Reply) (old new : Option (List ℕ)) (before now : ℕ) where
  pub reply_usage : form_of args ≡ None → now ≡ before → reply ≡ refusal 2 (codes "Usage") → IsReply old before now args reply
  unfolding answer
  reply_usage other same e = inl (known old, is_known old, rw other e, same)

  pub reply_whole : (form : Form) (bytes : List ℕ) → form_of args ≡ Some form → Consumes old new bytes → IsAtEnd new → length bytes ≤ limit → now ≡ before → reply ≡ of_input form bytes → IsReply old before now args reply
  unfolding answer of_bytes
  reply_whole form bytes built came end short same e =
      let not_long : ltb limit (length bytes) ≡ false = le-ltb limit (length bytes) short in
      inl (bytes, all_came old new bytes came end, rw (built, not_long) e, same)

  pub reply_long : (form : Form) (bytes : List ℕ) → form_of args ≡ Some form → Consumes old new bytes → length bytes ≡ limit + 1 → now ≡ before → reply ≡ refusal 7 (codes "TooLong") → IsReply old before now args reply
  unfolding answer of_bytes
  reply_long form bytes built came long same e =
      let all = as_many old new bytes came in
      let above : ltb limit (length all.0) ≡ true = lt-ltb limit (length all.0) (omega (arith, all.2)) in
      inl (all.0, all.1, rw (built, above) e, same)

-- ---- status 7, by the bytes that came

pub is_not_too_long : (old new : Option (List ℕ)) (bytes : List ℕ) (status : ℕ) → Consumes old new bytes → length bytes ≤ limit → (status ≡ 7 → ⊥)
    → IfSome old (λ all. status ≡ 7 ↔ IsTooLong all new)
is_not_too_long None new bytes status came short other = tt
is_not_too_long (Some x) None bytes status came short other = absurd came
is_not_too_long (Some x) (Some y) bytes status came short other = (λ e. absurd (other e), λ long. omega (arith, long, ap length came, length-append bytes y))
