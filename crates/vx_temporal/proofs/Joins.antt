-- The array that is made of parts, by what its constructor answers: why it is refused, and its column.
use Rattle.std.proofs.Common.{◌≡◌, ◌∙◌, ◌⊎◌, refl, sym, ap, subst, Option, Some, None, Ok, Err, inl, inr}
use Rattle.vx_base.specs.Answers.{Makes}
use Rattle.vx_base.specs.declared.dtype.Nullability.{Nullability}
use Rattle.vx_base.specs.declared.error.Refused.{Refused}
use Rattle.vx_base.specs.declared.error.VortexError.{VortexError}
use Rattle.vx_base.specs.declared.error.VortexError.TheVariants.{NoMemory}
use Rattle.vx_base.specs.PlainType.{PlainType}
use Rattle.vx_base.specs.PlainType as types
use Rattle.vx_base.specs.Timestamps.{PlainTimestamp}
use Rattle.vx_model.specs.Column.{column, column_of}
use Rattle.vx_model.specs.Refusals.{datetime_parts_refusal}
use Rattle.vx_model.specs.Tree.{Tree, datetime_parts}
use Rattle.vx_temporal.specs.Joined.{joined, parts_refusal}
use Rattle.vx_temporal.specs.Split.{divisor_in}

module _ {T : Type 0} (t : PlainType) (k : PlainTimestamp) (n : Nullability) (days seconds subseconds : Tree) (inputs : T) (typed : t ≡ types.timestamp k n) where
  -- an array is made only of parts that aren't refused, and its rows are those that they join to
  pub made-parts : (a : Tree) → Makes (datetime_parts_refusal k n days seconds subseconds) (datetime_parts k n days seconds subseconds) inputs (Ok a)
      → (parts_refusal t days seconds subseconds ≡ None) × (column_of a ≡ column t (joined (divisor_in t) days seconds subseconds))
  made-parts a h =
      subst (λ s. (parts_refusal s days seconds subseconds ≡ None) × (column_of a ≡ column s (joined (divisor_in s) days seconds subseconds))) (sym typed) (by_refusal (datetime_parts_refusal k n days seconds subseconds) refl h)
    where
      by_refusal : (r : Option VortexError) → datetime_parts_refusal k n days seconds subseconds ≡ r → Makes r (datetime_parts k n days seconds subseconds) inputs (Ok a)
          → (parts_refusal (types.timestamp k n) days seconds subseconds ≡ None) × (column_of a ≡ column (types.timestamp k n) (joined (divisor_in (types.timestamp k n)) days seconds subseconds))
      by_refusal None e made = (e, ap column_of made)
      by_refusal (Some f) e made = absurd made

  -- a refusal is want of memory, or that of the parts
  pub refused-parts : (f : Refused T) → Makes {U = Tree} (datetime_parts_refusal k n days seconds subseconds) (datetime_parts k n days seconds subseconds) inputs (Err f)
      → (f.error ≡ NoMemory) ⊎ (parts_refusal t days seconds subseconds ≡ Some f.error)
  refused-parts f h =
      subst (λ s. (f.error ≡ NoMemory) ⊎ (parts_refusal s days seconds subseconds ≡ Some f.error)) (sym typed) (by_refusal (datetime_parts_refusal k n days seconds subseconds) refl h)
    where
      by_refusal : (r : Option VortexError) → datetime_parts_refusal k n days seconds subseconds ≡ r → Makes {U = Tree} r (datetime_parts k n days seconds subseconds) inputs (Err f)
          → (f.error ≡ NoMemory) ⊎ (parts_refusal (types.timestamp k n) days seconds subseconds ≡ Some f.error)
      by_refusal None e made = inl made.0
      by_refusal (Some first) e made = inr (e ∙ ap Some (sym made.0))
