-- Arrays of parts, from what the calls below answer.
use Rattle.std.proofs.Common.{◌≡◌, ◌∙◌, refl, sym, ap, subst, Option, Some, None, Result, Ok, Err, inl}
use Rattle.std.specs.Prelude.{IfOk}
use Rattle.vx_base.specs.Answers.{Answers, Makes}
use Rattle.vx_base.specs.declared.array_id.ArrayId.TheVariants as ids
use Rattle.vx_base.specs.declared.dtype.DType.TheFolds.{fold-roll-DType}
use Rattle.vx_base.specs.declared.dtype.DType.TheOpen.{DType-F}
use Rattle.vx_base.specs.declared.dtype.DType.TheVariants as variants
use Rattle.vx_base.specs.declared.dtype.DType.TheViews.{rolls-Timestamp}
use Rattle.vx_base.specs.declared.dtype.Nullability.{Nullability}
use Rattle.vx_base.specs.declared.error.Refused.{Refused}
use Rattle.vx_base.specs.declared.error.VortexError.{VortexError}
use Rattle.vx_base.specs.PlainType.{PlainType}
use Rattle.vx_base.specs.PlainType as types
use Rattle.vx_base.specs.Timestamps.{PlainTimestamp}
use Rattle.vx_base.specs.TypeOf.{FieldList, fields_step, type_of, type_step}
use Rattle.vx_datetime.specs.Parts.{parts_tree, split_tree}
use Rattle.vx_model.specs.Column.{Column, column, column_of}
use Rattle.vx_model.specs.Nodes.{encoding}
use Rattle.vx_model.specs.Refusals.{datetime_parts_refusal}
use Rattle.vx_model.specs.Tree.{Tree, datetime_parts}
use Rattle.vx_temporal.specs.declared.parts.TemporalParts.{TemporalParts}
use Rattle.vx_temporal.specs.Joined.{joined, parts_refusal}
use Rattle.vx_temporal.specs.Settled.{Settled}
use Rattle.vx_temporal.specs.Split.{divisor_in}
use Rattle.vx_temporal.specs.SplitOf.{IsSplitOf}

-- the node over accepted parts has the rows that they join to
pub column_of-parts_tree : (t : PlainType) (days seconds subseconds : Tree) → parts_refusal t days seconds subseconds ≡ None → column_of (parts_tree t days seconds subseconds) ≡ column t (joined (divisor_in t) days seconds subseconds)
column_of-parts_tree (types.timestamp k n) days seconds subseconds h = refl
column_of-parts_tree t days seconds subseconds h = absurd cc

-- the node over the parts of a column
pub parts_tree-split : (c : Column) (p : TemporalParts) → IsSplitOf c p → parts_tree c.dtype p.days p.seconds p.subseconds ≡ split_tree c
parts_tree-split c p s = λ i. parts_tree c.dtype (s.days i) (s.seconds i) (s.subseconds i)

-- an error, whatever was to be made
pub same-err : {A B : Type 0} (first later : Option VortexError) (P : A → Type 0) (Q : B → Type 0) (e : VortexError) → Settled first later P (Err e) → Settled first later Q (Err e)
same-err None later P Q e h = h
same-err (Some f) later P Q e h = h

-- what is made of parts that weren't refused
pub made-of : {A : Type 0} (first later : Option VortexError) (P : A → Type 0) (x : A) (r : Result Tree VortexError) (tree made : Tree) → Settled first later P (Ok x) → (P x → tree ≡ made) → Answers r tree → Settled first later (λ y. y ≡ made) r
made-of None later P x (Ok a) tree made h is n = (h.0, n ∙ is h.1)
made-of None later P x (Err e) tree made h is n = inl n
made-of (Some f) later P x r tree made h is n = absurd h

pub rows-kept : (r : Result Tree VortexError) (tree : Tree) (c : Column) → Answers r tree → column_of tree ≡ c → IfOk r (λ array. column_of array ≡ c)
rows-kept (Ok a) tree c n is = ap column_of n ∙ is
rows-kept (Err e) tree c n is = tt

-- ---- of three columns

-- a timestamp type as plain data
pub type_of-Timestamp : (k : PlainTimestamp) (n : Nullability) → type_of (variants.Timestamp k n) ≡ types.timestamp k n
type_of-Timestamp k n = ap type_of (sym (rolls-Timestamp k n)) ∙ fold-roll-DType PlainType FieldList type_step fields_step (DType-F.Timestamp k n)

module _ (t : PlainType) (k : PlainTimestamp) (n : Nullability) (days seconds subseconds : Tree) (e : t ≡ types.timestamp k n) where
  -- a refusal of the constructor, with the type rebuilt
  pub made-err : {U : Type 0} (inputs : U) (f : Refused (PlainTimestamp × Tree × Tree × Tree)) (back : U) → Makes {U = Tree} (datetime_parts_refusal k n days seconds subseconds) (datetime_parts k n days seconds subseconds) (k, days, seconds, subseconds) (Err f)
      → (f.inputs ≡ (k, days, seconds, subseconds) → back ≡ inputs) → Makes {U = Tree} (parts_refusal t days seconds subseconds) (parts_tree t days seconds subseconds) inputs (Err (record { error = f.error; inputs = back }))
  made-err {U} inputs f back h same =
      subst (λ s. Makes {T = U} {U = Tree} (parts_refusal s days seconds subseconds) (parts_tree s days seconds subseconds) inputs (Err (record { error = f.error; inputs = back }))) (sym e) (by_refusal (datetime_parts_refusal k n days seconds subseconds) h)
    where
      by_refusal : (r : Option VortexError) → Makes {T = PlainTimestamp × Tree × Tree × Tree} {U = Tree} r (datetime_parts k n days seconds subseconds) (k, days, seconds, subseconds) (Err f)
          → Makes {T = U} {U = Tree} r (datetime_parts k n days seconds subseconds) inputs (Err (record { error = f.error; inputs = back }))
      by_refusal None g = (g.0, same g.1)
      by_refusal (Some x) g = (g.0, same g.1)

-- what the constructor makes is an array of parts
pub made-root : {T : Type 0} (r : Option VortexError) (k : PlainTimestamp) (n : Nullability) (days seconds subseconds : Tree) (inputs : T) (a : Tree) → Makes r (datetime_parts k n days seconds subseconds) inputs (Ok a) → encoding a ≡ ids.DateTimeParts
made-root None k n days seconds subseconds inputs a h = ap encoding h
made-root (Some f) k n days seconds subseconds inputs a h = absurd h
