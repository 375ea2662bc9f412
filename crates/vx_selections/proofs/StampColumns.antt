-- Timestamps over integers that were chosen from their storage.
use Rattle.std.proofs.Common.{◌≡◌, ℕ, Bool, List, refl, sym, ap, ◌∙◌}
use Rattle.vx_base.specs.declared.dtype.Nullability.{Nullability}
use Rattle.vx_base.specs.declared.dtype.Nullability.TheVariants.{Nullable}
use Rattle.vx_base.specs.declared.ptype.PType.TheVariants.{I64}
use Rattle.vx_base.specs.PlainType.{PlainType, nullability_of, or_nullable, stored_type, with_nullability}
use Rattle.vx_base.specs.PlainType as types
use Rattle.vx_base.specs.PlainValue.{PlainValue}
use Rattle.vx_base.specs.Storable.{same_refl}
use Rattle.vx_base.specs.Timestamps.{PlainTimestamp}
use Rattle.vx_model.specs.Column.{Column, column, column_of}
use Rattle.vx_model.specs.Refusals.{timestamp_refusal}
use Rattle.vx_model.specs.Rows.{rows}
use Rattle.vx_model.specs.Tree.{Tree, Validity, timestamp}
use Rattle.vx_model.specs.TreeType.{tree_type}
use Rattle.vx_model.specs.WellFormed.{WellFormed}
use Rattle.vx_rules.specs.Selections.{filtered, masked, sliced, taken}
use Rattle.vx_selections.specs.Narrowed.{restricted}
use Rattle.vx_selections.proofs.Leaves.{Stands}

-- integers of the storage's type, with other rows
over : (s : Tree) (k : PlainTimestamp) (m : Nullability) (vs : List PlainValue) → column_of s ≡ column (types.primitive I64 m) vs → Stands (column (types.timestamp k m) vs) (timestamp_refusal s) (timestamp s k)
over s k m vs e =
    let typed : tree_type s ≡ types.primitive I64 m = ap (λ c. c.dtype) e in
    let values : rows s ≡ vs = ap (λ c. c.values) e in
    record {
      accepted = rw (same_refl stored_type (tree_type s) (types.primitive I64 (nullability_of (tree_type s))) (typed ∙ ap (λ t. types.primitive I64 (nullability_of t)) (sym typed))) refl;
      column = λ i. column (types.timestamp k (nullability_of (typed i))) (values i);
    }

module _ (storage s : Tree) (k : PlainTimestamp) (w : WellFormed (timestamp storage k)) where
  abbrev n : Nullability
  n = nullability_of (tree_type storage)

  pub stamps_filtered : (keep : List Bool) → column_of s ≡ filtered (column_of storage) keep → Stands (filtered (column_of (timestamp storage k)) keep) (timestamp_refusal s) (timestamp s k)
  stamps_filtered keep e = over s k n _ (e ∙ ap (λ t. filtered (column t (rows storage)) keep) w.1.storage_type)

  pub stamps_sliced : (start end : ℕ) → column_of s ≡ sliced (column_of storage) start end → Stands (sliced (column_of (timestamp storage k)) start end) (timestamp_refusal s) (timestamp s k)
  stamps_sliced start end e = over s k n _ (e ∙ ap (λ t. sliced (column t (rows storage)) start end) w.1.storage_type)

  pub stamps_masked : (keep : List Bool) → column_of s ≡ masked (column_of storage) keep → Stands (masked (column_of (timestamp storage k)) keep) (timestamp_refusal s) (timestamp s k)
  stamps_masked keep e = over s k Nullable _ (e ∙ ap (λ t. masked (column t (rows storage)) keep) w.1.storage_type)

  pub stamps_taken : (indices : Column) → column_of s ≡ taken (column_of storage) indices → Stands (taken (column_of (timestamp storage k)) indices) (timestamp_refusal s) (timestamp s k)
  stamps_taken indices e = over s k (or_nullable n (nullability_of indices.dtype)) _ (e ∙ ap (λ t. taken (column t (rows storage)) indices) w.1.storage_type)

  pub stamps_restricted : (valid : Validity) (m : Nullability) → column_of s ≡ restricted valid m (column_of storage) → Stands (restricted valid m (column_of (timestamp storage k))) (timestamp_refusal s) (timestamp s k)
  stamps_restricted valid m e = over s k m _ (e ∙ ap (λ t. restricted valid m (column t (rows storage))) w.1.storage_type)
