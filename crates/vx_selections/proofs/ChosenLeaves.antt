-- Filters and slices of stored columns.
use Rattle.std.proofs.Common.{◌≡◌, ℕ, ℤ, Bool, List, length, option_map}
use Rattle.vx_base.specs.declared.dtype.Nullability.{Nullability}
use Rattle.vx_base.specs.declared.ptype.PType.{PType}
use Rattle.vx_base.specs.Masks.{rows_between}
use Rattle.vx_base.specs.PlainScalar.{fits}
use Rattle.vx_base.specs.PlainType.{PlainType}
use Rattle.vx_base.specs.PlainValue.{bytes, int, is_short, truth}
use Rattle.vx_model.specs.Column.{column_of}
use Rattle.vx_model.specs.Refusals.{kept, primitive_refusal, var_bin_view_refusal}
use Rattle.vx_model.specs.Tree.{Validity, bool, primitive, var_bin_view}
use Rattle.vx_model.specs.WellFormed.{WellFormed}
use Rattle.vx_model.proofs.BoolLemmas.{length-bool}
use Rattle.vx_model.proofs.RowLemmas.{length-primitive}
use Rattle.vx_model.proofs.ViewLemmas.{length-var_bin_view}
use Rattle.vx_rules.specs.Selections.{filtered, kept_items, sliced}
use Rattle.vx_selections.proofs.KeptItems.{all-kept, kept-lengths, kept-masked, map-kept}
use Rattle.vx_selections.proofs.Leaves.{Stands, bool_stands, ints_stand, view_stands}
use Rattle.vx_selections.proofs.Parts.{all-between, between-lengths, between-masked, map-between}

-- ---- the rows whose bit is true

module _ (keep : List Bool) where
  pub bool_kept : (bs : List Bool) (valid : Validity) (n : Nullability) (ys : List Bool) (bits : Validity) → WellFormed (bool bs valid n) → ys ≡ kept_items keep bs → bits ≡ kept (option_map (kept_items keep) valid)
      → Stands (filtered (column_of (bool bs valid n)) keep) (primitive_refusal (length ys) bits n) (bool ys (kept bits) n)
  bool_kept = bool_stands (kept_items keep) (kept_items keep) (map-kept truth keep) (kept-masked keep) (kept-lengths keep)

  pub ints_kept : (p : PType) (xs : List ℤ) (valid : Validity) (n : Nullability) (q : PType) (ys : List ℤ) (bits : Validity) → WellFormed (primitive p xs valid n) → q ≡ p → ys ≡ kept_items keep xs → bits ≡ kept (option_map (kept_items keep) valid)
      → Stands (filtered (column_of (primitive p xs valid n)) keep) (primitive_refusal (length ys) bits n) (primitive q ys (kept bits) n)
  ints_kept = ints_stand (kept_items keep) (kept_items keep) (kept_items keep) (map-kept int keep) (kept-masked keep) (kept-lengths keep)

  pub view_kept : (vs : List (List ℕ)) (valid : Validity) (t : PlainType) (ys : List (List ℕ)) (bits : Validity) (s : PlainType) → WellFormed (var_bin_view vs valid t) → ys ≡ kept_items keep vs → bits ≡ kept (option_map (kept_items keep) valid) → s ≡ t
      → Stands (filtered (column_of (var_bin_view vs valid t)) keep) (var_bin_view_refusal ys bits s) (var_bin_view ys (kept bits) s)
  view_kept = view_stands (kept_items keep) (kept_items keep) (kept_items keep) (map-kept bytes keep) (kept-masked keep) (kept-lengths keep) (all-kept is_short keep) (λ t rs. all-kept (fits t) keep rs)

-- ---- the rows of a range

module _ (start end : ℕ) where
  abbrev between : {A : Type 0} → List A → List A
  between xs = rows_between xs start end

  pub bool_sliced : (bs : List Bool) (valid : Validity) (n : Nullability) (ys : List Bool) (bits : Validity) → WellFormed (bool bs valid n) → ys ≡ between bs → bits ≡ kept (option_map (λ b. rows_between b start end) valid)
      → Stands (sliced (column_of (bool bs valid n)) start end) (primitive_refusal (length ys) bits n) (bool ys (kept bits) n)
  bool_sliced = bool_stands (λ b. rows_between b start end) (λ r. rows_between r start end) (map-between truth start end) (between-masked start end) (between-lengths start end)

  pub ints_sliced : (p : PType) (xs : List ℤ) (valid : Validity) (n : Nullability) (q : PType) (ys : List ℤ) (bits : Validity) → WellFormed (primitive p xs valid n) → q ≡ p → ys ≡ between xs → bits ≡ kept (option_map (λ b. rows_between b start end) valid)
      → Stands (sliced (column_of (primitive p xs valid n)) start end) (primitive_refusal (length ys) bits n) (primitive q ys (kept bits) n)
  ints_sliced = ints_stand (λ x. rows_between x start end) (λ b. rows_between b start end) (λ r. rows_between r start end) (map-between int start end) (between-masked start end) (between-lengths start end)

  pub view_sliced : (vs : List (List ℕ)) (valid : Validity) (t : PlainType) (ys : List (List ℕ)) (bits : Validity) (s : PlainType) → WellFormed (var_bin_view vs valid t) → ys ≡ between vs → bits ≡ kept (option_map (λ b. rows_between b start end) valid) → s ≡ t
      → Stands (sliced (column_of (var_bin_view vs valid t)) start end) (var_bin_view_refusal ys bits s) (var_bin_view ys (kept bits) s)
  view_sliced =
      view_stands (λ x. rows_between x start end) (λ b. rows_between b start end) (λ r. rows_between r start end) (map-between bytes start end) (between-masked start end) (between-lengths start end)
      (all-between is_short start end) (λ t rs. all-between (fits t) start end rs)

-- ---- stored columns have as many rows as items

pub ruleset lengths = (length-bool, length-primitive, length-var_bin_view)
