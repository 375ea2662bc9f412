-- Nulls replaced in a sparse tree: in its patch values, and in its fill.
use Rattle.std.proofs.Common.{◌≡◌, ◌∙◌, Bool, true, false, length, sym, ap, None}
use Rattle.std.specs.Prelude.{◌&&◌, ◌||◌, not}
use Rattle.std.proofs.lemmas.Bool.{and_parts}
use Rattle.std.proofs.lemmas.List.{length-map}
use Rattle.vx_base.specs.declared.error.VortexError.TheVariants.{CastRefused, MismatchedTypes}
use Rattle.vx_base.specs.Answers.{unless}
use Rattle.vx_base.specs.Casts.{cast_refusal}
use Rattle.vx_base.specs.Defaults.{or_default}
use Rattle.vx_base.specs.PlainScalar.{PlainScalar, fits, scalar}
use Rattle.vx_base.specs.PlainType.{PlainType, is_integer, same_base}
use Rattle.vx_base.specs.PlainValue.{PlainValue, is_null}
use Rattle.vx_model.specs.Column.{column, column_of}
use Rattle.vx_model.specs.Rows.{rows}
use Rattle.vx_model.specs.Tree.{Tree, PlainPatches, sparse, sparse_of}
use Rattle.vx_model.specs.TreeType.{tree_type}
use Rattle.vx_model.proofs.PackedLemmas.{passed}
use Rattle.vx_model.proofs.SparseLemmas.{type-sparse_of}
use Rattle.vx_rules.specs.Conversions.{fill_null_refusal, null_filled}
use Rattle.vx_rules.proofs.FitLaws.{fits-base}
use Rattle.vx_sparse.proofs.MappedRows.{map-sparse}

-- a scalar that isn't null is cast to another type of its base
pub base-cast : (s t : PlainType) (v : PlainValue) → same_base s t ≡ true → is_null v ≡ false → fits s v ≡ true → cast_refusal s t v ≡ None
base-cast s t v same valid held = by (is_integer s && is_integer t) (same_base s t) (fits t v) same (fits-base s t v same valid held)
  where
    by : (integers base fit : Bool) → base ≡ true → fit ≡ true → unless (integers || base) MismatchedTypes (unless fit CastRefused None) ≡ None
    by true base fit e h = ap (λ b. unless b CastRefused None) h
    by false base fit e h = λ i. unless (e i) MismatchedTypes (unless (h i) CastRefused None)

module _ (p : PlainPatches) (fill value : PlainScalar) (typed : tree_type p.values ≡ fill.dtype) where
  -- the value is refused for the patch values as for the column
  pub same-refusal : fill_null_refusal (column_of p.values) value ≡ fill_null_refusal (column_of (sparse_of p fill)) value
  same-refusal = ap (λ t. unless (same_base t value.dtype && not (is_null value.value)) MismatchedTypes None) (typed ∙ sym (type-sparse_of p fill))

  pub base-accepted : fill_null_refusal (column_of p.values) value ≡ None → same_base fill.dtype value.dtype ≡ true
  base-accepted none = ap (λ t. same_base t value.dtype) (sym typed) ∙ (and_parts _ _ (passed _ _ _ none).0).0

  module _ (values : Tree) (e : column_of values ≡ null_filled (column_of p.values) value) where
    pub filled-lengths : length (rows values) ≡ length (rows p.values)
    filled-lengths = ap (λ c. length c.values) e ∙ length-map (rows p.values) (or_default value.value)

    pub filled-type : tree_type values ≡ value.dtype
    filled-type = ap (λ c. c.dtype) e

    pub filled-sparse : (other : PlainScalar) → other ≡ scalar value.dtype (or_default value.value fill.value)
        → column_of (sparse p.array_len p.offset p.indices values other) ≡ null_filled (column_of (sparse_of p fill)) value
    filled-sparse other o =
        let mapped = map-sparse (or_default value.value) p fill values other (ap (λ c. c.values) e) (ap (λ s. s.value) o) in
        λ i. column (o i).dtype (mapped i)
