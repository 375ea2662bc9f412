-- What is read of JSON fits its type.
use Rattle.std.proofs.Common.{◌≡◌, ◌∙◌, Bool, true, false, Option, Some, None, Ok, Err, option_map, ap, refl, sym}
use Rattle.serde_json.specs.Data.{Data}
use Rattle.vx_array.proofs.ValueAt.{scalar_given, scalar_never}
use Rattle.vx_base.specs.Answers.{MakesSurely, unless}
use Rattle.vx_base.specs.declared.dtype.Nullability.{Nullability}
use Rattle.vx_base.specs.declared.error.Refused.{Refused}
use Rattle.vx_base.specs.declared.error.VortexError.TheVariants.{MismatchedTypes, ValueTooLong}
use Rattle.vx_base.specs.PlainScalar.{PlainScalar, fits, scalar}
use Rattle.vx_base.specs.PlainType.{PlainType, with_nullability}
use Rattle.vx_base.specs.PlainValue.{PlainValue, has_short}
use Rattle.vx_document.specs.Reading.{◌>>=◌, when}
use Rattle.vx_document.specs.RowsOf.{cell_of, row_of}
use Rattle.vx_query.specs.Queries.{scalar_read}

fit_when : (b : Bool) (v w : PlainValue) → (when b >>= (λ u. Some v)) ≡ Some w → (b ≡ true) × (v ≡ w)
fit_when true v w e = (refl, cc)
fit_when false v w e = absurd cc

fits-cell : (t : PlainType) (cell : Option PlainValue) (w : PlainValue) → (cell >>= (λ v. when (fits t v) >>= (λ u. Some v))) ≡ Some w → fits t w ≡ true
fits-cell t None w e = absurd cc
fits-cell t (Some v) w e = let h = fit_when (fits t v) v w e in rw h.1 at h.0

-- a row that is read is one of its type
pub fits-row : (t : PlainType) (d : Data) (v : PlainValue) → row_of t d ≡ Some v → fits t v ≡ true
unfolding row_of
fits-row t d v e = fits-cell t (cell_of t d) v e

module _ {T : Type 0} (n : Nullability) (t own : PlainType) (d : Data) (v : PlainValue) (inputs : T) (e : own ≡ with_nullability t n) (r : row_of own d ≡ Some v) where
  -- the scalar of a row that is read
  pub scalar-read : (s : PlainScalar) → MakesSurely (unless (has_short v) ValueTooLong (unless (fits own v) MismatchedTypes None)) (scalar own v) inputs (Ok s) → scalar_read n t d ≡ Some s
  scalar-read s m = (λ i. option_map (scalar (sym e i)) (row_of (sym e i) d)) ∙ ap (option_map (scalar own)) r ∙ ap Some (sym (scalar_given own v inputs (fits-row own d v r) s m))

  -- it is never refused
  pub scalar-kept : (refused : Refused T) → MakesSurely (unless (has_short v) ValueTooLong (unless (fits own v) MismatchedTypes None)) (scalar own v) inputs (Err refused) → ⊥
  scalar-kept refused m = scalar_never own v inputs (fits-row own d v r) refused m
