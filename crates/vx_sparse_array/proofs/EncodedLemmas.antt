-- What `encode` answers, case by case.
use Rattle.std.proofs.Common.{◌≡◌, ◌^◌, Bool, true, false, cond, length, Option, Some, None, refl, sym, ap, subst, arith}
use Rattle.std.specs.Prelude.{◌&&◌, ◌||◌, ◌-◌, nat_lt, Ok, Err}
use Rattle.std.proofs.lemmas.Bool.{eq-eqb, le-ltb, lt-ltb, ltb-false, ltb-true, ne_eqb}
use Rattle.vx_base.specs.Answers.{Decided, unless}
use Rattle.vx_base.specs.Casts.{cast_refusal}
use Rattle.vx_base.specs.declared.error.VortexError.{VortexError}
use Rattle.vx_base.specs.declared.error.VortexError.TheVariants.{MismatchedTypes, TooManyRows, CastRefused}
use Rattle.vx_base.specs.declared.ptype.PType.TheVariants.{U32, U64}
use Rattle.vx_base.specs.PlainScalar.{PlainScalar, scalar, fits}
use Rattle.vx_base.specs.PlainType.{PlainType, is_integer, same_base, stored_type, with_nullability}
use Rattle.vx_base.specs.Storable.{same_path, same_refl}
use Rattle.vx_base.specs.declared.dtype.Nullability.TheVariants.{NonNullable}
use Rattle.vx_base.specs.PlainValue.{PlainValue, int, null}
use Rattle.vx_model.specs.Column.{Column}
use Rattle.vx_model.specs.Plain.{plain}
use Rattle.vx_model.specs.Tree.{constant}
use Rattle.vx_stats.specs.Stats.{most_frequent, null_count}
use Rattle.vx_sparse_array.specs.Encoded.{AnswersAs, encoded, encoded_rows, fill_for, filled_by, is_fill_of}
use Rattle.vx_sparse_array.specs.Filling.{filled_tree, is_mostly_null, null_filling, value_filling}
use Rattle.vx_sparse_array.proofs.NullCounts.{all-counted, not-counted}

module _ (c : Column) (fill : Option PlainScalar) where
  -- ---- a column with rows

  pub encoded-nulls : null_count c.values ≡ length c.values → encoded_rows c fill ≡ Ok (constant (scalar c.dtype null) (length c.values))
  encoded-nulls e = rw (all-counted c.values e) refl

  pub encoded-mostly : (null_count c.values ≡ length c.values → ⊥) → is_mostly_null c.values ≡ true → encoded_rows c fill ≡ Ok (filled_tree U32 null_filling c)
  encoded-mostly other most = rw (not-counted c.values other, most) refl

  pub encoded-filled : (null_count c.values ≡ length c.values → ⊥) → is_mostly_null c.values ≡ false → encoded_rows c fill ≡ filled_by c (fill_for c fill)
  encoded-filled other few = rw (not-counted c.values other, few) refl

  -- ---- any column

  pub encoded-mismatched : is_fill_of c.dtype fill ≡ false → encoded c fill ≡ Err MismatchedTypes
  encoded-mismatched h = rw h refl

  pub encoded-many : is_fill_of c.dtype fill ≡ true → nat_lt (length c.values) (2 ^ 32) ≡ false → encoded c fill ≡ Err TooManyRows
  encoded-many h many = let more = ltb-false (length c.values) (2 ^ 32) many in rw (h, lt-ltb (2 ^ 32 - 1) (length c.values) (omega (arith, more))) refl

  pub encoded-empty : is_fill_of c.dtype fill ≡ true → length c.values ≡ 0 → encoded c fill ≡ Ok (plain c)
  encoded-empty h none = rw (h, le-ltb (2 ^ 32 - 1) (length c.values) (omega (arith, none)), eq-eqb (length c.values) 0 none) refl

  pub encoded-some : is_fill_of c.dtype fill ≡ true → nat_lt (length c.values) (2 ^ 32) ≡ true → (length c.values ≡ 0 → ⊥) → encoded c fill ≡ encoded_rows c fill
  encoded-some h few some = let less = ltb-true (length c.values) (2 ^ 32) few in rw (h, le-ltb (2 ^ 32 - 1) (length c.values) (omega (arith, less)), ne_eqb (length c.values) 0 some) refl

-- ---- a requested fill

or-true : (a b : Bool) → b ≡ true → (a || b) ≡ true
or-true true b h = refl
or-true false b h = h

within-base : (s t : PlainType) (v : PlainValue) → same_base s t ≡ true → cast_refusal s t v ≡ unless (fits t v) CastRefused None
within-base s t v h = ap (λ b. unless b MismatchedTypes (unless (fits t v) CastRefused None)) (or-true (is_integer s && is_integer t) (same_base s t) h)

module _ (c : Column) (fill : PlainScalar) (base : same_base fill.dtype c.dtype ≡ true) where
  pub cast-err : (P : PlainScalar → Type 0) (e : VortexError) → Decided (cast_refusal fill.dtype c.dtype fill.value) P (Err e) → AnswersAs (filled_by c (fill_for c (Some fill))) (Err e)
  cast-err P e d = pick (fits c.dtype fill.value) (subst (λ r. Decided r P (Err e)) (within-base fill.dtype c.dtype fill.value base) d)
    where
      pick : (b : Bool) → Decided (unless b CastRefused None) P (Err e) → AnswersAs (filled_by c (cond b (Ok fill.value) (Err CastRefused))) (Err e)
      pick true d = d
      pick false d = ap Err d

  pub cast-ok : (x : PlainScalar) → Decided (cast_refusal fill.dtype c.dtype fill.value) (λ s. s ≡ scalar c.dtype fill.value) (Ok x)
      → (filled_by c (fill_for c (Some fill)) ≡ Ok (filled_tree U64 (value_filling fill.value) c)) × (x ≡ scalar c.dtype fill.value)
  cast-ok x d = pick (fits c.dtype fill.value) (subst (λ r. Decided r (λ s. s ≡ scalar c.dtype fill.value) (Ok x)) (within-base fill.dtype c.dtype fill.value base) d)
    where
      pick : (b : Bool) → Decided (unless b CastRefused None) (λ s. s ≡ scalar c.dtype fill.value) (Ok x)
          → (filled_by c (cond b (Ok fill.value) (Err CastRefused)) ≡ Ok (filled_tree U64 (value_filling fill.value) c)) × (x ≡ scalar c.dtype fill.value)
      pick true d = (refl, d)
      pick false d = absurd d

-- ---- the most frequent integer

pub frequent-fill : (c : Column) → is_integer c.dtype ≡ true → filled_by c (fill_for c None) ≡ Ok (filled_tree U64 (value_filling (int (most_frequent c.values).0)) c)
frequent-fill c h = rw h refl

pub no-fill : (c : Column) → is_integer c.dtype ≡ false → filled_by c (fill_for c None) ≡ Err MismatchedTypes
no-fill c h = rw h refl

-- ---- a fill's base

pub same-test : (b : Bool) (s t : PlainType) → (b ≡ true → with_nullability s NonNullable ≡ with_nullability t NonNullable) → (with_nullability s NonNullable ≡ with_nullability t NonNullable → b ≡ true) → b ≡ same_base s t
same-test b s t on back = pick b (same_base s t) (λ e. same_refl stored_type (with_nullability s NonNullable) (with_nullability t NonNullable) (on e)) (λ e. back (same_path stored_type (with_nullability s NonNullable) (with_nullability t NonNullable) e))
  where
    pick : (a d : Bool) → (a ≡ true → d ≡ true) → (d ≡ true → a ≡ true) → a ≡ d
    pick true d f g = sym (f refl)
    pick false true f g = g refl
    pick false false f g = refl
