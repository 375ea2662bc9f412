-- What a cast answers: the values in a new type, where each is one of it.
use Rattle.std.proofs.Common.{◌≡◌, ◌∙◌, ℕ, zero, suc, Bool, true, false, List, [], None, inl, inr, refl, sym, ap, arith}
use Rattle.std.specs.Prelude.{◌&&◌, ◌||◌, replicate, Result, Ok, Err}
use Rattle.std.specs.List.{list_all}
use Rattle.vx_base.specs.declared.error.VortexError.{VortexError}
use Rattle.vx_base.specs.declared.error.VortexError.TheVariants.{CastRefused, MismatchedTypes, NoMemory}
use Rattle.vx_base.specs.Answers.{OrMemory, unless}
use Rattle.vx_base.specs.Casts.{is_cast}
use Rattle.vx_base.specs.PlainScalar.{fits}
use Rattle.vx_base.specs.PlainType.{PlainType, integer_of, is_integer, nullability_of, same_base}
use Rattle.vx_base.specs.PlainType as types
use Rattle.vx_base.specs.PlainValue.{PlainValue}
use Rattle.vx_model.specs.Column.{Column, column, column_of}
use Rattle.vx_model.specs.Tree.{Tree}
use Rattle.vx_rules.specs.Conversions.{cast_refusal, casted}
use Rattle.vx_rules.specs.Outcomes.{Follows, outcome}
use Rattle.vx_rows.specs.Casting.{IsCast}

-- ---- by the test of the values

module _ (t : PlainType) (vs : List PlainValue) where
  cast-by : (b : Bool) → list_all (fits t) vs ≡ b → (r : Result Tree VortexError) → Follows (outcome (unless b CastRefused None) (column t vs)) (λ out c. column_of out ≡ c) r → IsCast t vs r
  cast-by b e r h = rw e h

  pub cast-refused : list_all (fits t) vs ≡ false → IsCast t vs (Err CastRefused)
  cast-refused e = cast-by false e (Err CastRefused) (inr refl)

  pub cast-answered : (r : Result Tree VortexError) → list_all (fits t) vs ≡ true → OrMemory r (λ out. column_of out ≡ column t vs) → IsCast t vs r
  cast-answered (Ok out) e h = cast-by true e (Ok out) h
  cast-answered (Err x) e h = cast-by true e (Err x) h

  pub cast-forgone : (x : VortexError) → x ≡ NoMemory → IsCast t vs (Err x)
  cast-forgone x m = by (list_all (fits t) vs) refl
    where
      by : (b : Bool) → list_all (fits t) vs ≡ b → IsCast t vs (Err x)
      by true e = cast-by true e (Err x) m
      by false e = cast-by false e (Err x) (inl m)

-- ---- by the types

module _ (c : Column) (t : PlainType) where
  follows-by : (b : Bool) → is_cast c.dtype t ≡ b → (r : Result Tree VortexError)
      → Follows (outcome (unless b MismatchedTypes (unless (list_all (fits t) c.values) CastRefused None)) (casted c t)) (λ out k. column_of out ≡ k) r
      → Follows (outcome (cast_refusal c t) (casted c t)) (λ out k. column_of out ≡ k) r
  follows-by b e r h = rw e h

  pub cast-follows : (r : Result Tree VortexError) → is_cast c.dtype t ≡ true → IsCast t c.values r → Follows (outcome (cast_refusal c t) (casted c t)) (λ out k. column_of out ≡ k) r
  cast-follows r e h = follows-by true e r h

  pub cast-mismatched : is_cast c.dtype t ≡ false → Follows (outcome (cast_refusal c t) (casted c t)) (λ out k. column_of out ≡ k) (Err MismatchedTypes)
  cast-mismatched e = follows-by false e (Err MismatchedTypes) (inr refl)

-- a type of integers, from its parts
pub integer-type : (t : PlainType) → is_integer t ≡ true → types.primitive (integer_of t) (nullability_of t) ≡ t
integer-type (types.primitive p n) h = refl
integer-type t h = absurd cc

-- where there is a cast, and not both types are of integers, they are of one base
pub base-cast : (s t : PlainType) → is_cast s t ≡ true → (is_integer s && is_integer t) ≡ false → same_base s t ≡ true
base-cast s t h e = ap (λ b. b || same_base s t) (sym e) ∙ h

-- ---- one value in every row

pub cast-none : (t : PlainType) (v : PlainValue) (n : ℕ) (r : Result Tree VortexError) → n ≡ 0 → OrMemory r (λ out. column_of out ≡ column t []) → IsCast t (replicate n v) r
cast-none t v zero r e h = cast-answered t [] r refl h
cast-none t v (suc n) r e h = absurd (omega (arith, e))
