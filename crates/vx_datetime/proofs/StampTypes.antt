-- Columns of the same timestamps, up to nullability, and answers of calls that don't refuse them.
use Rattle.std.proofs.Common.{◌≡◌, ◌∙◌, ◌<ℤ◌, ℤ, pos, true, length, refl, sym, ap, subst, arith, Option, Some, None, Result, Ok, Err, unwrap_or}
use Rattle.std.specs.Prelude.{IfOk}
use Rattle.std.proofs.lemmas.Bool.{eq-eqb}
use Rattle.std.proofs.lemmas.Int.{ints}
use Rattle.vx_base.specs.declared.dtype.Nullability.{Nullability}
use Rattle.vx_base.specs.declared.dtype.Nullability.TheVariants.{NonNullable}
use Rattle.vx_base.specs.declared.error.VortexError.{VortexError}
use Rattle.vx_base.specs.declared.timestamp.TimeUnit.{TimeUnit}
use Rattle.vx_base.specs.declared.timestamp.TimeUnit.TheVariants.{Nanoseconds, Microseconds, Milliseconds, Seconds, Days}
use Rattle.vx_base.specs.Answers.{Decided, OrMemory}
use Rattle.vx_base.specs.PlainType.{PlainType, integer_of, is_flat, is_integer, nullability_of, same_base, stored_type, with_nullability}
use Rattle.vx_base.specs.PlainType as types
use Rattle.vx_base.specs.Storable.{same_path}
use Rattle.vx_base.specs.Timestamps.{PlainTimestamp, divisor_of}
use Rattle.vx_model.specs.Column.{Column}
use Rattle.vx_rules.specs.Comparisons.{between_refusal, compare_refusal}
use Rattle.vx_time.specs.PartsOf.{units_per_second}

-- ---- types

alike : (k : PlainTimestamp) (t : PlainType) → types.timestamp k NonNullable ≡ with_nullability t NonNullable → t ≡ types.timestamp k (nullability_of t)
alike k (types.timestamp j n) e = let same : j ≡ k = cc in ap (λ i. types.timestamp i n) same
alike k t e = absurd cc

pub same-stamp : (k : PlainTimestamp) (n : Nullability) (t : PlainType) → same_base (types.timestamp k n) t ≡ true → t ≡ types.timestamp k (nullability_of t)
same-stamp k n t e = alike k t (same_path stored_type (types.timestamp k NonNullable) (with_nullability t NonNullable) e)

-- a type with the base of a timestamp's is flat
pub stamp-flat : (s t : PlainType) (k : PlainTimestamp) (n : Nullability) → s ≡ types.timestamp k n → same_base s t ≡ true → is_flat t ≡ true
stamp-flat s t k n e h = ap is_flat (same-stamp k n t (subst (λ x. same_base x t ≡ true) e h))

-- an integer type, by its parts
pub whole-type : (t : PlainType) → is_integer t ≡ true → t ≡ types.primitive (integer_of t) (nullability_of t)
whole-type (types.primitive p n) h = refl
whole-type t h = absurd cc

-- ---- units

pub divisor-is : (u : TimeUnit) (d : ℤ) → Some d ≡ divisor_of u → d ≡ units_per_second u
divisor-is u d e = ap (λ o. unwrap_or o (pos 0)) e

some_divisor : (u : TimeUnit) (d : ℤ) → Some d ≡ divisor_of u → pos 0 <ℤ units_per_second u
some_divisor Nanoseconds d e = omega (arith, ints)
some_divisor Microseconds d e = omega (arith, ints)
some_divisor Milliseconds d e = omega (arith, ints)
some_divisor Seconds d e = omega (arith, ints)
some_divisor Days d e = absurd cc

pub divisor-positive : (u : TimeUnit) (d : ℤ) → Some d ≡ divisor_of u → pos 0 <ℤ d
divisor-positive u d e = subst (λ x. pos 0 <ℤ x) (sym (divisor-is u d e)) (some_divisor u d e)

-- ---- answers

pub decided-ok : {A : Type 0} (r : Option VortexError) (P : A → Type 0) (a : A) → Decided r P (Ok a) → (r ≡ None) × P a
decided-ok None P a h = (refl, h)
decided-ok (Some e) P a h = absurd h

pub decided-or : {A : Type 0} (r : Option VortexError) (P : A → Type 0) (result : Result A VortexError) → r ≡ None → Decided r P result → OrMemory result P
decided-or r P result e h = subst (λ x. Decided x P result) e h

pub or-decided : {A : Type 0} (r : Option VortexError) (P : A → Type 0) (result : Result A VortexError) → r ≡ None → OrMemory result P → Decided r P result
or-decided r P result e h = subst (λ x. Decided x P result) (sym e) h

-- an error that is a column's is another's with the same refusal
pub decided-err : {A B : Type 0} (r s : Option VortexError) (P : A → Type 0) (Q : B → Type 0) (e : VortexError) → r ≡ s → Decided r P (Err e) → Decided s Q (Err e)
decided-err None None P Q e h d = d
decided-err (Some f) (Some g) P Q e h d = d ∙ (let same : f ≡ g = cc in same)
decided-err None (Some g) P Q e h d = absurd cc
decided-err (Some f) None P Q e h d = absurd cc

pub decided-first : {A : Type 0} (r : Option VortexError) (P Q : A → Type 0) (result : Result A VortexError) → Decided r (λ a. P a × Q a) result → Decided r P result
decided-first None P Q (Ok a) h = h.0
decided-first None P Q (Err e) h = h
decided-first (Some f) P Q (Ok a) h = h
decided-first (Some f) P Q (Err e) h = h

pub decided-second : {A : Type 0} (r : Option VortexError) (P Q : A → Type 0) (result : Result A VortexError) → Decided r (λ a. P a × Q a) result → IfOk result Q
decided-second None P Q (Ok a) h = h.1
decided-second (Some f) P Q (Ok a) h = absurd h
decided-second r P Q (Err e) h = tt

-- ---- refusals

pub compared-unrefused : (c d : Column) → is_flat c.dtype ≡ true → same_base c.dtype d.dtype ≡ true → length c.values ≡ length d.values → compare_refusal c d ≡ None
compared-unrefused c d f b l = rw (f, b, eq-eqb (length c.values) (length d.values) l) refl

pub within-unrefused : (c low high : Column) → is_flat c.dtype ≡ true → same_base c.dtype low.dtype ≡ true → same_base c.dtype high.dtype ≡ true → length c.values ≡ length low.values → length c.values ≡ length high.values
    → between_refusal c low high ≡ None
within-unrefused c low high f a b l m = rw (f, a, b, eq-eqb (length c.values) (length low.values) l, eq-eqb (length c.values) (length high.values) m) refl
