-- Types of kernels, and answers from a refusal that is there or isn't.
use Rattle.std.proofs.Common.{◌≡◌, ◌≤◌, ◌^◌, ◌∙◌, arith, true, refl, sym, ap, subst, Option, None, Some, Result, Ok, Err}
use Rattle.std.specs.Prelude.{IfOk}
use Rattle.vx_base.specs.declared.error.VortexError.{VortexError}
use Rattle.vx_base.specs.declared.dtype.Nullability.{Nullability}
use Rattle.vx_base.specs.declared.dtype.Nullability.TheVariants.{NonNullable}
use Rattle.vx_base.specs.declared.ptype.PType.{PType}
use Rattle.vx_base.specs.declared.ptype.PType.TheVariants.{U8, U16, U32, U64, I8, I16, I32, I64}
use Rattle.vx_base.specs.Integers.{natural_bits}
use Rattle.vx_base.specs.Answers.{Decided, SurelyDecided, OrMemory}
use Rattle.vx_base.specs.PlainType.{PlainType, is_flat, same_base, with_nullability, stored_type}
use Rattle.vx_base.specs.PlainType as types
use Rattle.vx_base.specs.Storable.{same_path}
use Rattle.vx_sparse.specs.Kernels.{is_summable}

-- ---- types

-- an integer type has at most 64 bits
pub bits-most : (p : PType) → 2 ^ natural_bits p ≤ 2 ^ 64
bits-most U8 = omega arith
bits-most U16 = omega arith
bits-most U32 = omega arith
bits-most U64 = omega arith
bits-most I8 = omega arith
bits-most I16 = omega arith
bits-most I32 = omega arith
bits-most I64 = omega arith

pub summable-flat : (t : PlainType) → is_summable t ≡ true → is_flat t ≡ true
summable-flat (types.boolean n) h = refl
summable-flat (types.primitive p n) h = refl
summable-flat t h = absurd cc

flat-with : (t : PlainType) (n : Nullability) → is_flat (with_nullability t n) ≡ is_flat t
flat-with types.null_type n = refl
flat-with (types.boolean m) n = refl
flat-with (types.primitive p m) n = refl
flat-with (types.utf8 m) n = refl
flat-with (types.binary m) n = refl
flat-with (types.timestamp k m) n = refl
flat-with (types.structure fs m) n = refl
flat-with (types.list t m) n = refl
flat-with (types.fixed_size_list t size m) n = refl

-- of one base with a flat type
pub base-flat : (s t : PlainType) → is_flat s ≡ true → same_base s t ≡ true → is_flat t ≡ true
base-flat s t h e = sym (flat-with t NonNullable) ∙ ap is_flat (sym (same_path stored_type (with_nullability s NonNullable) (with_nullability t NonNullable) e)) ∙ flat-with s NonNullable ∙ h

-- ---- answers

module _ {A : Type 0} (refusal : Option VortexError) (P : A → Type 0) where
  pub decides-ok : (result : Result A VortexError) → refusal ≡ None → OrMemory result P → Decided refusal P result
  decides-ok result e h = subst (λ o. Decided o P result) (sym e) h

  pub decides-err : (error : VortexError) → refusal ≡ Some error → Decided refusal P (Err error)
  decides-err error e = subst (λ o. Decided o P (Err error)) (sym e) refl

  pub surely-ok : (a : A) → refusal ≡ None → P a → SurelyDecided refusal P (Ok a)
  surely-ok a e h = subst (λ o. SurelyDecided o P (Ok a)) (sym e) h

  pub surely-err : (error : VortexError) → refusal ≡ Some error → SurelyDecided refusal P (Err error)
  surely-err error e = subst (λ o. SurelyDecided o P (Err error)) (sym e) refl

  pub decided-if_ok : (result : Result A VortexError) → Decided refusal P result → IfOk result P
  decided-if_ok (Ok a) d = by refusal d
    where
      by : (o : Option VortexError) → Decided o P (Ok a) → P a
      by None d = d
      by (Some e) d = absurd d
  decided-if_ok (Err e) d = tt

  -- the one answer is as P says
  pub decided-as : (x : A) (result : Result A VortexError) → (refusal ≡ None → P x) → Decided refusal (λ y. y ≡ x) result → Decided refusal P result
  decided-as x (Ok a) h d = by refusal h d
    where
      by : (o : Option VortexError) → (o ≡ None → P x) → Decided o (λ y. y ≡ x) (Ok a) → Decided o P (Ok a)
      by None h d = subst P (sym d) (h refl)
      by (Some e) h d = d
  decided-as x (Err f) h d = by refusal d
    where
      by : (o : Option VortexError) → Decided o (λ y. y ≡ x) (Err f) → Decided o P (Err f)
      by None d = d
      by (Some e) d = d

pub if_ok-more : {A : Type 0} (P Q : A → Type 0) (result : Result A VortexError) → ((a : A) → P a → Q a) → IfOk result P → IfOk result Q
if_ok-more P Q (Ok a) h d = h a d
if_ok-more P Q (Err e) h d = tt

pub if_ok-all : {A Q : Type 0} (result : Result A VortexError) → Q → IfOk result (λ _. Q)
if_ok-all (Ok a) q = q
if_ok-all (Err e) q = tt

pub or_memory-more : {A : Type 0} (P Q : A → Type 0) (result : Result A VortexError) → ((a : A) → P a → Q a) → OrMemory result P → OrMemory result Q
or_memory-more P Q (Ok a) h d = h a d
or_memory-more P Q (Err e) h d = d

pub ruleset flat_types = (summable-flat, base-flat)
