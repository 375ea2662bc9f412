-- Types of one base, and values of both.
use Rattle.std.proofs.Common.{◌≡◌, ◌∙◌, ◌<◌, ◌+◌, ℕ, zero, suc, Bool, true, false, cond, List, [], ◌∷◌, refl, sym, ap, arith}
use Rattle.std.specs.Prelude.{◌&&◌, ◌==◌, count_by}
use Rattle.std.specs.List.{list_all}
use Rattle.std.proofs.lemmas.Bool.{and_parts, and_from}
use Rattle.std.proofs.lemmas.Bool.Decides.{nat_tests}
use Rattle.std.proofs.lemmas.List.Sums.{sum_by-cons}
use Rattle.vx_base.specs.declared.dtype.Nullability.TheVariants.{NonNullable}
use Rattle.vx_base.specs.PlainScalar.{fits}
use Rattle.vx_base.specs.PlainType.{PlainType, is_nullable, same_base, stored_type, with_nullability}
use Rattle.vx_base.specs.PlainValue.{PlainValue, null, truth, int, bytes, items, is_null}
use Rattle.vx_base.specs.Storable.{same_from}
use Rattle.vx_rules.proofs.FitLaws.{fits-base}

pub alike : (s t : PlainType) (b : Bool) → (b ≡ true → with_nullability s NonNullable ≡ with_nullability t NonNullable) → (with_nullability s NonNullable ≡ with_nullability t NonNullable → b ≡ true) → b ≡ same_base s t
alike s t b f g = same_from stored_type (with_nullability s NonNullable) (with_nullability t NonNullable) b f g

-- ---- values of one type, as those of the other

count-next : (v : PlainValue) (vs : List PlainValue) → count_by is_null (v ∷ vs) ≡ cond (is_null v) 1 0 + count_by is_null vs
count-next v vs = sum_by-cons (λ w. cond (is_null w) 1 0) v vs

module _ (s t : PlainType) (same : same_base s t ≡ true) where
  -- each of them, where the other type admits null or the value isn't null
  pub base-fits : (v : PlainValue) → fits s v ≡ true → (is_null v ≡ true → is_nullable t ≡ true) → fits t v ≡ true
  base-fits null h k = k refl
  base-fits (truth b) h k = fits-base s t (truth b) same refl h
  base-fits (int z) h k = fits-base s t (int z) same refl h
  base-fits (bytes bs) h k = fits-base s t (bytes bs) same refl h
  base-fits (items vs) h k = fits-base s t (items vs) same refl h

  pub nullable-fit : (vs : List PlainValue) → is_nullable t ≡ true → list_all (fits s) vs ≡ true → list_all (fits t) vs ≡ true
  nullable-fit [] n h = refl
  nullable-fit (v ∷ vs) n h =
      let b = and_parts (fits s v) (list_all (fits s) vs) h in
      and_from _ _ (base-fits v b.0 (λ e. n)) (nullable-fit vs n b.1)

  pub valid-fit : (vs : List PlainValue) → count_by is_null vs ≡ 0 → list_all (fits s) vs ≡ true → list_all (fits t) vs ≡ true
  valid-fit [] n h = refl
  valid-fit (v ∷ vs) n h =
      let b = and_parts (fits s v) (list_all (fits s) vs) h in
      by (is_null v) refl b.0 (valid-fit vs (omega (arith, n, count-next v vs)) b.1)
    where
      by : (b : Bool) → is_null v ≡ b → fits s v ≡ true → list_all (fits t) vs ≡ true → list_all (fits t) (v ∷ vs) ≡ true
      by true e here rest = let one : ◌≡◌ {A = ℕ} (cond (is_null v) 1 0) 1 = ap (λ c. cond c 1 0) e in absurd (omega (arith, n, one, count-next v vs))
      by false e here rest = and_from _ _ (fits-base s t v same e here) rest

unfit-next : (b c : Bool) → c ≡ false → (b && c) ≡ false
unfit-next true c e = e
unfit-next false c e = refl

-- a null is of no type that isn't nullable
pub null-unfit : (t : PlainType) (vs : List PlainValue) → is_nullable t ≡ false → 0 < count_by is_null vs → list_all (fits t) vs ≡ false
null-unfit t [] n h = absurd (omega (arith, h))
null-unfit t (null ∷ vs) n h = ap (λ b. b && list_all (fits t) vs) n
null-unfit t (truth b ∷ vs) n h = unfit-next (fits t (truth b)) _ (null-unfit t vs n h)
null-unfit t (int z ∷ vs) n h = unfit-next (fits t (int z)) _ (null-unfit t vs n h)
null-unfit t (bytes bs ∷ vs) n h = unfit-next (fits t (bytes bs)) _ (null-unfit t vs n h)
null-unfit t (items ws ∷ vs) n h = unfit-next (fits t (items ws)) _ (null-unfit t vs n h)

pub null-test : (s t : PlainType) (vs : List PlainValue) (n : ℕ) → same_base s t ≡ true → is_nullable t ≡ false → list_all (fits s) vs ≡ true → n ≡ count_by is_null vs → (n == 0) ≡ list_all (fits t) vs
null-test s t vs zero same e h k = sym (valid-fit s t same vs (sym k) h)
null-test s t vs (suc n) same e h k = let no : (suc n == 0) ≡ false = grind (arith, nat_tests) in no ∙ sym (null-unfit t vs e (omega (arith, k)))
