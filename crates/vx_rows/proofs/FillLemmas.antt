-- Columns with a fill in place of nulls.
use Rattle.std.proofs.Common.{◌≡◌, ◌∙◌, ℕ, zero, suc, Bool, true, false, cond, List, ◌∷◌, map, None, refl, sym, ap, arith}
use Rattle.std.specs.Prelude.{◌||◌, ◌==◌, not, replicate, Result, Ok, Err}
use Rattle.std.specs.List.{list_all}
use Rattle.std.proofs.lemmas.Bool.{and_parts}
use Rattle.std.proofs.lemmas.Bool.Decides.{nat_tests}
use Rattle.vx_base.specs.declared.error.VortexError.{VortexError}
use Rattle.vx_base.specs.Answers.{OrMemory}
use Rattle.vx_base.specs.Defaults.{or_default}
use Rattle.vx_base.specs.PlainScalar.{PlainScalar, fits}
use Rattle.vx_base.specs.PlainType.{PlainType}
use Rattle.vx_base.specs.PlainValue.{PlainValue, is_null}
use Rattle.vx_model.specs.Column.{Column, column, column_of}
use Rattle.vx_model.specs.Tree.{Tree}
use Rattle.vx_model.proofs.PackedLemmas.{passed}
use Rattle.vx_rules.specs.Conversions.{fill_null_refusal}
use Rattle.vx_rules.proofs.FitLaws.{answers_are_columns}

-- ---- what is accepted as a fill

flip : (b : Bool) → not b ≡ true → b ≡ false
flip true h = absurd cc
flip false h = refl

module _ (c : Column) (fill : PlainScalar) (none : fill_null_refusal c fill ≡ None) where
  pub fill-value : is_null fill.value ≡ false
  fill-value = flip (is_null fill.value) (and_parts _ _ (passed _ _ _ none).0).1

  pub filled-fit : (vs : List PlainValue) → list_all (fits c.dtype) vs ≡ true → fits fill.dtype fill.value ≡ true → list_all (fits fill.dtype) (map (or_default fill.value) vs) ≡ true
  filled-fit vs h f = answers_are_columns.fill_null (column c.dtype vs) fill h f none

-- the column of an answer, by an equation
pub answer-along : (r : Result Tree VortexError) (c d : Column) → c ≡ d → OrMemory r (λ out. column_of out ≡ c) → OrMemory r (λ out. column_of out ≡ d)
answer-along (Ok t) c d e h = h ∙ e
answer-along (Err x) c d e h = h

-- ---- one value in every row

pub same-nulls : (fill v : PlainValue) (n : ℕ) → is_null v ≡ true → map (or_default fill) (replicate n v) ≡ replicate n fill
same-nulls fill v zero e = refl
same-nulls fill v (suc n) e = (λ i. cond (e i) fill v ∷ map (or_default fill) (replicate n v)) ∙ ap (λ vs. fill ∷ vs) (same-nulls fill v n e)

pub same-values : (fill v : PlainValue) (n : ℕ) → is_null v ≡ false → map (or_default fill) (replicate n v) ≡ replicate n v
same-values fill v zero e = refl
same-values fill v (suc n) e = (λ i. cond (e i) fill v ∷ map (or_default fill) (replicate n v)) ∙ ap (λ vs. v ∷ vs) (same-values fill v n e)

pub same-fits : (t : PlainType) (fill v : PlainValue) (n : ℕ) → list_all (fits t) (map (or_default fill) (replicate n v)) ≡ true → is_null v ≡ false → (n == 0) ≡ false → fits t v ≡ true
same-fits t fill v zero h e k = absurd cc
same-fits t fill v (suc n) h e k =
    let all : list_all (fits t) (replicate (suc n) v) ≡ true = sym (ap (list_all (fits t)) (same-values fill v (suc n) e)) ∙ h in
    (and_parts (fits t v) (list_all (fits t) (replicate n v)) all).0

-- by the test of both
or-false : (b : Bool) → (b || false) ≡ true → b ≡ true
or-false true h = refl
or-false false h = absurd cc

neither : (b c : Bool) → (b || c) ≡ false → (b ≡ false) × (c ≡ false)
neither true c h = absurd cc
neither false c h = (refl, h)

pub same-filled : (fill v : PlainValue) (n : ℕ) → (is_null v || n == 0) ≡ true → map (or_default fill) (replicate n v) ≡ replicate n fill
same-filled fill v zero h = refl
same-filled fill v (suc n) h =
    let no : (suc n == 0) ≡ false = grind (arith, nat_tests) in
    same-nulls fill v (suc n) (or-false (is_null v) (ap (λ b. is_null v || b) (sym no) ∙ h))

pub same-own : (fill v : PlainValue) (n : ℕ) → (is_null v || n == 0) ≡ false → map (or_default fill) (replicate n v) ≡ replicate n v
same-own fill v n h = same-values fill v n (neither (is_null v) (n == 0) h).0

pub own-fits : (t : PlainType) (fill v : PlainValue) (n : ℕ) → list_all (fits t) (map (or_default fill) (replicate n v)) ≡ true → (is_null v || n == 0) ≡ false → fits t v ≡ true
own-fits t fill v n h k = let both = neither (is_null v) (n == 0) k in same-fits t fill v n h both.0 both.1
