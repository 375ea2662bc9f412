-- The estimate of the sparse scheme, by the counts.
use Rattle.std.proofs.Common.{◌≡◌, ◌≤◌, ◌*◌, ◌∙◌, ℕ, true, false, refl, sym}
use Rattle.std.specs.Prelude.{◌-◌, nat_lt}
use Rattle.std.proofs.lemmas.Bool.{ne_eqb, le-ltb}
use Rattle.vx_base.specs.declared.fraction.Fraction.{Fraction}
use Rattle.vx_base.specs.Fractions.{numerator, divisor}
use Rattle.vx_scheme.specs.Scores.{ratio_of}
use Rattle.vx_scheme.specs.declared.estimate.EstimateVerdict.TheVariants.{Ratio}
use Rattle.vx_scheme.proofs.RatioLemmas.{Ratio-parts}
use Rattle.vx_schemes_runs.specs.Sparse.Meaning.{sparse_verdict}

-- where most rows are null
pub mostly-null : (rows nulls values often : ℕ) (x : Fraction) → (values ≡ 0 → ⊥) → nat_lt (9 * rows) (10 * nulls) ≡ true → numerator x ≡ rows → divisor x ≡ values → Ratio x ≡ sparse_verdict rows nulls values often
mostly-null rows nulls values often x some most num den =
    let is : sparse_verdict rows nulls values often ≡ ratio_of rows values = rw (ne_eqb values 0 some, most) refl in
    Ratio-parts x rows values num den ∙ sym is

-- where one value stands in 9 of 10 valid rows but not in all
pub frequent : (rows nulls values often : ℕ) (x : Fraction) → (values ≡ 0 → ⊥) → nat_lt (9 * rows) (10 * nulls) ≡ false → (often ≡ values → ⊥) → 9 * values ≤ 10 * often → numerator x ≡ values → divisor x ≡ values - often
    → Ratio x ≡ sparse_verdict rows nulls values often
frequent rows nulls values often x some few other nine num den =
    let is : sparse_verdict rows nulls values often ≡ ratio_of values (values - often) = rw (ne_eqb values 0 some, few, ne_eqb often values other, le-ltb (10 * often) (9 * values) nine) refl in
    Ratio-parts x values (values - often) num den ∙ sym is
