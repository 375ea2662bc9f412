-- What a dictionary's estimate rests on: the statistics of the column, and that runs aren't empty.
use Rattle.std.proofs.Common.{◌≡◌, ◌<◌, ◌≤◌, ◌+◌, ◌*◌, ◌/◌, ◌∙◌, ℕ, suc, ℤ, Bool, true, false, cond, List, [], ◌∷◌, length, Some, refl, sym, ap, subst, arith}
use Rattle.std.specs.Prelude.{◌==◌, ◌||◌, nat_lt}
use Rattle.std.specs.Ordering.{int_eq}
use Rattle.std.proofs.lemmas.Bool.{cond-false, ne_eqb, lt-ltb, le-ltb}
use Rattle.std.proofs.lemmas.Nat.{le-div}
use Rattle.vx_base.specs.declared.ptype.PType.{PType}
use Rattle.vx_base.specs.declared.fraction.Fraction.{Fraction}
use Rattle.vx_base.specs.Digits.{digits}
use Rattle.vx_base.specs.Fractions.{numerator, divisor}
use Rattle.vx_base.specs.PlainValue.{PlainValue}
use Rattle.vx_scheme.specs.Scores.{ratio_of}
use Rattle.vx_stats.specs.Stats.{PlainStats, stats_of, valid_wholes, runs_after, run_count, distinct_counts, distinct_info}
use Rattle.vx_scheme.specs.declared.estimate.EstimateVerdict.TheVariants.{Skip, Ratio}
use Rattle.vx_stats.specs.declared.options.GenerateStatsOptions.{GenerateStatsOptions}
use Rattle.vx_scheme.proofs.RatioLemmas.{Ratio-parts}
use Rattle.vx_schemes.specs.Dictionary.Meaning.{code_bits, dictionary_verdict}

-- ---- a run has a value

runs_after-few : (z : ℤ) (zs : List ℤ) → runs_after z zs ≤ length zs
runs_after-few z [] = omega arith
runs_after-few z (w ∷ ws) = by_test (int_eq z w) (runs_after-few w ws)
  where
    by_test : (b : Bool) → runs_after w ws ≤ length ws → cond b 0 1 + runs_after w ws ≤ suc (length ws)
    by_test true h = omega (arith, h)
    by_test false h = omega (arith, h)

average-some : (zs : List ℤ) → 0 < length zs → 0 < cond (length zs == 0) 0 (length zs / run_count zs)
average-some [] h = absurd (omega arith)
average-some (z ∷ zs) h =
    let one : 1 ≤ length (z ∷ zs) / run_count (z ∷ zs) = le-div 1 (length (z ∷ zs)) (run_count (z ∷ zs)) (omega arith) (omega (arith, runs_after-few z zs)) in
    subst (λ n. 0 < n) (sym (cond-false (length (z ∷ zs) == 0) 0 _ (ne_eqb (length (z ∷ zs)) 0 (λ (e : length (z ∷ zs) ≡ 0). omega arith)))) (omega (arith, one))

pub average-positive : (o : GenerateStatsOptions) (p : PType) (vs : List PlainValue) (s : PlainStats) → s ≡ stats_of o p vs → 0 < s.value_count → 0 < s.average_run_length
average-positive o p vs s e h = subst (λ n. 0 < n) (sym (ap (λ t. t.average_run_length) e)) (average-some (valid_wholes vs) (subst (λ n. 0 < n) (ap (λ t. t.value_count) e) h))

-- ---- the distinct values are told

pub distinct-told : (o : GenerateStatsOptions) (vs : List PlainValue) → o.count_distinct_values ≡ true → 0 < length vs → distinct_info o vs ≡ Some (distinct_counts vs)
distinct-told o vs asked some = let t : nat_lt 0 (length vs) ≡ true = lt-ltb _ _ some in rw (asked, t) refl

-- ---- the ratio where at most half of the values are distinct

pub verdict-ratio : (bits values distinct run_length : ℕ) (x : Fraction) → (values ≡ 0 → ⊥) → distinct ≤ values / 2 → numerator x ≡ values * bits
    → divisor x ≡ bits * distinct + code_bits (digits distinct) values run_length → Ratio x ≡ dictionary_verdict bits values distinct run_length
verdict-ratio bits values distinct run_length x some few num den =
    let tests : ((values == 0) || nat_lt (values / 2) distinct) ≡ false = rw (ne_eqb values 0 some, le-ltb (values / 2) distinct few) refl in
    Ratio-parts x _ _ num den ∙ sym (cond-false _ Skip (ratio_of (values * bits) (bits * distinct + code_bits (digits distinct) values run_length)) tests)
