-- The statistics of a column whose dictionary is made, and what the dictionary stands for.
use Rattle.std.proofs.Common.{◌≡◌, ◌<◌, ◌^◌, ◌∙◌, ℕ, ℤ, List, length, map, true, Some, None, refl, ap, subst, arith}
use Rattle.std.specs.Prelude.{IfSome, Result, Ok, Err}
use Rattle.vx_base.specs.Answers.{Answers, OrMemory}
use Rattle.vx_base.specs.declared.error.VortexError.{VortexError}
use Rattle.vx_base.specs.declared.ptype.PType.{PType}
use Rattle.vx_base.proofs.IntegerLemmas.{integers-few}
use Rattle.vx_base.specs.PlainType.{is_integer}
use Rattle.vx_base.specs.PlainValue.{PlainValue}
use Rattle.vx_model.specs.Column.{Column, IsColumn, column_of}
use Rattle.vx_model.specs.Plain.{plain}
use Rattle.vx_model.specs.Refusals.{dict_refusal}
use Rattle.vx_model.specs.Tree.{Tree}
use Rattle.vx_model.proofs.PlainLemmas.{column_of-plain}
use Rattle.vx_stats.specs.Stats.{PlainStats, stats_of, distinct_values, distinct_count, distinct_counts}
use Rattle.vx_schemes.specs.Dictionary.Tree.{dictionary_values, dictionary_codes, dictionary_of, distinct_options}
use Rattle.vx_schemes.specs.Dictionary.Laws.{values-fit, codes-column, dictionary-admitted, dictionary-column}
use Rattle.vx_schemes.proofs.Dictionary.Ratio.{distinct-told}
use Rattle.vx_schemes.proofs.Dictionary.Tree.{uncounted-distinct}

module _ (p : PType) (vs : List PlainValue) (stats : PlainStats) (is : stats ≡ stats_of distinct_options p vs) (some : 0 < stats.value_count) where
  rows-some : 0 < length vs
  rows-some = omega (arith, integers-few vs, ap (λ s. s.value_count) is)

  told : stats.distinct ≡ Some (distinct_counts vs)
  told = ap (λ s. s.distinct) is ∙ distinct-told distinct_options vs refl rows-some

  -- what holds of the told values, where there are any
  pub told-if : (P : List (ℤ × ℕ) → Type 0) → IfSome stats.distinct P → P (distinct_counts vs)
  told-if P h = subst (λ o. IfSome o P) told h

  pub told-values : (zs : List ℤ) → IfSome stats.distinct (λ counts. zs ≡ map (λ c. c.0) counts) → zs ≡ distinct_values vs
  told-values zs h = told-if (λ counts. zs ≡ map (λ c. c.0) counts) h ∙ uncounted-distinct vs

-- ---- the dictionary

module _ (c : Column) (j : is_integer c.dtype ≡ true) (h : IsColumn c) (few : distinct_count c.values < 2 ^ 32) where
  values-back : column_of (plain (dictionary_values c)) ≡ dictionary_values c
  values-back = column_of-plain (dictionary_values c) (values-fit c j h)

  codes-back : column_of (plain (dictionary_codes c)) ≡ dictionary_codes c
  codes-back = column_of-plain (dictionary_codes c) (codes-column c j h (omega arith))

  pub dictionary-accepted : dict_refusal (plain (dictionary_codes c)) (plain (dictionary_values c)) ≡ None
  dictionary-accepted = dictionary-admitted c (plain (dictionary_codes c)) (plain (dictionary_values c)) j h values-back codes-back

  column_of-dictionary : column_of (dictionary_of c) ≡ c
  column_of-dictionary = dictionary-column c (plain (dictionary_codes c)) (plain (dictionary_values c)) j h values-back codes-back

  pub dictionary-kept : (result : Result Tree VortexError) → Answers result (dictionary_of c) → OrMemory result (λ tree. column_of tree ≡ c)
  dictionary-kept (Ok tree) is = ap column_of is ∙ column_of-dictionary
  dictionary-kept (Err e) is = is
