-- The parts of a dictionary of texts or binaries, and its estimate, as calls find them.
use Rattle.std.proofs.Common.{◌≡◌, ◌∙◌, Bool, true, false, cond, List, [], ◌∷◌, Some, None, sym, ap, subst}
use Rattle.std.specs.Prelude.{◌==◌, IfSome}
use Rattle.std.proofs.lemmas.Bool.{eq-eqb, ne_eqb}
use Rattle.vx_base.specs.PlainType.{is_bytes}
use Rattle.vx_base.specs.PlainValue.{PlainValue}
use Rattle.vx_model.specs.Column.{Column}
use Rattle.vx_model.specs.Plain.{plain}
use Rattle.vx_model.specs.Refusals.{dict_refusal}
use Rattle.vx_model.specs.Tree.{Tree}
use Rattle.vx_scheme.specs.Asked.{FitParts}
use Rattle.vx_scheme.specs.Meaning.{kept, parts, split_of}
use Rattle.vx_scheme.specs.declared.estimate.CompressionEstimate.{CompressionEstimate}
use Rattle.vx_scheme.specs.declared.split.Split.TheVariants.{Kept, Parts}
use Rattle.vx_stats.specs.Rows.{valid_count}
use Rattle.vx_stats.specs.Strings.{PlainStrings, distinct_keys, strings_of}
use Rattle.vx_stats.specs.declared.options.GenerateStatsOptions.{GenerateStatsOptions}
use Rattle.vx_schemes_common.specs.Pairs.{pair_of}
use Rattle.vx_schemes_common.proofs.PairLemmas.{no_pair, pair-fits}
use Rattle.vx_schemes_text.specs.Dictionary.Laws.{dictionary-admitted}
use Rattle.vx_schemes_text.specs.Dictionary.Meaning.{dictionary_parts, tried_or_skipped}
use Rattle.vx_schemes_text.specs.Dictionary.Tree.{dictionary_values, dictionary_codes}

-- ---- splits

pub kept-split : (c : Column) → valid_count c.values ≡ 0 → Kept ≡ split_of (dictionary_parts c)
kept-split c e = ap (λ b. split_of (cond b kept (parts (dictionary_values c ∷ dictionary_codes c ∷ [])))) (sym (eq-eqb (valid_count c.values) 0 e))

pub parts-split : (c : Column) (pair : Tree × Tree) → (valid_count c.values ≡ 0 → ⊥) → ◌≡◌ {A = Tree × Tree} pair (plain (dictionary_values c), plain (dictionary_codes c)) → Parts (pair.0 ∷ pair.1 ∷ []) ≡ split_of (dictionary_parts c)
parts-split c pair some are =
    ap (λ (p : Tree × Tree). Parts (p.0 ∷ p.1 ∷ [])) are ∙ ap (λ b. split_of (cond b kept (parts (dictionary_values c ∷ dictionary_codes c ∷ [])))) (sym (ne_eqb (valid_count c.values) 0 some))

-- ---- the joined tree

-- two trees of the parts, values first, are admitted
pub pair-admitted : (c : Column) (trees : List Tree) (x y : Tree) → is_bytes c.dtype ≡ true → Some (x, y) ≡ pair_of trees → FitParts (dictionary_parts c) trees → dict_refusal y x ≡ None
pair-admitted c trees x y typed e fit = by_test (valid_count c.values == 0) fit
  where
    by_test : (b : Bool) → FitParts (cond b kept (parts (dictionary_values c ∷ dictionary_codes c ∷ []))) trees → dict_refusal y x ≡ None
    by_test true f = absurd (no_pair trees x y e f)
    by_test false f = let both = pair-fits trees x y (dictionary_values c) (dictionary_codes c) e f in dictionary-admitted c y x typed both.0 both.1

-- ---- the estimate

-- the verdict by statistics that have the estimate
pub estimate-told : (s : PlainStrings) (options : GenerateStatsOptions) (vs : List PlainValue) (e : CompressionEstimate) → s ≡ strings_of options vs → options.count_distinct_values ≡ true
    → IfSome s.estimated_distinct_count (λ keys. e ≡ tried_or_skipped s.value_count keys) → e ≡ tried_or_skipped (valid_count vs) (distinct_keys vs)
estimate-told s options vs e is asked h =
    let known = subst (λ t. IfSome t.estimated_distinct_count (λ keys. e ≡ tried_or_skipped t.value_count keys)) is h in
    subst (λ b. IfSome (cond b (Some (distinct_keys vs)) None) (λ keys. e ≡ tried_or_skipped (valid_count vs) keys)) asked known
