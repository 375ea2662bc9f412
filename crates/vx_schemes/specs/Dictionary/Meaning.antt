-- What the dictionary scheme of integers means.
use Rattle.std.specs.Prelude.{◌≡◌, ◌≤◌, ℕ, ℤ, ◌+◌, ◌*◌, ◌/◌, ◌==◌, nat_lt, min, Bool, true, false, ◌||◌, cond, if◌then◌else◌, List, [], ◌∷◌, length, map, All, Option, None, Some, codes}
use Rattle.std.proofs.Common.{arith, subst, sym, ◌∙◌}
use Rattle.std.proofs.lemmas.List.Elements.{recursion_from_All}
use Rattle.vx_base.specs.declared.array_id.ArrayId.TheVariants.{Dict}
use Rattle.vx_base.specs.Digits.{digits}
use Rattle.vx_base.specs.IdNumber.{same_id}
use Rattle.vx_base.specs.Integers.{bits_of}
use Rattle.vx_base.specs.PlainType.{is_integer, integer_of}
use Rattle.vx_base.specs.PlainValue.{PlainValue}
use Rattle.vx_model.specs.Column.{Column, IsColumn, column_of}
use Rattle.vx_model.specs.Tree.{Tree}
use Rattle.vx_model.specs.WellFormed.{WellFormed}
use Rattle.vx_scheme.specs.Lawful.{Lawful, IsPart}
use Rattle.vx_scheme.specs.Meaning.{Meaning, PlainSplit, kept, finished, parts}
use Rattle.vx_scheme.specs.Scores.{ratio_of}
use Rattle.vx_stats.specs.Stats.{value_count, distinct_values, distinct_count, average_run_length}
use Rattle.vx_scheme.specs.declared.estimate.CompressionEstimate.TheVariants.{Verdict}
use Rattle.vx_scheme.specs.declared.estimate.EstimateVerdict.{EstimateVerdict}
use Rattle.vx_scheme.specs.declared.estimate.EstimateVerdict.TheVariants.{Skip}
use Rattle.vx_schemes.specs.Dictionary.Tree.{dictionary_values, dictionary_codes}
use Rattle.vx_schemes_common.specs.Dictionaries.{dictionary_or_plain}
use Rattle.vx_schemes_common.specs.Pairs.{pair_of}
use Rattle.vx_schemes_common.specs.StandsFor.{StandsFor}
use Rattle.vx_schemes.specs.Dictionary.Laws.{dictionary-small, dictionary-stands}
use Rattle.vx_schemes.specs.declared.integer.dictionary.IntDictScheme.{IntDictScheme}

-- the bits of codes of some width: a code a value, or a code and an end of 32 bits a run, whichever is less
abbrev pub code_bits : ℕ → ℕ → ℕ → ℕ
code_bits width values run_length = min (width * values) ((width + 32) * (values / run_length))

-- bits(values) / (bits(distinct values) + bits(codes)); Skip where there is no value, or more than half are distinct
abbrev pub dictionary_verdict : ℕ → ℕ → ℕ → ℕ → EstimateVerdict
dictionary_verdict bits values distinct run_length =
    if (values == 0) || nat_lt (values / 2) distinct then Skip else ratio_of (values * bits) (bits * distinct + code_bits (digits distinct) values run_length)

-- the verdict on a column
abbrev pub dictionary_estimate : Column → EstimateVerdict
dictionary_estimate c = dictionary_verdict (bits_of (integer_of c.dtype)) (value_count c.values) (distinct_count c.values) (average_run_length c.values)

-- the distinct values; None where there is no value
abbrev pub values_found : List PlainValue → Option (List ℤ)
values_found values = if value_count values == 0 then None else Some (distinct_values values)

-- the values and the codes; nothing where there is no value
abbrev pub dictionary_parts : Column → PlainSplit
dictionary_parts c = if value_count c.values == 0 then kept else parts (dictionary_values c ∷ dictionary_codes c ∷ [])

-- the distinct values are part 0, and the codes part 1
abbrev pub int_dict_meaning : IntDictScheme → Meaning
int_dict_meaning s = record {
  name = codes "vortex.int.dict";
  takes = is_integer;
  children = 2;
  options = record { count_distinct_values = true };
  produces = λ id. same_id id Dict;
  descendants = [];
  ancestors = [];
  estimate = λ c site. Verdict (dictionary_estimate c);
  resolve = λ c site. Skip;
  splits = λ c site. dictionary_parts c;
  joined = λ c site trees. dictionary_or_plain c (pair_of trees);
}

parts-are : (c : Column) (columns : List Column) → dictionary_parts c ≡ parts columns → dictionary_values c ∷ dictionary_codes c ∷ [] ≡ columns
parts-are c columns e = by_test (value_count c.values == 0) e
  where
    by_test : (b : Bool) → cond b kept (parts (dictionary_values c ∷ dictionary_codes c ∷ [])) ≡ parts columns → dictionary_values c ∷ dictionary_codes c ∷ [] ≡ columns
    by_test true k = absurd cc
    by_test false k = cc

pub unfinished : (c : Column) (tree : Tree) → dictionary_parts c ≡ finished tree → ⊥
unfinished c tree e = by_test (value_count c.values == 0) e
  where
    by_test : (b : Bool) → cond b kept (parts (dictionary_values c ∷ dictionary_codes c ∷ [])) ≡ finished tree → ⊥
    by_test true k = cc
    by_test false k = cc

joined : (c : Column) (trees : List Tree) → is_integer c.dtype ≡ true → IsColumn c → All WellFormed trees → map column_of trees ≡ dictionary_values c ∷ dictionary_codes c ∷ [] → StandsFor (dictionary_or_plain c (pair_of trees)) c
joined c [] j h well fit = absurd cc
joined c (values ∷ []) j h well fit = absurd cc
joined c (values ∷ coded ∷ []) j h well fit =
    let each = recursion_from_All WellFormed (values ∷ coded ∷ []) well in
    let v : column_of values ≡ dictionary_values c = cc in
    let k : column_of coded ≡ dictionary_codes c = cc in
    dictionary-stands c coded values j h each.1.0 each.0 v k
joined c (values ∷ coded ∷ tree ∷ trees) j h well fit = absurd cc

pub int_dict_lawful : (s : IntDictScheme) → Lawful (int_dict_meaning s)
int_dict_lawful s = record {
  finished_well = λ c site tree asked e. absurd (unfinished c tree e);
  joined_well = λ c site columns trees asked e well fit. joined c trees asked.taken asked.column well (fit ∙ sym (parts-are c columns e));
  few_parts = λ c site columns asked e. subst (λ cs. length cs ≤ 2) (parts-are c columns e) (omega arith);
  small_parts = λ c site columns asked e. subst (All (IsPart c)) (parts-are c columns e) (dictionary-small c asked.taken asked.column asked.few);
}
