-- What the dictionary schemes of texts and of binaries mean.
use Rattle.std.specs.Prelude.{◌≡◌, ◌≤◌, ℕ, ◌/◌, ◌==◌, ◌||◌, nat_lt, Bool, true, false, cond, if◌then◌else◌, List, [], ◌∷◌, length, All, codes}
use Rattle.std.proofs.Common.{arith, subst, sym, ◌∙◌}
use Rattle.vx_base.specs.declared.array_id.ArrayId.TheVariants.{Dict}
use Rattle.vx_base.specs.IdNumber.{same_id}
use Rattle.vx_base.specs.PlainType.{PlainType, is_bytes, is_text}
use Rattle.vx_model.specs.Column.{Column}
use Rattle.vx_model.specs.Tree.{Tree}
use Rattle.vx_scheme.specs.Lawful.{Lawful, IsPart}
use Rattle.vx_scheme.specs.Meaning.{Meaning, PlainSplit, kept, finished, parts}
use Rattle.vx_scheme.specs.Rules.{Rule}
use Rattle.vx_scheme.specs.declared.estimate.CompressionEstimate.{CompressionEstimate}
use Rattle.vx_scheme.specs.declared.estimate.CompressionEstimate.TheVariants.{Verdict, Deferred}
use Rattle.vx_scheme.specs.declared.estimate.DeferredEstimate.TheVariants.{Sample}
use Rattle.vx_scheme.specs.declared.estimate.EstimateVerdict.TheVariants.{Skip}
use Rattle.vx_scheme.specs.declared.selection.ChildSelection.TheVariants.{One}
use Rattle.vx_stats.specs.Rows.{valid_count}
use Rattle.vx_stats.specs.Strings.{distinct_keys}
use Rattle.vx_schemes_common.specs.Dictionaries.{dictionary_or_plain}
use Rattle.vx_schemes_common.specs.Pairs.{pair_of}
use Rattle.vx_schemes_text.specs.Dictionary.Laws.{dictionary-small, joined}
use Rattle.vx_schemes_text.specs.Dictionary.Tree.{dictionary_values, dictionary_codes}
use Rattle.vx_schemes_text.specs.TypeLaws.{text_is_bytes, binary_is_bytes}
use Rattle.vx_schemes_text.specs.Types.{is_binary}
use Rattle.vx_schemes_text.specs.declared.string.dictionary.StringDictScheme.{StringDictScheme}
use Rattle.vx_schemes_text.specs.declared.binary.dictionary.BinaryDictScheme.{BinaryDictScheme}

-- Skip where there is no value, or more than half as many distinct keys as values; else a trial on a sample
abbrev pub tried_or_skipped : ℕ → ℕ → CompressionEstimate
tried_or_skipped values keys = if (values == 0) || nat_lt (values / 2) keys then Verdict Skip else Deferred Sample

-- the estimate of a column, by its statistics
abbrev pub dictionary_estimate : Column → CompressionEstimate
dictionary_estimate c = tried_or_skipped (valid_count c.values) (distinct_keys c.values)

-- the values and the codes; nothing where there is no value
abbrev pub dictionary_parts : Column → PlainSplit
dictionary_parts c = if valid_count c.values == 0 then kept else parts (dictionary_values c ∷ dictionary_codes c ∷ [])

-- below the codes, child 1, no dictionary: codes are dense numbers from 0 on, and narrowed already
abbrev pub no_codes_of_codes : List Rule
no_codes_of_codes = record { scheme = codes "vortex.int.dict"; children = One 1 } ∷ []

-- the distinct values are part 0, and the codes part 1
abbrev pub byte_dictionary : List ℕ → (PlainType → Bool) → Meaning
byte_dictionary name takes = record {
  name = name;
  takes = takes;
  children = 2;
  options = record { count_distinct_values = true };
  produces = λ id. same_id id Dict;
  descendants = no_codes_of_codes;
  ancestors = [];
  estimate = λ c site. dictionary_estimate c;
  resolve = λ c site. Skip;
  splits = λ c site. dictionary_parts c;
  joined = λ c site trees. dictionary_or_plain c (pair_of trees);
}

-- of texts
abbrev pub string_dict_meaning : StringDictScheme → Meaning
string_dict_meaning s = byte_dictionary (codes "vortex.string.dict") is_text

-- of binaries
abbrev pub binary_dict_meaning : BinaryDictScheme → Meaning
binary_dict_meaning s = byte_dictionary (codes "vortex.binary.dict") is_binary

parts-are : (c : Column) (columns : List Column) → dictionary_parts c ≡ parts columns → dictionary_values c ∷ dictionary_codes c ∷ [] ≡ columns
parts-are c columns e = by_test (valid_count c.values == 0) e
  where
    by_test : (b : Bool) → cond b kept (parts (dictionary_values c ∷ dictionary_codes c ∷ [])) ≡ parts columns → dictionary_values c ∷ dictionary_codes c ∷ [] ≡ columns
    by_test true k = absurd cc
    by_test false k = cc

pub unfinished : (c : Column) (tree : Tree) → dictionary_parts c ≡ finished tree → ⊥
unfinished c tree e = by_test (valid_count c.values == 0) e
  where
    by_test : (b : Bool) → cond b kept (parts (dictionary_values c ∷ dictionary_codes c ∷ [])) ≡ finished tree → ⊥
    by_test true k = cc
    by_test false k = cc

-- lawful over any types of texts or binaries
byte_dictionary_lawful : (name : List ℕ) (takes : PlainType → Bool) → ((t : PlainType) → takes t ≡ true → is_bytes t ≡ true) → Lawful (byte_dictionary name takes)
byte_dictionary_lawful name takes typed = record {
  finished_well = λ c site tree asked e. absurd (unfinished c tree e);
  joined_well = λ c site columns trees asked e well fit. joined c trees (typed c.dtype asked.taken) well (fit ∙ sym (parts-are c columns e));
  few_parts = λ c site columns asked e. subst (λ cs. length cs ≤ 2) (parts-are c columns e) (omega arith);
  small_parts = λ c site columns asked e. subst (All (IsPart c)) (parts-are c columns e) (dictionary-small c (typed c.dtype asked.taken) asked.column asked.few);
}

pub string_dict_lawful : (s : StringDictScheme) → Lawful (string_dict_meaning s)
string_dict_lawful s = byte_dictionary_lawful (codes "vortex.string.dict") is_text text_is_bytes

pub binary_dict_lawful : (s : BinaryDictScheme) → Lawful (binary_dict_meaning s)
binary_dict_lawful s = byte_dictionary_lawful (codes "vortex.binary.dict") is_binary binary_is_bytes
