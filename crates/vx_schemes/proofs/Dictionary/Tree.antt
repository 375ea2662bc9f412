-- The values and the codes of a dictionary as plain trees.
use Rattle.std.proofs.Common.{◌≡◌, ◌∙◌, ℕ, ℤ, pos, Bool, true, false, List, [], ◌∷◌, map, length, cond, Some, None, refl, sym, ap}
use Rattle.std.specs.Prelude.{◌==◌}
use Rattle.std.specs.List.{list_any}
use Rattle.std.proofs.lemmas.Bool.{cond-true, cond-false}
use Rattle.vx_base.specs.declared.ptype.PType.{PType}
use Rattle.vx_base.specs.declared.dtype.Nullability.{Nullability}
use Rattle.vx_base.proofs.IntegerLemmas.{by_integer}
use Rattle.vx_base.specs.PlainType.{is_integer, integer_of, nullability_of}
use Rattle.vx_base.specs.PlainValue.{PlainValue, int, is_null, whole_or_zero}
use Rattle.vx_model.specs.Column.{Column, IsColumn, column_of}
use Rattle.vx_model.specs.Plain.{plain, plain_of, validity, valid_bits}
use Rattle.vx_model.specs.Refusals.{dict_refusal}
use Rattle.vx_model.specs.Rows.{rows, valid_rows}
use Rattle.vx_model.specs.Tree.{Tree, Validity, primitive}
use Rattle.vx_model.specs.TreeType.{tree_type}
use Rattle.vx_model.proofs.DecodeLemmas.{wholes-map-int, no_null-map-int}
use Rattle.vx_scheme.specs.Asked.{FitParts}
use Rattle.vx_stats.specs.Distinct.{times}
use Rattle.vx_scheme.specs.Meaning.{parts}
use Rattle.vx_scheme.specs.Meaning.{kept as nothing}
use Rattle.vx_stats.specs.Stats.{valid_wholes, value_count, distinct_values, distinct_counts, distinct_count}
use Rattle.vx_schemes_common.specs.Dictionaries.{code_type}
use Rattle.vx_schemes.specs.Dictionary.Tree.{code_of, code_in, dictionary_values, dictionary_codes}
use Rattle.vx_schemes.specs.Dictionary.Meaning.{values_found, dictionary_parts}
use Rattle.vx_schemes_common.specs.Pairs.{pair_of}
use Rattle.vx_schemes.specs.Dictionary.Laws.{dictionary-admitted}
use Rattle.vx_schemes_common.proofs.ColumnLemmas.{each_int-long, each_int-plain}
use Rattle.vx_schemes_common.proofs.PairLemmas.{no_pair, pair-fits}

-- ---- the distinct values without their counts

first-of : (f : ℤ → ℕ) (zs : List ℤ) → map (λ (c : ℤ × ℕ). c.0) (map (λ z. (z, f z)) zs) ≡ zs
first-of f [] = refl
first-of f (z ∷ zs) = ap (λ l. z ∷ l) (first-of f zs)

pub uncounted-distinct : (vs : List PlainValue) → map (λ c. c.0) (distinct_counts vs) ≡ distinct_values vs
uncounted-distinct vs = first-of (times (valid_wholes vs)) (distinct_values vs)

pub found-none : (vs : List PlainValue) → (value_count vs == 0) ≡ true → None ≡ values_found vs
found-none vs h = sym (cond-true (value_count vs == 0) None (Some (distinct_values vs)) h)

pub found-some : (vs : List PlainValue) → (value_count vs == 0) ≡ false → Some (distinct_values vs) ≡ values_found vs
found-some vs h = sym (cond-false (value_count vs == 0) None (Some (distinct_values vs)) h)

-- ---- values

pub values-plain : (c : Column) → is_integer c.dtype ≡ true → primitive (integer_of c.dtype) (distinct_values c.values) None (nullability_of c.dtype) ≡ plain (dictionary_values c)
values-plain c = by_integer (λ t. primitive (integer_of t) ds None (nullability_of t) ≡ plain_of t (map int ds)) (λ p n i. primitive p (sym (wholes-map-int ds) i) (sym none i) n) c.dtype
  where
    ds : List ℤ
    ds = distinct_values c.values

    none : validity (map int ds) ≡ None
    none = cond-false (list_any is_null (map int ds)) (Some (valid_bits (map int ds))) None (no_null-map-int ds)

-- ---- codes

module _ (t : Tree) (p : PType) (xs : List ℤ) (valid : Validity) (n : Nullability) (at : primitive p xs valid n ≡ t) where
  abbrev ds : List ℤ
  ds = distinct_values (rows t)

  module _ (ys : List ℤ) (are : ys ≡ map whole_or_zero (map (code_in ds) (valid_rows valid (map int xs)))) where
    wholes : ys ≡ map whole_or_zero (map (code_in ds) (rows t))
    wholes = are ∙ ap (λ s. map whole_or_zero (map (code_in ds) (rows s))) at

    pub codes_long : length ys ≡ length (rows t)
    codes_long = each_int-long t p (λ z. pos (code_of ds z)) p ys wholes

    pub codes_tree : (q : PType) → q ≡ code_type (length ds) → primitive q ys (validity (rows t)) (nullability_of (tree_type t)) ≡ plain (dictionary_codes (column_of t))
    codes_tree q e = each_int-plain t (code_type (distinct_count (rows t))) (λ z. pos (code_of ds z)) q ys wholes e

-- ---- the two trees of the parts

pub pair-admitted : (c : Column) (trees : List Tree) (x y : Tree) → is_integer c.dtype ≡ true → IsColumn c → Some (x, y) ≡ pair_of trees → FitParts (dictionary_parts c) trees → dict_refusal y x ≡ None
pair-admitted c trees x y j h e fit = by_test (value_count c.values == 0) fit
  where
    by_test : (b : Bool) → FitParts (cond b nothing (parts (dictionary_values c ∷ dictionary_codes c ∷ []))) trees → dict_refusal y x ≡ None
    by_test true f = absurd (no_pair trees x y e f)
    by_test false f = let both = pair-fits trees x y (dictionary_values c) (dictionary_codes c) e f in dictionary-admitted c y x j h both.0 both.1
