-- What the values that codes name tell of a dictionary's rows: their type, the least and the greatest, and whether all are equal.
use Rattle.std.proofs.Common.{◌≡◌, ◌<◌, ◌∙◌, ℕ, zero, suc, Bool, true, false, List, [], ◌∷◌, ◌++◌, length, refl, sym, ap, arith}
use Rattle.std.specs.Prelude.{◌&&◌, ◌||◌, ◌==◌, count_by, not, replicate}
use Rattle.std.specs.List.{list_all}
use Rattle.std.proofs.lemmas.Bool.{and_parts, ne_eqb}
use Rattle.std.proofs.lemmas.List.Elements.{filter-append}
use Rattle.std.proofs.lemmas.List.Folds.{list_all-append}
use Rattle.vx_base.specs.PlainScalar.{fits}
use Rattle.vx_base.specs.PlainType.{is_flat, nullability_of, or_nullable}
use Rattle.vx_base.specs.PlainValue.{PlainValue, is_null, null, same_value, stored_value}
use Rattle.vx_base.specs.Storable.{same_from, same_refl}
use Rattle.vx_model.specs.Column.{column, column_of}
use Rattle.vx_model.specs.Rows.{row_at, rows}
use Rattle.vx_model.specs.Tree.{Tree, dict}
use Rattle.vx_model.specs.TreeType.{tree_type}
use Rattle.vx_model.specs.WellFormed.{WellFormed}
use Rattle.vx_model.proofs.MadeLemmas.{rows_fit}
use Rattle.vx_rules.specs.Aggregates.{all_equal, greatest, is_constant, least, min_max, scalar_pair, valid_values}
use Rattle.vx_rows.specs.Extremes.{valid_items}
use Rattle.vx_rows.specs.Used.{named_by, row_values}
use Rattle.vx_rules.proofs.AlikeExtremes.{alike_extremes}
use Rattle.vx_rows.proofs.AnswerLemmas.{flat-with}
use Rattle.vx_rows.proofs.ExtremeLemmas.{valid-none}
use Rattle.vx_rows.proofs.UsedLemmas.{length-named, rows_alike}

-- ---- one value against nulls

null-is : (v : PlainValue) → is_null v ≡ true → v ≡ null
null-is null e = refl
null-is v e = absurd cc

same-null : (v : PlainValue) → is_null v ≡ same_value v null
same-null v = same_from stored_value v null (is_null v) (λ e. null-is v e) (λ e. ap is_null e)

pub all-nulls : (v : PlainValue) (n : ℕ) → ((n == 0) || is_null v) ≡ list_all (same_value v) (replicate n null)
all-nulls v zero = refl
all-nulls v (suc n) = ap (λ c. c || is_null v) (ne_eqb (suc n) 0 (λ r. omega arith)) ∙ by (is_null v) (same-null v) (all-nulls v n)
  where
    by : (b : Bool) → b ≡ same_value v null → ((n == 0) || b) ≡ list_all (same_value v) (replicate n null) → b ≡ (same_value v null && list_all (same_value v) (replicate n null))
    by true e rest = (λ i. e i && or-true (n == 0) i) ∙ ap (λ b. same_value v null && b) rest
      where
        or-true : (c : Bool) → true ≡ (c || true)
        or-true true = refl
        or-true false = refl
    by false e rest = ap (λ b. b && list_all (same_value v) (replicate n null)) e

pub no-nulls : (v : PlainValue) (n : ℕ) → n ≡ 0 → true ≡ list_all (same_value v) (replicate n null)
no-nulls v n e = ap (λ k. list_all (same_value v) (replicate k null)) (sym e)

-- ---- the first row against all

all-first : (u : PlainValue) (vs : List PlainValue) → 0 < length vs → u ≡ row_at vs 0 → list_all (same_value u) vs ≡ all_equal vs
all-first u [] l e = absurd (omega arith)
all-first u (v ∷ vs) l e = (λ i. list_all (same_value (e i)) (v ∷ vs)) ∙ ap (λ b. b && list_all (same_value v) vs) (same_refl stored_value v v refl)

-- ---- of a dictionary

pub dict-flat : (codes values : Tree) → WellFormed (dict codes values) → is_flat (tree_type (dict codes values)) ≡ true
dict-flat codes values well = flat-with (tree_type values) (or_nullable (nullability_of (tree_type values)) (nullability_of (tree_type codes))) ∙ well.2.values_type

module _ (codes values : Tree) (well : WellFormed (dict codes values)) (named : List Bool) (is : named ≡ named_by (length (rows values)) (rows codes)) where
  pub named-long : length named ≡ length (rows values)
  named-long = ap length is ∙ length-named (length (rows values)) (rows codes)

  pub named-constant : (nulls : ℕ) → nulls ≡ count_by is_null (rows codes) → (u : PlainValue) → u ≡ row_at (rows (dict codes values)) 0 → 0 < length (rows (dict codes values))
      → list_all (same_value u) (replicate nulls null ++ valid_items named (rows values)) ≡ is_constant (column_of (dict codes values))
  named-constant nulls e u first some =
      (λ i. list_all (same_value u) (replicate (e i) null ++ valid_items (is i) (rows values)))
      ∙ rows_alike codes values well (same_value u) ∙ all-first u (rows (dict codes values)) some first

  in_rows : List PlainValue
  in_rows = row_values (rows codes) (rows values)

  -- all of them are of the rows' type
  all-fit : list_all (fits (tree_type (dict codes values))) in_rows ≡ true
  unfolding in_rows
  all-fit = rows_alike codes values well (fits (tree_type (dict codes values))) ∙ rows_fit (dict codes values) well

  pub named-fit : list_all (fits (tree_type (dict codes values))) (valid_items named (rows values)) ≡ true
  unfolding in_rows
  named-fit =
      let t = tree_type (dict codes values) in
      let nulls = replicate (count_by is_null (rows codes)) null in
      let own = valid_items (named_by (length (rows values)) (rows codes)) (rows values) in
      ap (λ bits. list_all (fits t) (valid_items bits (rows values))) is
      ∙ (and_parts (list_all (fits t) nulls) (list_all (fits t) own) (sym (list_all-append (fits t) nulls own) ∙ all-fit)).1

  valid-rows : valid_values in_rows ≡ valid_values (valid_items named (rows values))
  unfolding in_rows
  valid-rows =
      let n = count_by is_null (rows codes) in
      let own = valid_items (named_by (length (rows values)) (rows codes)) (rows values) in
      filter-append (λ v. not (is_null v)) (replicate n null) own ∙ ap (λ vs. vs ++ valid_values own) (valid-none null n refl)
      ∙ ap (λ bits. valid_values (valid_items bits (rows values))) (sym is)

  pub named-min_max : is_flat (tree_type (dict codes values)) ≡ true
      → min_max (column (tree_type (dict codes values)) (valid_items named (rows values))) ≡ min_max (column_of (dict codes values))
  unfolding in_rows
  named-min_max flat =
      let t = tree_type (dict codes values) in
      let same = alike_extremes t flat in_rows (rows (dict codes values)) all-fit (rows_fit (dict codes values) well) (rows_alike codes values well) in
      λ i. scalar_pair t ((ap least (sym valid-rows) ∙ same.0) i) ((ap greatest (sym valid-rows) ∙ same.1) i)
