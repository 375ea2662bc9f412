-- The values and the ends of a column's runs are columns, and give its rows back.
use Rattle.std.proofs.Common.{◌≡◌, ◌≤◌, ◌-◌, ◌^◌, ◌∙◌, true, List, [], ◌∷◌, length, map, None, refl, sym, ap, arith}
use Rattle.std.specs.Prelude.{nat_lt, All}
use Rattle.std.specs.List.{list_all}
use Rattle.std.proofs.lemmas.Bool.{lt-ltb, eq-eqb}
use Rattle.std.proofs.lemmas.List.{length-map}
use Rattle.std.proofs.lemmas.List.Elements.{All-from_recursion, recursion_from_All}
use Rattle.std.proofs.lemmas.List.Folds.{list_all-map}
use Rattle.vx_base.specs.IntegersIn.{integer_in}
use Rattle.vx_base.specs.PlainType.{is_integer, is_nullable}
use Rattle.vx_base.proofs.IntegerLemmas.{integer-is_leaf}
use Rattle.vx_blocks.specs.Runs.{ends_run}
use Rattle.vx_model.specs.Column.{Column, IsColumn, column, column_of}
use Rattle.vx_model.specs.Refusals.{run_end_refusal}
use Rattle.vx_model.specs.Rows.{rows, row_at, run_value}
use Rattle.vx_model.specs.Tree.{Tree, run_end}
use Rattle.vx_model.specs.TreeType.{tree_type}
use Rattle.vx_model.specs.WellFormed.{WellFormed, ascend}
use Rattle.vx_model.proofs.RunEndLemmas.{last_end, run_end_accepted}
use Rattle.vx_scheme.specs.Asked.{most_rows}
use Rattle.vx_scheme.specs.Lawful.{IsPart}
use Rattle.vx_model.proofs.RisingLemmas.{filter-ascends}
use Rattle.vx_schemes_common.specs.Narrowed.{number_rows}
use Rattle.vx_schemes_common.specs.NarrowedLaws.{rising-column, number_rows-long}
use Rattle.vx_schemes_common.specs.Pairs.{pair_of}
use Rattle.vx_schemes_common.specs.StandsFor.{StandsFor}
use Rattle.vx_schemes_runs.specs.RowsAt.{optional_wholes}
use Rattle.vx_schemes_runs.specs.RowsAtLaws.{rows_follow, rows_at-column, all_filtered, few_filtered, below-is}
use Rattle.vx_schemes_runs.specs.RunEnd.Back.{runs-back, last_end-rows}
use Rattle.vx_schemes_runs.specs.RunEnd.Tree.{ends_in, run_values, narrowed_ends, runs_or_plain}

optional-long : (c : Column) → length (optional_wholes c) ≡ length c.values
optional-long c = length-map c.values integer_in

-- ---- the ends

pub ends-rise : (c : Column) → length c.values ≤ most_rows → ascend 1 (2 ^ 64) (number_rows (ends_in c)) ≡ true
ends-rise c few = filter-ascends (ends_run (optional_wholes c)) 1 (length (optional_wholes c)) (2 ^ 64) (omega (arith, optional-long c))

pub ends-few : (c : Column) → length (ends_in c) ≤ length c.values
ends-few c = omega (arith, few_filtered (ends_run (optional_wholes c)) 1 (length (optional_wholes c)), optional-long c)

-- the row before each end is a row
pub lasts-within : (c : Column) → list_all (λ k. nat_lt k (length c.values)) (map (λ end. end - 1) (ends_in c)) ≡ true
lasts-within c =
    list_all-map (λ k. nat_lt k (length c.values)) (λ end. end - 1) (ends_in c)
    ∙ all_filtered (λ end. nat_lt (end - 1) (length c.values)) (ends_run (optional_wholes c)) 1 (length (optional_wholes c)) (λ j l m. lt-ltb (j - 1) (length c.values) (omega (arith, optional-long c)))

-- ---- parts

pub ends-column : (c : Column) → length c.values ≤ most_rows → IsColumn (narrowed_ends c)
ends-column c few = rising-column 1 (2 ^ 64) (ends_in c) (omega arith) (ends-rise c few)

pub values-column : (c : Column) → IsColumn c → IsColumn (run_values c)
values-column c h = rows_at-column c (map (λ end. end - 1) (ends_in c)) h (lasts-within c)

values-long : (c : Column) → length (run_values c).values ≡ length (ends_in c)
values-long c = length-map (map (λ end. end - 1) (ends_in c)) (row_at c.values) ∙ length-map (ends_in c) (λ end. end - 1)

pub runs-small : (c : Column) → is_integer c.dtype ≡ true → IsColumn c → length c.values ≤ most_rows → All (IsPart c) (run_values c ∷ narrowed_ends c ∷ [])
runs-small c j h few =
    let values : IsPart c (run_values c) = record { column = values-column c h; leaf = integer-is_leaf c.dtype j; rows = omega (arith, values-long c, ends-few c) } in
    let ends : IsPart c (narrowed_ends c) = record { column = ends-column c few; leaf = refl; rows = omega (arith, number_rows-long (ends_in c), ends-few c) } in
    All-from_recursion (IsPart c) (run_values c ∷ narrowed_ends c ∷ []) (values, (ends, tt))

-- ---- the joined tree

module _ (c : Column) (ends values : Tree) (j : is_integer c.dtype ≡ true) (h : IsColumn c) (few : length c.values ≤ most_rows) (v : column_of values ≡ run_values c) (e : column_of ends ≡ narrowed_ends c) where
  value_rows : rows values ≡ (run_values c).values
  value_rows = ap (λ d. d.values) v

  end_rows : rows ends ≡ number_rows (ends_in c)
  end_rows = ap (λ d. d.values) e

  pub runs-admitted : run_end_refusal ends values ≡ None
  runs-admitted =
      let of_ends : is_integer (tree_type ends) ≡ true = ap (λ d. is_integer d.dtype) e in
      let not_null : is_nullable (tree_type ends) ≡ is_nullable (narrowed_ends c).dtype = ap (λ d. is_nullable d.dtype) e in
      let of_values : is_integer (tree_type values) ≡ true = ap (λ d. is_integer d.dtype) v ∙ j in
      let same : length (rows ends) ≡ length (rows values) = ap length end_rows ∙ number_rows-long (ends_in c) ∙ sym (values-long c) ∙ sym (ap length value_rows) in
      let rising : ascend 1 (2 ^ 64) (rows ends) ≡ true = ap (ascend 1 (2 ^ 64)) end_rows ∙ ends-rise c few in
      rw (of_ends, not_null, of_values, eq-eqb (length (rows ends)) (length (rows values)) same, rising) refl

  back : rows (run_end ends values) ≡ c.values
  back =
      let end : last_end (rows ends) ≡ length c.values = ap last_end end_rows ∙ last_end-rows (optional_wholes c) ∙ optional-long c in
      below-is (run_value (rows ends) (rows values)) c.values (last_end (rows ends)) end
      (λ i l. (λ k. run_value (end_rows k) (value_rows k) i) ∙ runs-back (optional_wholes c) c.values (rows_follow c j h) i (omega (arith, optional-long c, end)))

  pub runs-stand : WellFormed ends → WellFormed values → StandsFor (run_end ends values) c
  runs-stand we wv = (run_end_accepted ends values runs-admitted we wv, λ i. column (ap (λ d. d.dtype) v i) (back i))

pub joined : (c : Column) (trees : List Tree) → is_integer c.dtype ≡ true → IsColumn c → length c.values ≤ most_rows → All WellFormed trees → map column_of trees ≡ run_values c ∷ narrowed_ends c ∷ [] → StandsFor (runs_or_plain c (pair_of trees)) c
joined c [] j h few well fit = absurd cc
joined c (values ∷ []) j h few well fit = absurd cc
joined c (values ∷ ends ∷ []) j h few well fit =
    let each = recursion_from_All WellFormed (values ∷ ends ∷ []) well in
    let v : column_of values ≡ run_values c = cc in
    let e : column_of ends ≡ narrowed_ends c = cc in
    runs-stand c ends values j h few v e each.1.0 each.0
joined c (values ∷ ends ∷ tree ∷ trees) j h few well fit = absurd cc
