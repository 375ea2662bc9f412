-- The values, the numbers and the offsets of a column's runs are columns, and give its rows back.
use Rattle.std.proofs.Common.{◌≡◌, ◌<◌, ◌≤◌, ◌+◌, ◌-◌, ◌*◌, ◌/◌, ◌∙◌, ℕ, ℤ, true, false, List, [], ◌∷◌, length, map, Option, None, refl, ap, arith}
use Rattle.std.specs.Prelude.{nat_lt, All}
use Rattle.std.specs.List.{list_all}
use Rattle.std.proofs.lemmas.Bool.{lt-ltb, ltb-true, eq-eqb, cond_both}
use Rattle.std.proofs.lemmas.List.{length-map}
use Rattle.std.proofs.lemmas.List.Elements.{All-from_recursion, recursion_from_All}
use Rattle.std.proofs.lemmas.List.FromFn.{length-map-range_with_len}
use Rattle.vx_base.specs.IntegersIn.{integer_in}
use Rattle.vx_base.specs.Packed.{block_count}
use Rattle.vx_base.specs.PlainType.{is_integer, is_nullable}
use Rattle.vx_base.proofs.IntegerLemmas.{integer-is_leaf}
use Rattle.vx_blocks.specs.Runs.{begins_run, runs_before, heads, run_number, run_numbers, offsets}
use Rattle.vx_model.specs.Column.{Column, IsColumn, column, column_of}
use Rattle.vx_model.specs.Refusals.{rle_refusal}
use Rattle.vx_model.specs.Rows.{rows, row_at, looked_up, rle_place, block_rows, below}
use Rattle.vx_model.specs.Tree.{Tree, rle}
use Rattle.vx_model.specs.TreeType.{tree_type}
use Rattle.vx_model.specs.WellFormed.{WellFormed, is_place}
use Rattle.vx_model.proofs.PackedLemmas.{below-passes}
use Rattle.vx_model.proofs.RleLemmas.{rle_accepted}
use Rattle.vx_scheme.specs.Asked.{most_rows}
use Rattle.vx_scheme.specs.Lawful.{IsPart}
use Rattle.vx_schemes_common.specs.Narrowed.{number_rows}
use Rattle.vx_schemes_common.specs.NarrowedLaws.{narrowed-column, number_rows-long}
use Rattle.vx_schemes_common.specs.StandsFor.{StandsFor}
use Rattle.vx_schemes_runs.specs.RowsAt.{optional_wholes}
use Rattle.vx_schemes_runs.specs.RowsAtLaws.{rows_follow, rows_at-column, all_filtered, few_filtered, all_mapped, below-is}
use Rattle.vx_schemes_runs.specs.RunLength.Back.{blocks-back, head-within, place-is}
use Rattle.vx_schemes_runs.specs.RunLength.Tree.{head_values, narrowed_run_numbers, narrowed_offsets, rle_or_plain}
use Rattle.vx_schemes_common.specs.Triples.{triple_of}

optional-long : (c : Column) → length (optional_wholes c) ≡ length c.values
optional-long c = length-map c.values integer_in

-- no more runs begin before a row than there are rows before it
runs-few : (c : Column) (i : ℕ) → runs_before (optional_wholes c) i ≤ i
runs-few c i = few_filtered (begins_run (optional_wholes c)) 0 i

-- ---- parts

pub heads-within : (c : Column) → list_all (λ k. nat_lt k (length c.values)) (heads (optional_wholes c)) ≡ true
heads-within c =
    all_filtered (λ k. nat_lt k (length c.values)) (begins_run (optional_wholes c)) 0 (length (optional_wholes c)) (λ j l m. lt-ltb j (length c.values) (omega (arith, optional-long c)))

number-few : (c : Column) (i : ℕ) → run_number (optional_wholes c) i < length c.values + 1
number-few c i =
    cond_both (nat_lt i (length (optional_wholes c))) (runs_before (optional_wholes c) (i + 1) - runs_before (optional_wholes c) (1024 * (i / 1024) + 1)) 0 (λ n. n < length c.values + 1)
    (λ t. omega (arith, runs-few c (i + 1), optional-long c, ltb-true i (length (optional_wholes c)) t)) (λ f. omega arith)

numbers-column : (c : Column) → length c.values ≤ most_rows → IsColumn (narrowed_run_numbers c)
numbers-column c few =
    narrowed-column (length c.values + 1) (run_numbers (optional_wholes c)) (omega arith)
    (all_mapped (λ k. nat_lt k (length c.values + 1)) (run_number (optional_wholes c)) 0 (1024 * block_count (length (optional_wholes c))) (λ j l m. lt-ltb _ _ (number-few c j)))

offsets-column : (c : Column) → length c.values ≤ most_rows → IsColumn (narrowed_offsets c)
offsets-column c few =
    narrowed-column (length c.values + 1024) (offsets (optional_wholes c)) (omega arith)
    (all_mapped (λ k. nat_lt k (length c.values + 1024)) (λ block. runs_before (optional_wholes c) (1024 * block)) 0 (block_count (length (optional_wholes c)))
    (λ j l m. lt-ltb _ _ (omega (arith, runs-few c (1024 * j), optional-long c))))

values-long : (c : Column) → length (head_values c).values ≡ length (heads (optional_wholes c))
values-long c = length-map (heads (optional_wholes c)) (row_at c.values)

numbers-long : (c : Column) → length (narrowed_run_numbers c).values ≡ 1024 * block_count (length c.values)
numbers-long c =
    number_rows-long (run_numbers (optional_wholes c)) ∙ length-map-range_with_len (run_number (optional_wholes c)) 0 (1024 * block_count (length (optional_wholes c)))
    ∙ ap (λ n. 1024 * block_count n) (optional-long c)

offsets-long : (c : Column) → length (narrowed_offsets c).values ≡ block_count (length c.values)
offsets-long c =
    number_rows-long (offsets (optional_wholes c)) ∙ length-map-range_with_len (λ block. runs_before (optional_wholes c) (1024 * block)) 0 (block_count (length (optional_wholes c))) ∙ ap block_count (optional-long c)

pub blocks-small : (c : Column) → is_integer c.dtype ≡ true → IsColumn c → length c.values ≤ most_rows → All (IsPart c) (head_values c ∷ narrowed_run_numbers c ∷ narrowed_offsets c ∷ [])
blocks-small c j h few =
    let values : IsPart c (head_values c) = record { column = rows_at-column c (heads (optional_wholes c)) h (heads-within c); leaf = integer-is_leaf c.dtype j; rows = omega (arith, values-long c, runs-few c (length (optional_wholes c)), optional-long c) } in
    let numbers : IsPart c (narrowed_run_numbers c) = record { column = numbers-column c few; leaf = refl; rows = omega (arith, numbers-long c) } in
    let begins : IsPart c (narrowed_offsets c) = record { column = offsets-column c few; leaf = refl; rows = omega (arith, offsets-long c) } in
    All-from_recursion (IsPart c) (head_values c ∷ narrowed_run_numbers c ∷ narrowed_offsets c ∷ []) (values, (numbers, (begins, tt)))

-- ---- the joined tree

module _ (c : Column) (values indices offs : Tree) (j : is_integer c.dtype ≡ true) (h : IsColumn c) (v : column_of values ≡ head_values c) (n : column_of indices ≡ narrowed_run_numbers c) (o : column_of offs ≡ narrowed_offsets c) where
  abbrev os : List (Option ℤ)
  os = optional_wholes c

  value_rows : rows values ≡ (head_values c).values
  value_rows = ap (λ d. d.values) v

  index_rows : rows indices ≡ number_rows (run_numbers os)
  index_rows = ap (λ d. d.values) n

  offset_rows : rows offs ≡ number_rows (offsets os)
  offset_rows = ap (λ d. d.values) o

  place-there : (i : ℕ) → i < length c.values → is_place (length (rows values)) (rle_place (rows offs) (rows indices) i) ≡ true
  place-there i l =
      let low : i < length os = omega (arith, optional-long c) in
      let follow = rows_follow c j h in
      let long : length (rows values) ≡ length (heads os) = ap length value_rows ∙ values-long c in
      (λ k. is_place (long k) (rle_place (offset_rows k) (index_rows k) i)) ∙ ap (is_place (length (heads os))) (place-is os c.values follow i low) ∙ lt-ltb _ _ (head-within os c.values follow i low)

  pub blocks-admitted : rle_refusal values indices offs (length c.values) ≡ None
  blocks-admitted =
      let of_values : is_integer (tree_type values) ≡ true = ap (λ d. is_integer d.dtype) v ∙ j in
      let of_indices : is_integer (tree_type indices) ≡ true = ap (λ d. is_integer d.dtype) n in
      let of_offsets : is_integer (tree_type offs) ≡ true = ap (λ d. is_integer d.dtype) o in
      let whole_indices : is_nullable (tree_type indices) ≡ false = ap (λ d. is_nullable d.dtype) n in
      let whole_offsets : is_nullable (tree_type offs) ≡ false = ap (λ d. is_nullable d.dtype) o in
      let as_many : length (rows indices) ≡ block_rows * block_count (length c.values) = ap length index_rows ∙ numbers-long c in
      let for_blocks : length (rows offs) ≡ block_count (length c.values) = ap length offset_rows ∙ offsets-long c in
      let places : list_all (is_place (length (rows values))) (below (rle_place (rows offs) (rows indices)) (length c.values)) ≡ true = below-passes (is_place (length (rows values))) (rle_place (rows offs) (rows indices)) (length c.values) place-there in
      rw (of_values, of_indices, of_offsets, whole_indices, whole_offsets, eq-eqb _ _ as_many, eq-eqb _ _ for_blocks, places) refl

  back : rows (rle values indices offs (length c.values)) ≡ c.values
  back =
      below-is (λ i. looked_up (rows values) (rle_place (rows offs) (rows indices) i)) c.values (length c.values) refl
      (λ i l. (λ k. looked_up (value_rows k) (rle_place (offset_rows k) (index_rows k) i)) ∙ blocks-back os c.values (rows_follow c j h) i (omega (arith, optional-long c)))

  pub blocks-stand : WellFormed values → WellFormed indices → WellFormed offs → StandsFor (rle values indices offs (length c.values)) c
  blocks-stand wv wi wo = (rle_accepted values indices offs (length c.values) blocks-admitted wv wi wo, λ i. column (ap (λ d. d.dtype) v i) (back i))

pub joined : (c : Column) (trees : List Tree) → is_integer c.dtype ≡ true → IsColumn c → All WellFormed trees → map column_of trees ≡ head_values c ∷ narrowed_run_numbers c ∷ narrowed_offsets c ∷ [] → StandsFor (rle_or_plain c (triple_of trees)) c
joined c [] j h well fit = absurd cc
joined c (values ∷ []) j h well fit = absurd cc
joined c (values ∷ indices ∷ []) j h well fit = absurd cc
joined c (values ∷ indices ∷ offs ∷ []) j h well fit =
    let each = recursion_from_All WellFormed (values ∷ indices ∷ offs ∷ []) well in
    let v : column_of values ≡ head_values c = cc in
    let n : column_of indices ≡ narrowed_run_numbers c = cc in
    let o : column_of offs ≡ narrowed_offsets c = cc in
    blocks-stand c values indices offs j h v n o each.0 each.1.0 each.1.1.0
joined c (values ∷ indices ∷ offs ∷ tree ∷ trees) j h well fit = absurd cc
