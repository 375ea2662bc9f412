-- The patched values and their rows are columns, and over the fill they give a column's rows back.
use Rattle.std.proofs.Common.{◌≡◌, ◌≤◌, ◌+◌, ℤ, Bool, true, false, cond, List, [], ◌∷◌, length, map, Option, None, Some, refl, ap, subst, arith}
use Rattle.std.specs.Prelude.{nat_lt, All, replicate}
use Rattle.std.specs.List.{list_all}
use Rattle.std.proofs.lemmas.List.{length-map}
use Rattle.std.proofs.lemmas.List.Elements.{All-from_recursion, recursion_from_All}
use Rattle.vx_base.specs.PlainScalar.{fits, scalar}
use Rattle.vx_base.specs.PlainType.{is_integer, is_nullable}
use Rattle.vx_base.specs.PlainValue.{PlainValue, int}
use Rattle.vx_base.proofs.IntegerLemmas.{integer-is_leaf}
use Rattle.vx_model.specs.Column.{Column, IsColumn, column, column_of}
use Rattle.vx_model.specs.Rows.{row_at}
use Rattle.vx_model.specs.Tree.{Tree, constant}
use Rattle.vx_model.specs.WellFormed.{WellFormed}
use Rattle.vx_model.proofs.MadeLemmas.{constant_made}
use Rattle.vx_scheme.specs.Asked.{most_rows}
use Rattle.vx_scheme.specs.Lawful.{IsPart}
use Rattle.vx_stats.specs.Stats.{most_frequent}
use Rattle.vx_sparse_array.specs.Filling.{filling_of, is_mostly_null, patched_rows, filled_over}
use Rattle.vx_sparse_array.proofs.FillingLemmas.{Stands, null-stands, value-stands, ArePatches, filled-column, filled-well, patched_rows-ascend}
use Rattle.vx_schemes_common.specs.Rising.{rows_below}
use Rattle.vx_schemes_common.specs.NarrowedLaws.{rising-column, number_rows-long}
use Rattle.vx_schemes_common.specs.Pairs.{pair_of}
use Rattle.vx_schemes_common.specs.StandsFor.{StandsFor}
use Rattle.vx_schemes_runs.specs.RowsAtLaws.{rows_at-column, few_filtered}
use Rattle.vx_sparse_array.proofs.SharedLemmas.{frequent-fits, mostly-null-fits}
use Rattle.vx_schemes_runs.specs.Sparse.Tree.{sparse_fill, sparse_filling, sparse_values, sparse_indices, sparse_or_plain}

-- ---- the fill

filling-stands : (fill : Option ℤ) → Stands (filling_of fill)
filling-stands None = null-stands
filling-stands (Some z) = value-stands (int z)

pub fill-fits : (c : Column) → is_integer c.dtype ≡ true → IsColumn c → fits c.dtype (sparse_filling c).fill ≡ true
fill-fits c j h = pick (is_mostly_null c.values) refl
  where
    pick : (b : Bool) → is_mostly_null c.values ≡ b → fits c.dtype (filling_of (cond b None (Some (most_frequent c.values).0))).fill ≡ true
    pick true e = mostly-null-fits c h e
    pick false e = frequent-fits c j h

-- ---- parts

pub rows-rise : (c : Column) → list_all (λ k. nat_lt k (length c.values)) (patched_rows (sparse_filling c) c.values) ≡ true
rows-rise c =
    let same : 0 + length c.values ≡ length c.values = omega arith in
    subst (λ n. list_all (λ k. nat_lt k n) (patched_rows (sparse_filling c) c.values) ≡ true) same
    (rows_below 0 (0 + length c.values) (patched_rows (sparse_filling c) c.values) (patched_rows-ascend (sparse_filling c) c.values))

pub rows-few : (c : Column) → length (patched_rows (sparse_filling c) c.values) ≤ length c.values
rows-few c = few_filtered _ 0 (length c.values)

pub values-column : (c : Column) → IsColumn c → IsColumn (sparse_values c)
values-column c h = rows_at-column c (patched_rows (sparse_filling c) c.values) h (rows-rise c)

pub indices-column : (c : Column) → length c.values ≤ most_rows → IsColumn (sparse_indices c)
indices-column c few = rising-column 0 (0 + length c.values) (patched_rows (sparse_filling c) c.values) (omega arith) (patched_rows-ascend (sparse_filling c) c.values)

pub sparse-small : (c : Column) → is_integer c.dtype ≡ true → IsColumn c → length c.values ≤ most_rows → All (IsPart c) (sparse_values c ∷ sparse_indices c ∷ [])
sparse-small c j h few =
    let values : IsPart c (sparse_values c) = record { column = values-column c h; leaf = integer-is_leaf c.dtype j; rows = omega (arith, length-map (patched_rows (sparse_filling c) c.values) (row_at c.values), rows-few c) } in
    let indices : IsPart c (sparse_indices c) = record { column = indices-column c few; leaf = refl; rows = omega (arith, number_rows-long (patched_rows (sparse_filling c) c.values), rows-few c) } in
    All-from_recursion (IsPart c) (sparse_values c ∷ sparse_indices c ∷ []) (values, (indices, tt))

-- ---- the joined tree

pub parts-patch : (c : Column) (indices values : Tree) → column_of values ≡ sparse_values c → column_of indices ≡ sparse_indices c → ArePatches (sparse_filling c) c indices values
parts-patch c indices values v k = record { indices_type = ap (λ d. is_integer d.dtype) k; not_null = ap (λ d. is_nullable d.dtype) k; row_numbers = ap (λ d. d.values) k; patch_column = v }

pub sparse-stands : (c : Column) (indices values : Tree) → is_integer c.dtype ≡ true → IsColumn c → WellFormed indices → WellFormed values → column_of values ≡ sparse_values c → column_of indices ≡ sparse_indices c
    → StandsFor (filled_over (sparse_filling c) c indices values) c
sparse-stands c indices values j h wi wv v k =
    let are = parts-patch c indices values v k in
    (filled-well (sparse_filling c) c indices values are (fill-fits c j h) wi wv, filled-column (sparse_filling c) c indices values are (filling-stands (sparse_fill c.values)))

pub joined : (c : Column) (trees : List Tree) → is_integer c.dtype ≡ true → IsColumn c → All WellFormed trees → map column_of trees ≡ sparse_values c ∷ sparse_indices c ∷ [] → StandsFor (sparse_or_plain c (pair_of trees)) c
joined c [] j h well fit = absurd cc
joined c (values ∷ []) j h well fit = absurd cc
joined c (values ∷ indices ∷ []) j h well fit =
    let each = recursion_from_All WellFormed (values ∷ indices ∷ []) well in
    let v : column_of values ≡ sparse_values c = cc in
    let k : column_of indices ≡ sparse_indices c = cc in
    sparse-stands c indices values j h each.1.0 each.0 v k
joined c (values ∷ indices ∷ tree ∷ trees) j h well fit = absurd cc

-- ---- one value in every row

pub shared-stands : (c : Column) (v : PlainValue) → fits c.dtype v ≡ true → replicate (length c.values) v ≡ c.values → StandsFor (constant (scalar c.dtype v) (length c.values)) c
shared-stands c v fitting same = (constant_made (scalar c.dtype v) (length c.values) fitting, λ i. column c.dtype (same i))
