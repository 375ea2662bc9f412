-- The parts of a column as a fill with patches, as calls find them.
use Rattle.std.proofs.Common.{◌≡◌, ◌≤◌, ◌^◌, ◌∙◌, ℕ, ℤ, true, List, length, Option, Some, None, refl, ap, arith}
use Rattle.std.specs.Prelude.{nat_lt}
use Rattle.std.specs.List.{list_all}
use Rattle.vx_base.specs.PlainValue.{cell}
use Rattle.vx_model.specs.Column.{Column}
use Rattle.vx_model.specs.WellFormed.{ascend}
use Rattle.vx_scheme.specs.Asked.{most_rows}
use Rattle.vx_sparse_array.specs.Filling.{filling_of, patched_rows}
use Rattle.vx_sparse_array.proofs.FillingLemmas.{patched_rows-under}
use Rattle.vx_schemes_common.specs.Narrowed.{number_rows}
use Rattle.vx_schemes_runs.specs.Sparse.Laws.{rows-rise}
use Rattle.vx_schemes_runs.specs.Sparse.Tree.{sparse_fill, sparse_filling}

-- null where there is no integer
pub fill-cell : (fill : Option ℤ) → cell fill ≡ (filling_of fill).fill
fill-cell None = refl
fill-cell (Some z) = refl

module _ (c : Column) (fill : Option ℤ) (e : fill ≡ sparse_fill c.values) (ns : List ℕ) (n : ns ≡ patched_rows (filling_of fill) c.values) where
  pub numbers-are : ns ≡ patched_rows (sparse_filling c) c.values
  numbers-are = n ∙ ap (λ o. patched_rows (filling_of o) c.values) e

  pub numbers-within : list_all (λ k. nat_lt k (length c.values)) ns ≡ true
  numbers-within = ap (list_all (λ k. nat_lt k (length c.values))) numbers-are ∙ rows-rise c

  pub numbers-rise : length c.values ≤ most_rows → ascend 0 (2 ^ 64) (number_rows ns) ≡ true
  numbers-rise few = ap (λ ks. ascend 0 (2 ^ 64) (number_rows ks)) numbers-are ∙ patched_rows-under (sparse_filling c) c.values (2 ^ 64) (omega (arith, few))
