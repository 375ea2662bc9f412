-- The indices of texts are a lawful part, and the texts over any tree of them stand for the column.
use Rattle.std.proofs.Common.{◌≡◌, ◌≤◌, ◌+◌, ℕ, true, List, length, map, refl, ap, subst, arith}
use Rattle.std.specs.Prelude.{nat_lt}
use Rattle.std.specs.List.{list_all, range_with_len}
use Rattle.std.proofs.lemmas.Bool.{and_parts}
use Rattle.std.proofs.lemmas.List.FromFn.{length-range_with_len}
use Rattle.std.proofs.lemmas.List.Sums.{length-filter, count_by-le-length}
use Rattle.vx_base.specs.PlainScalar.{fits}
use Rattle.vx_base.specs.PlainType.{is_bytes, is_integer, is_nullable, is_text}
use Rattle.vx_base.specs.PlainValue.{PlainValue}
use Rattle.vx_model.specs.Column.{Column, IsColumn, column_of}
use Rattle.vx_model.specs.Plain.{plain}
use Rattle.vx_model.specs.Rows.{row_at}
use Rattle.vx_model.specs.Tree.{Tree}
use Rattle.vx_model.specs.WellFormed.{WellFormed}
use Rattle.vx_model.proofs.FewLemmas.{few-flat}
use Rattle.vx_model.proofs.FlatTypeLemmas.{bytes-flat}
use Rattle.vx_model.proofs.PlainLemmas.{column_of-plain, plain_well_formed}
use Rattle.vx_scheme.specs.Asked.{most_rows}
use Rattle.vx_scheme.specs.Lawful.{IsPart}
use Rattle.vx_sparse_array.specs.Filling.{null_filling, patched_rows, patch_values}
use Rattle.vx_sparse_array.proofs.FillingLemmas.{ArePatches, filled-column, filled-well, null-stands, patched_rows-ascend}
use Rattle.vx_sparse_array.proofs.MakingLemmas.{patched-within}
use Rattle.vx_sparse_array.proofs.RowsAt.{at-fit}
use Rattle.vx_sparse_array.proofs.SharedLemmas.{mostly-null-fits}
use Rattle.vx_schemes_common.specs.NarrowedLaws.{number_rows-long, rising-column}
use Rattle.vx_schemes_common.specs.OnePart.{PartStands}
use Rattle.vx_schemes_common.specs.StandsFor.{StandsFor}
use Rattle.vx_schemes_text.specs.NullSparse.Tree.{is_null_dominated, value_indices, sparse_texts}
use Rattle.vx_schemes_text.specs.TypeLaws.{text_is_bytes}

-- ---- the part

few_rows : (values : List PlainValue) → length (patched_rows null_filling values) ≤ length values
few_rows values =
    let all = range_with_len 0 (length values) in
    let patched = λ (i : ℕ). null_filling.patched (row_at values i) in
    omega (arith, length-filter patched all, count_by-le-length patched all, length-range_with_len 0 (length values))

indices-part : (c : Column) → length c.values ≤ most_rows → IsPart c (value_indices c)
indices-part c few = record {
  column = rising-column 0 (0 + length c.values) (patched_rows null_filling c.values) (omega (arith, few)) (patched_rows-ascend null_filling c.values);
  leaf = refl;
  rows = omega (arith, number_rows-long (patched_rows null_filling c.values), few_rows c.values);
}

-- ---- the values

plain-well : (c : Column) → is_bytes c.dtype ≡ true → IsColumn c → WellFormed (plain c)
plain-well c typed h = plain_well_formed c h (few-flat c.dtype c.values (bytes-flat c.dtype typed))

-- the values of a column's rows fit its type
values-column : (c : Column) → is_bytes c.dtype ≡ true → IsColumn c → IsColumn (patch_values null_filling c)
values-column c typed h =
    subst (λ d. list_all (λ row. nat_lt row (length d.values)) (patched_rows null_filling c.values) ≡ true → list_all (fits d.dtype) (map (row_at d.values) (patched_rows null_filling c.values)) ≡ true)
    (column_of-plain c h) (at-fit (plain c) (patched_rows null_filling c.values) (plain-well c typed h)) (patched-within null_filling c.values)

-- ---- the joined tree

pub texts-patch : (c : Column) (indices : Tree) → is_bytes c.dtype ≡ true → IsColumn c → column_of indices ≡ value_indices c → ArePatches null_filling c indices (plain (patch_values null_filling c))
texts-patch c indices typed h same = record {
  indices_type = ap (λ d. is_integer d.dtype) same;
  not_null = ap (λ d. is_nullable d.dtype) same;
  row_numbers = ap (λ d. d.values) same;
  patch_column = column_of-plain (patch_values null_filling c) (values-column c typed h);
}

stands : (c : Column) (indices : Tree) → is_bytes c.dtype ≡ true → IsColumn c → is_null_dominated c.values ≡ true → WellFormed indices → column_of indices ≡ value_indices c → StandsFor (sparse_texts c indices) c
stands c indices typed h dominated well same =
    let texts = plain (patch_values null_filling c) in
    let are = texts-patch c indices typed h same in
    let own = plain-well (patch_values null_filling c) typed (values-column c typed h) in
    let null_fits = mostly-null-fits c h (and_parts _ _ dominated).1 in
    (filled-well null_filling c indices texts are null_fits well own, filled-column null_filling c indices texts are null-stands)

pub sparse_texts-stand : PartStands is_text (λ c. is_null_dominated c.values) value_indices sparse_texts
sparse_texts-stand = record {
  is_part = λ c taken h few passes. indices-part c few;
  stands = λ c tree taken h passes well same. stands c tree (text_is_bytes c.dtype taken) h passes well same;
}
