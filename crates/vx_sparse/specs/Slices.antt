-- The slice of a sparse tree, and a slice of it.
use Rattle.std.specs.Prelude.{ℕ, ◌≡◌, ◌+◌, ◌-◌, ◌==◌, if◌then◌else◌, None}
use Rattle.vx_base.specs.Masks.{rows_between}
use Rattle.vx_base.specs.PlainScalar.{PlainScalar}
use Rattle.vx_model.specs.Column.{column, column_of}
use Rattle.vx_model.specs.Plain.{plain}
use Rattle.vx_model.specs.Rows.{rows}
use Rattle.vx_model.specs.Tree.{Tree, PlainPatches, constant, sparse, sparse_of}
use Rattle.vx_model.specs.TreeType.{tree_type}
use Rattle.vx_model.specs.WellFormed.{WellFormed, indices_below}
use Rattle.vx_rules.specs.Selections.{slice_refusal, sliced}

-- the number of patches of the rows before a row
abbrev pub patches_before : PlainPatches → ℕ → ℕ
patches_before p row = indices_below (p.offset + row) (rows p.indices)

-- the rows `start` to `end - 1` of a tree as a plain tree
abbrev pub plain_part : Tree → ℕ → ℕ → Tree
plain_part t start end = plain (column (tree_type t) (rows_between (rows t) start end))

-- a Sparse over the patches of the rows `start` to `end - 1`, which are those from one place to another: the indices stay, and the
-- offset is raised
abbrev pub cut_tree : PlainPatches → PlainScalar → ℕ → ℕ → ℕ → ℕ → Tree
cut_tree p fill start end low high = sparse (end - start) (p.offset + start) (plain_part p.indices low high) (plain_part p.values low high) fill

-- Without a patch in the slice a Constant of the fill, also of no rows; with a patch in each row the plain tree of the patch values;
-- else a Sparse over the patches within
abbrev pub sliced_tree : PlainPatches → PlainScalar → ℕ → ℕ → Tree
sliced_tree p fill start end =
    let low = patches_before p start in
    let high = patches_before p end in
    if high - low == 0 then constant fill (end - start)
    else (if high - low == end - start then plain_part p.values low high else cut_tree p fill start end low high)

-- a slice of a slice, both in bounds, is the slice by summed starts, which is in bounds as well
abbrev pub SparseSlicesCompose : Type 0
SparseSlicesCompose =
    (p : PlainPatches) (fill : PlainScalar) (start end from to : ℕ) → WellFormed (sparse_of p fill)
    → slice_refusal (column_of (sparse_of p fill)) start end ≡ None → slice_refusal (column_of (sliced_tree p fill start end)) from to ≡ None
    → (slice_refusal (column_of (sparse_of p fill)) (start + from) (start + to) ≡ None)
    × (sliced (column_of (sliced_tree p fill start end)) from to ≡ column_of (sliced_tree p fill (start + from) (start + to)))
