-- The parts of a row as text. Words of the walk over trees alone: what it writes is said by `value_text` of vx_base.
use Rattle.std.specs.Prelude.{ℕ, List, [], ◌∷◌, ◌++◌, codes, if◌then◌else◌}
use Rattle.vx_base.specs.Masks.{rows_between}
use Rattle.vx_base.specs.TypeText.{value_text, list_text}
use Rattle.vx_model.specs.Rows.{rows, row_at, is_valid_at}
use Rattle.vx_model.specs.Tree.{Tree, Validity}
use Rattle.vx_model.specs.TreeType.{tree_type}

-- a row of a tree
abbrev pub row_text : Tree → ℕ → List ℕ
row_text t row = value_text (tree_type t) (row_at (rows t) row)

-- the row of each tree, separated by commas; `before` precedes the first
abbrev pub rows_text : List ℕ → List Tree → ℕ → List ℕ
rows_text before [] row = []
rows_text before (t ∷ ts) row = before ++ row_text t row ++ rows_text (codes ",") ts row

-- the rows `start .. end` of a tree, as a list
abbrev pub part_text : Tree → ℕ → ℕ → List ℕ
part_text t start end = list_text (tree_type t) (rows_between (rows t) start end)

-- the text of a row where it is valid, else null
abbrev pub or_null : Validity → ℕ → List ℕ → List ℕ
or_null valid row text = if is_valid_at valid row then text else codes "null"
