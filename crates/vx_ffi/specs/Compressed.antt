-- What compressing a caller's column answers.
use Rattle.std.specs.Prelude.{ℕ, ◌==◌, List, length, Result, Err, if◌then◌else◌}
use Rattle.vx_btrblocks.specs.Shipped.{shipped_tree}
use Rattle.vx_buffers.specs.Answered.{unless_refused}
use Rattle.vx_ffi.specs.declared.failure.Failure.{Failure}
use Rattle.vx_ffi.specs.declared.failure.Failure.TheVariants.{NoWords}
use Rattle.vx_ffi.specs.Outcomes.{raised}
use Rattle.vx_model.specs.Column.{Column, column_of}
use Rattle.vx_model.specs.Refusals.{compress_refusal}
use Rattle.vx_model.specs.Tree.{Tree}

-- the tree that the shipped schemes make of a column with these sample words
unfoldable pub compressed_tree : List ℕ → Column → Tree
compressed_tree words c = shipped_tree words c

-- what compressing a plain column answers
abbrev pub compressed_column : List ℕ → Tree → Result Tree Failure
compressed_column words t = raised (unless_refused (compress_refusal t) (compressed_tree words (column_of t)))

-- what compressing a plain column with a caller's sample words answers: NoWords where there is none
abbrev pub compressed_rows : List ℕ → Tree → Result Tree Failure
compressed_rows words t = if length words == 0 then Err NoWords else compressed_column words t
