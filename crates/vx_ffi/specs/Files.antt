-- The file of a handle's tree, and the tree of a file.
use Rattle.std.specs.Prelude.{ℕ, ◌∷◌, [], List, Option, Some, None, Result, Ok, Err, if◌then◌else◌}
use Rattle.vx_ffi.specs.declared.failure.Failure.{Failure}
use Rattle.vx_ffi.specs.declared.failure.Failure.TheVariants.{NotStorable, BadFile, NotOneTree}
use Rattle.vx_file.specs.Answers.{are_storable}
use Rattle.vx_model.specs.Tree.{Tree}
use Rattle.vx_spelling.specs.FileSpelling.{file_text}

-- the file of one tree
abbrev pub file_of : Tree → Result (List ℕ) Failure
file_of t = if are_storable (t ∷ []) then Ok (file_text (t ∷ [])) else Err NotStorable

-- the one tree of a file
abbrev pub tree_in : Option (List Tree) → Result Tree Failure
tree_in None = Err BadFile
tree_in (Some []) = Err NotOneTree
tree_in (Some (t ∷ [])) = Ok t
tree_in (Some (t ∷ u ∷ ts)) = Err NotOneTree
