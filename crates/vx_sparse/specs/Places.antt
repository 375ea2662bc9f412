-- Which rows of a sparse tree have a patch.
use Rattle.std.specs.Prelude.{ℕ, Option, None, Some}
use Rattle.vx_model.specs.Tree.{Tree, sparse, sparse_chunked}

-- the length, the offset and the indices of a tree whose root is a Sparse
abbrev pub places_in : Tree → Option (ℕ × ℕ × Tree)
places_in (sparse len offset indices values fill) = Some (len, offset, indices)
places_in (sparse_chunked len offset indices values chunks fill) = Some (len, offset, indices)
places_in t = None
