-- How a list of trees is spelled as a file: the bytes VXTREES1, the number of trees, and each tree behind the length of its
-- spelling; nothing follows.
use Rattle.std.specs.Prelude.{ℕ, Bool, List, length, Option, Some, ◌==◌}
use Rattle.vx_codec.specs.FixedWidth.{fixed_width}
use Rattle.vx_codec.specs.Format.{◌>>=◌, Format, both, tested}
use Rattle.vx_codec.specs.Lists.{AllFit, counted, framed, to_end}
use Rattle.vx_codec.specs.Varint.{varint}
use Rattle.vx_model.specs.Tree.{Tree}
use Rattle.vx_spelling.specs.Storable.{IsStorable, NumbersFit}
use Rattle.vx_spelling.specs.TreeSpelling.{tree_format, tree_text}

-- the bytes VXTREES1 as a number of eight bytes, little-endian
abbrev pub magic : ℕ
magic = 3_554_260_694_961_772_630

-- whether a number is the mark
abbrev pub is_magic : ℕ → Bool
is_magic n = n == magic

-- the mark of a file
abbrev pub mark : Format ℕ
mark = tested is_magic (fixed_width 8)

-- a tree with at most 64 nodes on a path, behind the length of its spelling
abbrev pub framed_tree : Format Tree
framed_tree = framed (tree_format 64)

-- layout of a file: the mark, the number of trees, and each tree in its frame
abbrev pub file : Format (ℕ × List Tree)
file = both mark (counted framed_tree)

-- the file of a list of trees
abbrev pub file_text : List Tree → List ℕ
file_text ts = file.spell (magic, ts)

-- the list of trees of a file; None where the bytes are no file
abbrev pub file_at : List ℕ → Option (List Tree)
file_at bytes = to_end file.parse bytes >>= λ x. Some x.1

-- a storable tree, whose numbers fit their fields, as the length of its spelling does
pub record CanBeStored (t : Tree) : Type 0 where
  pub storable : IsStorable t
  pub numbers : NumbersFit t
  pub size : varint.Fits (length (tree_text t))

-- fewer than 2^64 trees, each of which can be stored
abbrev pub AllCanBeStored : List Tree → Type 0
AllCanBeStored ts = varint.Fits (length ts) × AllFit CanBeStored ts
