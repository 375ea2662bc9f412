-- What is true of each array: its tree is well formed, and the type and length that it keeps are the tree's.
use Rattle.std.specs.Prelude.{◌≡◌, ℕ, Bool, true, false, IsTrue, length, Option, Some, None}
use Rattle.vx_base.specs.PlainType.{PlainType}
use Rattle.vx_model.specs.Tree.{Tree, var_bin_view, var_bin, constant, sparse, sparse_chunked}
use Rattle.vx_model.specs.Rows.{rows}
use Rattle.vx_model.specs.TreeType.{tree_type}
use Rattle.vx_model.specs.WellFormed.{WellFormed}

-- whether the root holds the tree's type: in a constant's scalar, in a fill, and of texts and binaries
abbrev pub has_type : Tree → Bool
has_type (constant s len) = true
has_type (var_bin_view vs valid t) = true
has_type (var_bin offsets bytes valid t) = true
has_type (sparse len offset indices values fill) = true
has_type (sparse_chunked len offset indices values chunks fill) = true
has_type _ = false

-- the type that an array keeps is its tree's; it keeps none where the root has it
abbrev pub IsOwnType : Option PlainType → Tree → Type 0
IsOwnType None tree = IsTrue (has_type tree)
IsOwnType (Some dtype) tree = dtype ≡ tree_type tree

-- the tree is well formed, and the type and the length that the array keeps are the tree's
pub record IsArray (tree : Tree) (own_type : Option PlainType) (len : ℕ) : Type 0 where
  pub well_formed : WellFormed tree
  pub own_type_is : IsOwnType own_type tree
  pub len_is : len ≡ length (rows tree)
