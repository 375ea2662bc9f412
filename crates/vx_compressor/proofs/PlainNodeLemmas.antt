-- The node at the root of a plain tree whose type isn't flat.
use Rattle.std.proofs.Common.{◌≡◌, refl, ℕ, Bool, true, false, List, Option, Some, None}
use Rattle.vx_base.specs.PlainType.{PlainType, is_flat}
use Rattle.vx_base.specs.PlainType as types
use Rattle.vx_base.specs.PlainValue.{PlainValue}
use Rattle.vx_array.specs.declared.array.Node.{Node}
use Rattle.vx_array.specs.declared.array.Node.TheVariants as nodes
use Rattle.vx_array.specs.TreeOf.{tree_of}
use Rattle.vx_model.specs.Plain.{plain_of}
use Rattle.vx_base.specs.PlainScalar.{PlainScalar}
use Rattle.vx_model.specs.Tree.{Tree, chunked, sparse_of}
use Rattle.vx_model.specs.Tree as trees

-- nulls, structs and lists, no encoding of them
abbrev pub is_nest : Tree → Bool
is_nest (trees.nulls len) = true
is_nest (trees.structure names fields len valid n) = true
is_nest (trees.list elements offsets valid n) = true
is_nest (trees.fixed_size_list elements size len valid n) = true
is_nest _ = false

pub plain_of-nest : (t : PlainType) (vs : List PlainValue) → is_flat t ≡ false → is_nest (plain_of t vs) ≡ true
plain_of-nest types.null_type vs e = refl
plain_of-nest (types.structure fs n) vs e = refl
plain_of-nest (types.list t n) vs e = refl
plain_of-nest (types.fixed_size_list t size n) vs e = refl
plain_of-nest t vs e = absurd cc

nest-either : (len offset : ℕ) (indices values : Tree) (fill : PlainScalar) (o : Option Tree) → is_nest (sparse_of (chunked len offset indices values o) fill) ≡ true → ⊥
nest-either len offset indices values fill None h = cc
nest-either len offset indices values fill (Some chunks) h = cc

-- any other node has another tree
pub no_nest : (node : Node) → ((x : _) → node ≡ nodes.Null x → ⊥) → ((x : _) (y : _) (z : _) (v : _) (w : _) → node ≡ nodes.Struct x y z v w → ⊥)
    → ((x : _) (y : _) (z : _) (v : _) → node ≡ nodes.List x y z v → ⊥) → ((x : _) (y : _) (z : _) (v : _) (w : _) → node ≡ nodes.FixedSizeList x y z v w → ⊥)
    → is_nest (tree_of node) ≡ true → ⊥
no_nest (nodes.Null x) a b c d h = a x refl
no_nest (nodes.Struct x y z v w) a b c d h = b x y z v w refl
no_nest (nodes.List x y z v) a b c d h = c x y z v refl
no_nest (nodes.FixedSizeList x y z v w) a b c d h = d x y z v w refl
no_nest (nodes.BitPacked p width bytes len valid None n) a b c d h = cc
no_nest (nodes.BitPacked p width bytes len valid (Some patches) n) a b c d h = cc
no_nest (nodes.BitPackedV2 p bytes offsets len valid None n) a b c d h = cc
no_nest (nodes.BitPackedV2 p bytes offsets len valid (Some patches) n) a b c d h = cc
no_nest (nodes.Sparse patches fill) a b c d h =
    let p = patches.value in
    nest-either p.array_len p.offset p.indices p.values fill p.chunks h
no_nest node a b c d h = cc
