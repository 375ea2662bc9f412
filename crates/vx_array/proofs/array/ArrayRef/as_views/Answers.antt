use Rattle.std.proofs.Common.{◌≡◌, ◌∙◌, refl, ap, sym, Some, None}
use Rattle.vx_array.specs.declared.array.Node.{Node}
use Rattle.vx_array.specs.declared.array.Node.TheVariants as nodes
use Rattle.vx_model.specs.Nodes.{encoding}
use Rattle.vx_model.specs.Rows.{rows}
use Rattle.vx_model.specs.Tree.{var_bin_view}
use Rattle.vx_model.specs.TreeType.{tree_type}
use Rattle.vx_model.proofs.SparseLemmas.{encoding-sparse_of}
use Rattle.vx_model.proofs.ViewLemmas.{plain_of-bytes}
use Rattle.vx_array.specs.TreeOf.{tree_of}
use Rattle.vx_array.proofs.array.ArrayRef.as_views.Goals as goal

-- a node that is no such leaf has another tree
no_view : (n : Node) → ((x : _) (y : _) (z : _) → n ≡ nodes.VarBinView x y z → ⊥) → (vs : _) (valid : _) (t : _) → tree_of n ≡ var_bin_view vs valid t → ⊥
no_view (nodes.VarBinView x y z) other vs valid t e = other x y z refl
no_view (nodes.BitPacked p width bytes len bits None n) other vs valid t e = cc
no_view (nodes.BitPacked p width bytes len bits (Some patches) n) other vs valid t e = cc
no_view (nodes.Sparse patches fill) other vs valid t e = let same = sym (encoding-sparse_of patches.value fill) ∙ ap encoding e in cc
no_view (nodes.BitPackedV2 p bytes offsets len bits None n) other vs valid t e = cc
no_view (nodes.BitPackedV2 p bytes offsets len bits (Some patches) n) other vs valid t e = cc
no_view n other vs valid t e = cc

-- a plain tree of texts or binaries is such a leaf
pub unreachable-requires : goal.unreachable-requires
unreachable-requires c =
    let own = c.args.self.now in
    let shape = c.requires.plain ∙ plain_of-bytes (tree_type own) (rows own) c.requires.bytes in
    no_view c.self.inside.node c.in_default.not-VarBinView _ _ _ (c.self.view_is ∙ shape)
