-- What is known where a match has shown an array's root.
use Rattle.std.proofs.Common.{◌≡◌, ℕ, refl, sym, ◌∙◌, ap, subst, Option, Some, None, Box, Global, false}
use Rattle.std.specs.Prelude.{is_some}
use Rattle.vx_base.specs.PlainType.{PlainType}
use Rattle.vx_array.specs.declared.array.Node.{Node}
use Rattle.vx_array.specs.declared.array.Node.TheVariants as nodes
use Rattle.vx_model.specs.Tree.{PlainBlocks, PlainPacked, PlainPatches, Tree, bit_packed, bit_packed_v2, blocks_of, nulls, packed_of}
use Rattle.vx_model.specs.WellFormed.{WellFormed}
use Rattle.vx_array.specs.TreeOf.{tree_of, unboxed}
use Rattle.vx_array.specs.HasNoChunks.{HasNoChunks}
use Rattle.vx_array.specs.IsArray.{IsArray}
use Rattle.vx_array.proofs.SparseOf.{nulls-sparse_of}

pub record IsAt (tree shape : Tree) : Type 0 where
  pub is : tree ≡ shape
  pub well_formed : WellFormed shape

pub at_node : {n m : Node} {tree : Tree} {own : Option PlainType} {len : ℕ} → tree_of n ≡ tree → IsArray (tree_of n) own len × HasNoChunks n → n ≡ m → IsAt tree (tree_of m)
at_node v h e = record { is = sym v ∙ ap tree_of e; well_formed = subst WellFormed (ap tree_of e) h.0.well_formed }

-- a node that is none of nulls has another tree
pub no_nulls : (n : Node) → ((x : ℕ) → n ≡ nodes.Null x → ⊥) → (len : ℕ) → tree_of n ≡ nulls len → ⊥
no_nulls (nodes.Null x) other len e = other x refl
no_nulls (nodes.BitPacked p width bytes rows valid None n) other len e = cc
no_nulls (nodes.BitPacked p width bytes rows valid (Some patches) n) other len e = cc
no_nulls (nodes.BitPackedV2 p bytes offsets rows valid None n) other len e = cc
no_nulls (nodes.BitPackedV2 p bytes offsets rows valid (Some patches) n) other len e = cc
no_nulls (nodes.Sparse patches fill) other len e = nulls-sparse_of patches.value fill len e
no_nulls n other len e = cc

-- ---- packed integers without patches

pub none_of : {A : Type 0} (o : Option A) → is_some o ≡ false → o ≡ None
none_of None e = refl
none_of (Some x) e = absurd cc

pub packed_alone : (k : PlainPacked) (patches : Option (Box PlainPatches Global)) → is_some patches ≡ false → packed_of k (unboxed patches) ≡ bit_packed k
packed_alone k None e = refl
packed_alone k (Some p) e = absurd cc

pub blocks_alone : (k : PlainBlocks) (offsets : Tree) (patches : Option (Box PlainPatches Global)) → is_some patches ≡ false → blocks_of k offsets (unboxed patches) ≡ bit_packed_v2 k offsets
blocks_alone k offsets None e = refl
blocks_alone k offsets (Some p) e = absurd cc
