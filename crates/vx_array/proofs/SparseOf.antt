-- A fill and patches, with chunk offsets or without: what their root is, and isn't.
use Rattle.std.proofs.Common.{◌≡◌, ◌+◌, ◌-◌, ◌*◌, ℕ, [], ◌∷◌, length, true, refl, Option, Some, None}
use Rattle.std.specs.Option.{option_to_list}
use Rattle.vx_base.specs.PlainScalar.{PlainScalar}
use Rattle.vx_model.specs.Nodes.{children}
use Rattle.vx_model.specs.Plain.{IsPlain}
use Rattle.vx_model.specs.Rows.{rows}
use Rattle.vx_model.specs.Tree.{Tree, PlainPatches, chunked, nulls, sparse_of}
use Rattle.vx_model.proofs.NullLemmas.{plain-sparse, plain-sparse_chunked}
use Rattle.vx_model.proofs.SparseLemmas.{type-sparse_of, encoding-sparse_of, size-sparse_of}
use Rattle.vx_array.specs.HasRuns.{has_blocks, has_columns, has_runs}
use Rattle.vx_array.specs.IsArray.{has_type}
use Rattle.vx_array.specs.TreeWays.{extent_at}
use Rattle.vx_flat.specs.Ways.{PlainWay, count_at}

module _ (len offset : ℕ) (indices values : Tree) (fill : PlainScalar) where
  abbrev own : Option Tree → Tree
  own o = sparse_of (chunked len offset indices values o) fill

  type-either : (o : Option Tree) → has_type (own o) ≡ true
  type-either None = refl
  type-either (Some chunks) = refl

  runs-either : (o : Option Tree) → has_runs (own o) ≡ true
  runs-either None = refl
  runs-either (Some chunks) = refl

  blocks-either : (o : Option Tree) → has_blocks (own o) ≡ true → ⊥
  blocks-either None h = cc
  blocks-either (Some chunks) h = cc

  columns-either : (o : Option Tree) → has_columns (own o) ≡ true → ⊥
  columns-either None h = cc
  columns-either (Some chunks) h = cc

  nulls-either : (o : Option Tree) (n : ℕ) → own o ≡ nulls n → ⊥
  nulls-either None n e = cc
  nulls-either (Some chunks) n e = cc

  plain-either : (o : Option Tree) → IsPlain (own o) → ⊥
  plain-either None h = plain-sparse len offset indices values fill h
  plain-either (Some chunks) h = plain-sparse_chunked len offset indices values chunks fill h

  extent-either : (w : PlainWay) (o : Option Tree) → extent_at w (own o) ≡ extent_at w values + (len - length (rows values)) * count_at w fill.dtype (fill.value ∷ [])
  extent-either w None = refl
  extent-either w (Some chunks) = refl

  children-either : (o : Option Tree) → children (own o) ≡ indices ∷ values ∷ option_to_list o
  children-either None = refl
  children-either (Some chunks) = refl

module _ (p : PlainPatches) (fill : PlainScalar) where
  -- it has the tree's type, and stands for many rows by few numbers
  pub has_type-sparse_of : has_type (sparse_of p fill) ≡ true
  has_type-sparse_of = type-either p.array_len p.offset p.indices p.values fill p.chunks

  pub has_runs-sparse_of : has_runs (sparse_of p fill) ≡ true
  has_runs-sparse_of = runs-either p.array_len p.offset p.indices p.values fill p.chunks

  pub blocks-sparse_of : has_blocks (sparse_of p fill) ≡ true → ⊥
  blocks-sparse_of h = blocks-either p.array_len p.offset p.indices p.values fill p.chunks h

  pub columns-sparse_of : has_columns (sparse_of p fill) ≡ true → ⊥
  columns-sparse_of h = columns-either p.array_len p.offset p.indices p.values fill p.chunks h

  -- it is none of nulls alone, and isn't plain
  pub nulls-sparse_of : (n : ℕ) → sparse_of p fill ≡ nulls n → ⊥
  nulls-sparse_of n e = nulls-either p.array_len p.offset p.indices p.values fill p.chunks n e

  pub plain-sparse_of : IsPlain (sparse_of p fill) → ⊥
  plain-sparse_of h = plain-either p.array_len p.offset p.indices p.values fill p.chunks h

  -- the extent of a column, and the trees inside
  pub extent-sparse_of : (w : PlainWay) → extent_at w (sparse_of p fill) ≡ extent_at w p.values + (p.array_len - length (rows p.values)) * count_at w fill.dtype (fill.value ∷ [])
  extent-sparse_of w = extent-either p.array_len p.offset p.indices p.values fill w p.chunks

  pub children-sparse_of : children (sparse_of p fill) ≡ p.indices ∷ p.values ∷ option_to_list p.chunks
  children-sparse_of = children-either p.array_len p.offset p.indices p.values fill p.chunks

pub ruleset roots = (has_type-sparse_of, type-sparse_of, encoding-sparse_of, size-sparse_of, extent-sparse_of)

pub ruleset no_plain = (plain-sparse_of)
