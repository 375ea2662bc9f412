-- The columns nested in a tree, each by the way there, and their extents. Words of this crate's walk alone: what the walk
-- finds is said by `extents` of vx_model.
use Rattle.std.specs.Prelude.{ℕ, zero, suc, ◌+◌, ◌-◌, ◌*◌, List, [], ◌∷◌, ◌++◌, length}
use Rattle.vx_base.specs.PlainType.{PlainType, PlainFields}
use Rattle.vx_base.specs.PlainType as types
use Rattle.vx_model.specs.Rows.{rows}
use Rattle.vx_model.specs.Tree.{Tree, Trees, constant, structure, list, fixed_size_list, sparse, sparse_chunked, none, more}
use Rattle.vx_flat.specs.Ways.{PlainWay, here, field, inside, count_at}

-- f at the way to each column of a type, in their order
abbrev mutual
  pub by_ways : PlainType → (PlainWay → ℕ) → List ℕ
  by_ways (types.structure fs n) f = f here ∷ by_fields fs (λ i w. f (field i w))
  by_ways (types.list t n) f = f here ∷ by_ways t (λ w. f (inside w))
  by_ways (types.fixed_size_list t size n) f = f here ∷ by_ways t (λ w. f (inside w))
  by_ways _ f = f here ∷ []

  -- those of each field
  pub by_fields : PlainFields → (ℕ → PlainWay → ℕ) → List ℕ
  by_fields types.none f = []
  by_fields (types.more name t fs) f = by_ways t (f 0) ++ by_fields fs (λ i. f (suc i))

-- the extent of a column with no nested ones
abbrev pub own_extent : PlainWay → ℕ → ℕ
own_extent here len = len
own_extent _ len = 0

-- the extent of the column at the end of a way; a constant's value and a fill count once a row
abbrev mutual
  pub extent_at : PlainWay → Tree → ℕ
  extent_at w (constant s len) = len * count_at w s.dtype (s.value ∷ [])
  extent_at w (sparse len offset indices values fill) = extent_at w values + (len - length (rows values)) * count_at w fill.dtype (fill.value ∷ [])
  extent_at w (sparse_chunked len offset indices values chunks fill) = extent_at w values + (len - length (rows values)) * count_at w fill.dtype (fill.value ∷ [])
  extent_at here (structure names fields len valid n) = len
  extent_at (field i w) (structure names fields len valid n) = extent_in i w fields
  extent_at (inside w) (structure names fields len valid n) = 0
  extent_at here (list elements offsets valid n) = length (rows offsets) - 1
  extent_at (field i w) (list elements offsets valid n) = 0
  extent_at (inside w) (list elements offsets valid n) = extent_at w elements
  extent_at here (fixed_size_list elements size len valid n) = len
  extent_at (field i w) (fixed_size_list elements size len valid n) = 0
  extent_at (inside w) (fixed_size_list elements size len valid n) = extent_at w elements
  extent_at w t = own_extent w (length (rows t))

  -- in the field at a place
  pub extent_in : ℕ → PlainWay → Trees → ℕ
  extent_in i w none = 0
  extent_in zero w (more t ts) = extent_at w t
  extent_in (suc i) w (more t ts) = extent_in i w ts

-- the extent at the end of a way of `len` structs
abbrev pub fields_extent : PlainWay → ℕ → Trees → ℕ
fields_extent here len ts = len
fields_extent (field i w) len ts = extent_in i w ts
fields_extent (inside w) len ts = 0

-- the extent at the end of a way of `len` lists
abbrev pub items_extent : PlainWay → ℕ → Tree → ℕ
items_extent here len t = len
items_extent (field i w) len t = 0
items_extent (inside w) len t = extent_at w t
