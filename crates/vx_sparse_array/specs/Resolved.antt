-- The patches of a sparse array, as they stand and with offset 0.
use Rattle.std.specs.Prelude.{◌-ℤ◌, ℤ, pos, List, map, Option, None, Some}
use Rattle.vx_base.specs.declared.dtype.Nullability.TheVariants.{NonNullable}
use Rattle.vx_base.specs.declared.ptype.PType.TheVariants.{U64}
use Rattle.vx_base.specs.PlainValue.{whole_or_zero}
use Rattle.vx_model.specs.Rows.{rows}
use Rattle.vx_model.specs.Tree.{Tree, PlainPatches, patches, chunked, primitive, sparse, sparse_chunked}

-- the patches of a tree whose root is a Sparse
abbrev pub patches_in : Tree → Option PlainPatches
patches_in (sparse len offset indices values fill) = Some (patches len offset indices values)
patches_in (sparse_chunked len offset indices values chunks fill) = Some (chunked len offset indices values (Some chunks))
patches_in t = None

-- the patched rows: `index - offset`
abbrev pub patched_places : PlainPatches → List ℤ
patched_places p = map (λ v. whole_or_zero v -ℤ pos p.offset) (rows p.indices)

-- patches of the same rows with the same values, with offset 0 and plain `u64` indices
abbrev pub resolved : PlainPatches → PlainPatches
resolved p = patches p.array_len 0 (primitive U64 (patched_places p) None NonNullable) p.values
