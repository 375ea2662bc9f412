-- Compressed patches: narrow indices and chunk offsets, and one scalar for values that are all equal.
use Rattle.std.specs.Prelude.{◌≡◌, IsTrue, if◌then◌else◌, List, [], ◌∷◌, length, map, Option, None, Some, option_map}
use Rattle.std.specs.List.{list_all}
use Rattle.vx_base.specs.declared.dtype.Nullability.TheVariants.{NonNullable}
use Rattle.vx_base.specs.declared.ptype.PType.TheVariants.{U64}
use Rattle.vx_base.specs.PlainScalar.{scalar}
use Rattle.vx_base.specs.PlainType.{is_integer}
use Rattle.vx_base.specs.PlainValue.{PlainValue, same_value, whole_or_zero}
use Rattle.vx_model.specs.Column.{Column, column_of}
use Rattle.vx_model.specs.Plain.{plain}
use Rattle.vx_model.specs.Rows.{rows}
use Rattle.vx_model.specs.Tree.{Tree, PlainPatches, chunked, primitive, constant}
use Rattle.vx_model.specs.TreeType.{tree_type}
use Rattle.vx_model.specs.WellFormed.{never_falls}
use Rattle.vx_schemes_common.specs.Narrowed.{index_type}
use Rattle.vx_schemes_common.specs.Rising.{fit_all}

-- integers of 0 to 2^64 - 1, none of them null, that never decrease, as indices and chunk offsets are
pub record IsRising (t : Tree) : Type 0 where
  pub integers : IsTrue (is_integer (tree_type t))
  pub words : IsTrue (fit_all U64 (rows t))
  pub rising : IsTrue (never_falls (rows t))

-- the plain tree of indices or chunk offsets, in the narrowest unsigned type that holds them
abbrev pub narrowed : Tree → Tree
narrowed t = primitive (index_type (rows t)) (map whole_or_zero (rows t)) None NonNullable

-- the value that all rows share, null equal to null; None where there is no row, or where two differ
abbrev pub shared_value : List PlainValue → Option PlainValue
shared_value [] = None
shared_value (v ∷ vs) = if list_all (λ w. same_value w v) vs then Some v else None

-- a constant of a shared value; else the plain tree
abbrev pub shared_or_plain : Column → Option PlainValue → Tree
shared_or_plain c None = plain c
shared_or_plain c (Some v) = constant (scalar c.dtype v) (length c.values)

-- a constant where all rows share a value; else the plain tree
abbrev pub constant_or_plain : Column → Tree
constant_or_plain c = shared_or_plain c (shared_value c.values)

-- the compressed patches, with chunk offsets exactly where the patches have them
abbrev pub compressed_patches : PlainPatches → PlainPatches
compressed_patches p = chunked p.array_len p.offset (narrowed p.indices) (constant_or_plain (column_of p.values)) (option_map narrowed p.chunks)

-- both patch the same rows with the same values, and have the same chunk offsets, or none
pub record PatchAlike (p q : PlainPatches) : Type 0 where
  pub array_len : q.array_len ≡ p.array_len
  pub offset : q.offset ≡ p.offset
  pub indices : rows q.indices ≡ rows p.indices
  pub values : column_of q.values ≡ column_of p.values
  pub chunks : option_map rows q.chunks ≡ option_map rows p.chunks
