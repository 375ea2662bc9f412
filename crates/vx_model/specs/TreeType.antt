-- The type of a tree.
use Rattle.std.specs.Prelude.{ℕ, List, ◌∷◌}
use Rattle.vx_base.specs.Integers.{signed_of}
use Rattle.vx_base.specs.PlainType.{PlainType, PlainFields, integer_of, nullability_of, or_nullable, with_nullability}
use Rattle.vx_base.specs.PlainType as types
use Rattle.vx_model.specs.Tree.{Tree, Trees, bool, primitive, var_bin_view, var_bin, timestamp, constant, masked, bit_packed, bit_packed_with, frame_of_reference, zig_zag, dict, nulls, structure, list, fixed_size_list, more, sparse, run_end, rle, sequence, delta, datetime_parts, bit_packed_v2, bit_packed_v2_with, frame_of_reference_v2, sparse_chunked}

-- the signed type of an integer type's width, with its nullability
abbrev pub zig_zag_type : PlainType → PlainType
zig_zag_type encoded = types.primitive (signed_of (integer_of encoded)) (nullability_of encoded)

-- the type of the values, nullable where the values or the codes are
abbrev pub dict_type : PlainType → PlainType → PlainType
dict_type codes values = with_nullability values (or_nullable (nullability_of values) (nullability_of codes))

-- the type of a tree
abbrev mutual
  pub tree_type : Tree → PlainType
  tree_type (bool bs valid n) = types.boolean n
  tree_type (primitive p xs valid n) = types.primitive p n
  tree_type (var_bin_view vs valid t) = t
  tree_type (var_bin offsets bytes valid t) = t
  tree_type (timestamp storage k) = types.timestamp k (nullability_of (tree_type storage))
  tree_type (constant s len) = s.dtype
  tree_type (masked child valid) = tree_type child
  tree_type (bit_packed k) = types.primitive k.ptype k.nullability
  tree_type (bit_packed_with k len offset indices values) = types.primitive k.ptype k.nullability
  tree_type (frame_of_reference encoded reference) = types.primitive (integer_of reference.dtype) (nullability_of (tree_type encoded))
  tree_type (zig_zag encoded) = zig_zag_type (tree_type encoded)
  tree_type (dict codes values) = dict_type (tree_type codes) (tree_type values)
  tree_type (nulls len) = types.null_type
  tree_type (structure names fields len valid n) = types.structure (field_types names fields) n
  tree_type (list elements offsets valid n) = types.list (tree_type elements) n
  tree_type (fixed_size_list elements size len valid n) = types.fixed_size_list (tree_type elements) size n
  tree_type (sparse len offset indices values fill) = fill.dtype
  tree_type (run_end ends values) = tree_type values
  tree_type (rle values indices offsets len) = tree_type values
  tree_type (sequence p n first step len) = types.primitive p n
  tree_type (delta bases deltas len valid n) = types.primitive (integer_of (tree_type bases)) n
  tree_type (datetime_parts k n days seconds subseconds) = types.timestamp k n
  tree_type (bit_packed_v2 k offsets) = types.primitive k.ptype k.nullability
  tree_type (bit_packed_v2_with k offsets len offset indices values) = types.primitive k.ptype k.nullability
  tree_type (frame_of_reference_v2 encoded references) = types.primitive (integer_of (tree_type references)) (nullability_of (tree_type encoded))
  tree_type (sparse_chunked len offset indices values chunks fill) = fill.dtype

  -- the fields: each name, and the type of its tree
  pub field_types : List (List ℕ) → Trees → PlainFields
  field_types (name ∷ names) (more t ts) = types.more name (tree_type t) (field_types names ts)
  field_types _ _ = types.none
