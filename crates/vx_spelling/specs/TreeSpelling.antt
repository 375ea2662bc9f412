-- How a tree is spelled, node by node: the place of its encoding's id, and then what the node has, children as trees.
use Rattle.std.specs.Prelude.{ℕ, zero, suc, ◌≤◌, ◌-◌, IsTrue, List, [], ◌∷◌, ◌++◌, length, Option, Some, None, ◌==◌, cond}
use Rattle.vx_base.specs.declared.array_id.ArrayId.{ArrayId}
use Rattle.vx_base.specs.declared.array_id.ArrayId.TheVariants as ids
use Rattle.vx_base.specs.IdNumber.{id_number}
use Rattle.vx_base.specs.PlainType.{is_text, nullability_of}
use Rattle.vx_codec.specs.Bits.{bits}
use Rattle.vx_codec.specs.FixedWidth.{enumerated}
use Rattle.vx_codec.specs.Format.{Parse, Format, tested_at, made_at, keyed_at}
use Rattle.vx_codec.specs.Lists.{delimited}
use Rattle.vx_codec.specs.Varint.{varint}
use Rattle.vx_model.specs.Nodes.{encoding}
use Rattle.vx_model.specs.Rows.{rows}
use Rattle.vx_model.specs.Tree.{Tree, Trees, PlainPacked, bool, primitive, var_bin_view, var_bin, timestamp, constant, masked, bit_packed, bit_packed_with, frame_of_reference, zig_zag, dict, nulls, structure, list, fixed_size_list, more, sparse, run_end, rle, sequence, delta, datetime_parts, bit_packed_v2, bit_packed_v2_with, frame_of_reference_v2, sparse_chunked}
use Rattle.vx_model.specs.WellFormed.{WellFormed}
use Rattle.vx_spelling.specs.Fields.{nullability, ptype, name, timestamp_kind, row_count, list_size, validity, counted_bytes}
use Rattle.vx_spelling.specs.LeafParts.{bool_parts, bool_of, primitive_parts, primitive_of, byte_type, view_parts, view_of, constant_parts, constant_of, sequence_parts, sequence_of}
use Rattle.vx_spelling.specs.NestedParts.{struct_parts, struct_of, list_parts, list_of, fixed_parts, fixed_of, timestamp_parts, timestamp_of, DateTimeParts, datetime_of, var_bin_parts, var_bin_of, masked_parts, masked_of, dict_parts, dict_of, run_end_parts, run_end_of, rle_parts, rle_of}
use Rattle.vx_spelling.specs.PackedParts.{sparse_parts, sparse_from, PackedFields, packed_fields, packed_parts, packed_from, blocks_parts, blocks_from, for_parts, for_of, frames_parts, frames_of, delta_parts, delta_of, zig_zag_parts}
use Rattle.vx_spelling.specs.NestedParts as parts
use Rattle.vx_spelling.specs.Storable.{depth, is_within, all_within, NumbersFit}
use Rattle.vx_spelling.specs.ValueSpelling.{scalar_parts}

-- the encoding of a byte; None from 23 on
abbrev pub id_from : ℕ → Option ArrayId
id_from n =
    cond (n == 0) (Some ids.Null) (cond (n == 1) (Some ids.Bool) (cond (n == 2) (Some ids.Primitive) (cond (n == 3) (Some ids.VarBinView)
    (cond (n == 4) (Some ids.Struct) (cond (n == 5) (Some ids.List) (cond (n == 6) (Some ids.FixedSizeList) (cond (n == 7) (Some ids.Timestamp)
    (cond (n == 8) (Some ids.Constant) (cond (n == 9) (Some ids.Masked) (cond (n == 10) (Some ids.Dict) (cond (n == 11) (Some ids.VarBin)
    (cond (n == 12) (Some ids.Sparse) (cond (n == 13) (Some ids.DateTimeParts) (cond (n == 14) (Some ids.RunEnd) (cond (n == 15) (Some ids.BitPacked)
    (cond (n == 16) (Some ids.BitPackedV2) (cond (n == 17) (Some ids.FoR) (cond (n == 18) (Some ids.FoRV2) (cond (n == 19) (Some ids.Delta)
    (cond (n == 20) (Some ids.Rle) (cond (n == 21) (Some ids.ZigZag) (cond (n == 22) (Some ids.Sequence) None))))))))))))))))))))))

-- the encoding of a node, by a byte from 0 to 22
abbrev pub node_id : Format ArrayId
node_id = enumerated id_number id_from

-- an id, and what stands behind it
abbrev pub with_id : ArrayId → List ℕ → List ℕ
with_id id text = node_id.spell id ++ text

-- the fields of patches without chunk offsets, of the spellings of the trees inside
abbrev pub flat_text : ℕ → ℕ → List ℕ → List ℕ → List ℕ
flat_text len offset indices values = (row_count.spell len ++ varint.spell offset) ++ (indices ++ values)

-- the parts of packed integers
abbrev pub packed_fields_of : PlainPacked → PackedFields
packed_fields_of k = (((k.ptype, k.nullability), (k.width, k.len)), (k.bytes, k.valid))

-- what stands behind the id
abbrev mutual
  pub body : Tree → List ℕ
  body (bool bs valid n) = bool_parts.spell ((n, bs), valid)
  body (primitive p xs valid n) = primitive_parts.spell ((p, n), (xs, valid))
  body (var_bin_view vs valid t) = view_parts.spell ((is_text t, nullability_of t), (vs, valid))
  body (var_bin offsets bs valid t) =
      byte_type.spell (is_text t, nullability_of t) ++ (with_id (encoding offsets) (body offsets) ++ (delimited.spell bs ++ (validity (length (rows offsets) - 1)).spell valid))
  body (timestamp storage k) = timestamp_kind.spell k ++ with_id (encoding storage) (body storage)
  body (constant s len) = constant_parts.spell (len, (s.dtype, s.value))
  body (masked child valid) = with_id (encoding child) (body child) ++ (bits (length (rows child))).spell valid
  body (bit_packed k) = packed_fields.spell (packed_fields_of k) ++ 0 ∷ []
  body (bit_packed_with k len offset indices values) =
      packed_fields.spell (packed_fields_of k) ++ 1 ∷ (flat_text len offset (with_id (encoding indices) (body indices)) (with_id (encoding values) (body values)) ++ 0 ∷ [])
  body (frame_of_reference encoded reference) = with_id (encoding encoded) (body encoded) ++ scalar_parts.spell (reference.dtype, reference.value)
  body (zig_zag encoded) = with_id (encoding encoded) (body encoded)
  body (dict codes values) = with_id (encoding codes) (body codes) ++ with_id (encoding values) (body values)
  body (nulls len) = row_count.spell len
  body (structure names fields len valid n) =
      (nullability.spell n ++ row_count.spell len) ++ ((varint.spell (length names) ++ fields_body names fields) ++ (validity len).spell valid)
  body (list elements offsets valid n) =
      nullability.spell n ++ ((with_id (encoding elements) (body elements) ++ with_id (encoding offsets) (body offsets)) ++ (validity (length (rows offsets) - 1)).spell valid)
  body (fixed_size_list elements size len valid n) =
      (nullability.spell n ++ (list_size.spell size ++ row_count.spell len)) ++ (with_id (encoding elements) (body elements) ++ (validity len).spell valid)
  body (sparse len offset indices values fill) =
      (flat_text len offset (with_id (encoding indices) (body indices)) (with_id (encoding values) (body values)) ++ 0 ∷ []) ++ scalar_parts.spell (fill.dtype, fill.value)
  body (run_end ends values) = with_id (encoding ends) (body ends) ++ with_id (encoding values) (body values)
  body (rle values indices offsets len) =
      row_count.spell len ++ (with_id (encoding values) (body values) ++ (with_id (encoding indices) (body indices) ++ with_id (encoding offsets) (body offsets)))
  body (sequence p n first step len) = sequence_parts.spell ((p, n), ((first, step), len))
  body (delta bases deltas len valid n) =
      (nullability.spell n ++ row_count.spell len) ++ ((with_id (encoding bases) (body bases) ++ with_id (encoding deltas) (body deltas)) ++ (validity len).spell valid)
  body (datetime_parts k n days seconds subseconds) =
      (timestamp_kind.spell k ++ nullability.spell n)
      ++ (with_id (encoding days) (body days) ++ (with_id (encoding seconds) (body seconds) ++ with_id (encoding subseconds) (body subseconds)))
  body (bit_packed_v2 k offsets) =
      (((ptype.spell k.ptype ++ nullability.spell k.nullability) ++ row_count.spell k.len) ++ (with_id (encoding offsets) (body offsets) ++ (counted_bytes.spell k.bytes ++ (validity k.len).spell k.valid)))
      ++ 0 ∷ []
  body (bit_packed_v2_with k offsets len offset indices values) =
      (((ptype.spell k.ptype ++ nullability.spell k.nullability) ++ row_count.spell k.len) ++ (with_id (encoding offsets) (body offsets) ++ (counted_bytes.spell k.bytes ++ (validity k.len).spell k.valid)))
      ++ 1 ∷ (flat_text len offset (with_id (encoding indices) (body indices)) (with_id (encoding values) (body values)) ++ 0 ∷ [])
  body (frame_of_reference_v2 encoded references) = with_id (encoding encoded) (body encoded) ++ with_id (encoding references) (body references)
  body (sparse_chunked len offset indices values chunks fill) =
      (flat_text len offset (with_id (encoding indices) (body indices)) (with_id (encoding values) (body values)) ++ 1 ∷ with_id (encoding chunks) (body chunks))
      ++ scalar_parts.spell (fill.dtype, fill.value)

  -- the name and the tree of each field
  pub fields_body : List (List ℕ) → Trees → List ℕ
  fields_body (field ∷ names) (more t ts) = (name.spell field ++ with_id (encoding t) (body t)) ++ fields_body names ts
  fields_body _ _ = []

-- the spelling of a tree
abbrev pub tree_text : Tree → List ℕ
tree_text t = with_id (encoding t) (body t)

-- the format of child trees, given their reader; only its `parse` is used
abbrev pub trees_by : Parse Tree → Format Tree
trees_by inner = record { spell = tree_text; parse = inner; Fits = λ _. Unit {0} }

-- what stands behind each id
abbrev pub node_behind : Format Tree → ArrayId → Parse Tree
node_behind child ids.Null = made_at nulls row_count.parse
node_behind child ids.Bool = made_at bool_of bool_parts.parse
node_behind child ids.Primitive = made_at primitive_of primitive_parts.parse
node_behind child ids.VarBinView = made_at view_of view_parts.parse
node_behind child ids.Struct = made_at struct_of (struct_parts child).parse
node_behind child ids.List = made_at list_of (list_parts child).parse
node_behind child ids.FixedSizeList = made_at fixed_of (fixed_parts child).parse
node_behind child ids.Timestamp = made_at timestamp_of (timestamp_parts child).parse
node_behind child ids.Constant = made_at constant_of constant_parts.parse
node_behind child ids.Masked = made_at masked_of (masked_parts child).parse
node_behind child ids.Dict = made_at dict_of (dict_parts child).parse
node_behind child ids.VarBin = made_at var_bin_of (var_bin_parts child).parse
node_behind child ids.Sparse = made_at sparse_from (sparse_parts child).parse
node_behind child ids.DateTimeParts = made_at datetime_of (parts.datetime_parts child).parse
node_behind child ids.RunEnd = made_at run_end_of (run_end_parts child).parse
node_behind child ids.BitPacked = made_at packed_from (packed_parts child).parse
node_behind child ids.BitPackedV2 = made_at blocks_from (blocks_parts child).parse
node_behind child ids.FoR = made_at for_of (for_parts child).parse
node_behind child ids.FoRV2 = made_at frames_of (frames_parts child).parse
node_behind child ids.Delta = made_at delta_of (delta_parts child).parse
node_behind child ids.Rle = made_at rle_of (rle_parts child).parse
node_behind child ids.ZigZag = made_at zig_zag (zig_zag_parts child).parse
node_behind child ids.Sequence = made_at sequence_of sequence_parts.parse

-- reads a tree with at most d nodes on a path, each within the limits of rows and types; d falls at each child, so that no file
-- nests deeper than its reader can follow
abbrev pub tree_at : ℕ → Parse Tree
tree_at zero bytes = None
tree_at (suc d) bytes = tested_at is_within (keyed_at node_id.parse (node_behind (trees_by (tree_at d)))) bytes

-- at most d nodes on a path, well formed, within the limits of rows and types, and the numbers fit
abbrev pub FitsAt : ℕ → Tree → Type 0
FitsAt d t = (depth t ≤ d) × (WellFormed t × (IsTrue (all_within t) × NumbersFit t))

-- a tree with at most d nodes on a path
abbrev pub tree_format : ℕ → Format Tree
tree_format d = record { spell = tree_text; parse = tree_at d; Fits = FitsAt d }
