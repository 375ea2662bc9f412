-- The encoding of a tree's root, and the trees inside in their order.
use Rattle.std.specs.Prelude.{List, [], ◌∷◌}
use Rattle.vx_base.specs.declared.array_id.ArrayId.{ArrayId}
use Rattle.vx_base.specs.declared.array_id.ArrayId.TheVariants as ids
use Rattle.vx_model.specs.Tree.{Tree, bool, primitive, var_bin_view, var_bin, timestamp, constant, masked, bit_packed, bit_packed_with, frame_of_reference, zig_zag, dict, nulls, structure, list, fixed_size_list, list_of, sparse, run_end, rle, sequence, delta, datetime_parts, bit_packed_v2, bit_packed_v2_with, frame_of_reference_v2, sparse_chunked}

-- the encoding of a tree's root
abbrev pub encoding : Tree → ArrayId
encoding (bool bs valid n) = ids.Bool
encoding (primitive p xs valid n) = ids.Primitive
encoding (var_bin_view vs valid t) = ids.VarBinView
encoding (var_bin offsets bytes valid t) = ids.VarBin
encoding (timestamp storage k) = ids.Timestamp
encoding (constant s len) = ids.Constant
encoding (masked child valid) = ids.Masked
encoding (bit_packed k) = ids.BitPacked
encoding (bit_packed_with k len offset indices values) = ids.BitPacked
encoding (frame_of_reference encoded reference) = ids.FoR
encoding (zig_zag encoded) = ids.ZigZag
encoding (dict codes values) = ids.Dict
encoding (nulls len) = ids.Null
encoding (structure names fields len valid n) = ids.Struct
encoding (list elements offsets valid n) = ids.List
encoding (fixed_size_list elements size len valid n) = ids.FixedSizeList
encoding (sparse len offset indices values fill) = ids.Sparse
encoding (run_end ends values) = ids.RunEnd
encoding (rle values indices offsets len) = ids.Rle
encoding (sequence p n first step len) = ids.Sequence
encoding (delta bases deltas len valid n) = ids.Delta
encoding (datetime_parts k n days seconds subseconds) = ids.DateTimeParts
encoding (bit_packed_v2 k offsets) = ids.BitPackedV2
encoding (bit_packed_v2_with k offsets len offset indices values) = ids.BitPackedV2
encoding (frame_of_reference_v2 encoded references) = ids.FoRV2
encoding (sparse_chunked len offset indices values chunks fill) = ids.Sparse

-- the trees inside, in their order
abbrev pub children : Tree → List Tree
children (bool bs valid n) = []
children (primitive p xs valid n) = []
children (var_bin_view vs valid t) = []
children (var_bin offsets bytes valid t) = offsets ∷ []
children (timestamp storage k) = storage ∷ []
children (constant s len) = []
children (masked child valid) = child ∷ []
children (bit_packed k) = []
children (bit_packed_with k len offset indices values) = indices ∷ values ∷ []
children (frame_of_reference encoded reference) = encoded ∷ []
children (zig_zag encoded) = encoded ∷ []
children (dict codes values) = codes ∷ values ∷ []
children (nulls len) = []
children (structure names fields len valid n) = list_of fields
children (list elements offsets valid n) = elements ∷ offsets ∷ []
children (fixed_size_list elements size len valid n) = elements ∷ []
children (sparse len offset indices values fill) = indices ∷ values ∷ []
children (run_end ends values) = ends ∷ values ∷ []
children (rle values indices offsets len) = values ∷ indices ∷ offsets ∷ []
children (sequence p n first step len) = []
children (delta bases deltas len valid n) = bases ∷ deltas ∷ []
children (datetime_parts k n days seconds subseconds) = days ∷ seconds ∷ subseconds ∷ []
children (bit_packed_v2 k offsets) = offsets ∷ []
children (bit_packed_v2_with k offsets len offset indices values) = offsets ∷ indices ∷ values ∷ []
children (frame_of_reference_v2 encoded references) = encoded ∷ references ∷ []
children (sparse_chunked len offset indices values chunks fill) = indices ∷ values ∷ chunks ∷ []
