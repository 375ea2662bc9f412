-- The size of a tree in bytes.
use Rattle.std.specs.Prelude.{ℕ, min, ◌-◌, ◌^◌, ◌+◌, ◌*◌, ◌/◌, nat_le, List, length, sum_by, if◌then◌else◌, Option, Some, None}
use Rattle.vx_base.specs.Integers.{bytes_of}
use Rattle.vx_base.specs.Packed.{packed_size}
use Rattle.vx_base.specs.PlainType.{PlainType, PlainFields, is_integer, integer_of}
use Rattle.vx_base.specs.PlainType as types
use Rattle.vx_base.specs.PlainValue.{PlainValue, PlainValues, null, truth, int, bytes, items}
use Rattle.vx_base.specs.PlainValue as vals
use Rattle.vx_model.specs.Tree.{Tree, Trees, Validity, PlainPatches, bool, var_bin_view, var_bin, timestamp, constant, masked, bit_packed, bit_packed_with, frame_of_reference, zig_zag, dict, nulls, structure, list, fixed_size_list, none, more, sparse, run_end, rle, sequence, delta, datetime_parts, bit_packed_v2, bit_packed_v2_with, frame_of_reference_v2, sparse_chunked}
use Rattle.vx_model.specs.Tree as trees

-- the bytes of a number of bits, rounded up
abbrev pub bit_bytes : ℕ → ℕ
bit_bytes bits = (bits + 7) / 8

-- the bytes of validity, at a bit per row
abbrev pub validity_size : Validity → ℕ
validity_size None = 0
validity_size (Some bits) = bit_bytes (length bits)

-- the bytes of a value of a type, with those within; 0 of null
abbrev mutual
  pub payload : PlainType → PlainValue → ℕ
  payload t null = 0
  payload t (truth b) = 1
  payload t (int z) = if is_integer t then bytes_of (integer_of t) else 8
  payload t (bytes bs) = length bs
  payload (types.structure fs n) (items vs) = fields_payload fs vs
  payload (types.list t n) (items vs) = items_payload t vs
  payload (types.fixed_size_list t size n) (items vs) = items_payload t vs
  payload _ (items vs) = 0

  -- of each value, by its field's type
  pub fields_payload : PlainFields → PlainValues → ℕ
  fields_payload (types.more name t fs) (vals.more v vs) = payload t v + fields_payload fs vs
  fields_payload _ _ = 0

  -- of each value, by the one type
  pub items_payload : PlainType → PlainValues → ℕ
  items_payload t vals.none = 0
  items_payload t (vals.more v vs) = payload t v + items_payload t vs

-- the bytes of a text or binary beside its view of 16 bytes, which holds up to 12 of them inline
abbrev pub long_bytes : List ℕ → ℕ
long_bytes bs = if nat_le (length bs) 12 then 0 else length bs

-- the size of a tree, node by node
abbrev mutual
  pub size : Tree → ℕ
  size (bool bs valid n) = bit_bytes (length bs) + validity_size valid
  size (var_bin_view vs valid t) = 16 * length vs + sum_by long_bytes vs + validity_size valid
  size (var_bin offsets bs valid t) = size offsets + length bs + validity_size valid
  size (timestamp storage k) = size storage
  size (trees.primitive p xs valid n) = length xs * bytes_of p + validity_size valid
  size (constant s len) = 1 + payload s.dtype s.value
  size (masked child valid) = size child + bit_bytes (length valid)
  size (bit_packed k) = packed_size k.width k.len + validity_size k.valid
  size (bit_packed_with k len offset indices values) = packed_size k.width k.len + (size indices + size values) + validity_size k.valid
  size (frame_of_reference encoded reference) = size encoded
  size (zig_zag encoded) = size encoded
  size (dict codes values) = size codes + size values
  size (nulls len) = 0
  size (structure names fields len valid n) = sizes fields + validity_size valid
  size (list elements offsets valid n) = size elements + size offsets + validity_size valid
  size (fixed_size_list elements count len valid n) = size elements + validity_size valid
  size (sparse len offset indices values fill) = size indices + size values + (1 + payload fill.dtype fill.value)
  size (run_end ends values) = size ends + size values
  size (rle values indices offsets len) = size values + size indices + size offsets
  size (sequence p n first step len) = 0
  size (delta bases deltas len valid n) = size bases + size deltas + validity_size valid
  size (datetime_parts k n days seconds subseconds) = size days + size seconds + size subseconds
  size (bit_packed_v2 k offsets) = length k.bytes + size offsets + validity_size k.valid
  size (bit_packed_v2_with k offsets len offset indices values) = length k.bytes + (size offsets + (size indices + size values)) + validity_size k.valid
  size (frame_of_reference_v2 encoded references) = size encoded + size references
  size (sparse_chunked len offset indices values chunks fill) = size indices + size values + size chunks + (1 + payload fill.dtype fill.value)

  -- the sum over several trees
  pub sizes : Trees → ℕ
  sizes none = 0
  sizes (more t ts) = size t + sizes ts

-- the size of patches, if there are any
abbrev pub patches_size : Option PlainPatches → ℕ
patches_size None = 0
patches_size (Some p) = size p.indices + size p.values

-- the size of chunk offsets, if there are any
abbrev pub chunks_size : Option Tree → ℕ
chunks_size None = 0
chunks_size (Some chunks) = size chunks

-- the size, saturated at 128 bits
abbrev pub nbytes : Tree → ℕ
nbytes t = min (size t) (2 ^ 128 - 1)
