-- How many bytes a tree takes in a file: those of a node's own fields, and its children's.
use Rattle.std.specs.Prelude.{ℕ, Bool, true, false, ◌+◌, ◌-◌, ◌*◌, ◌^◌, min, sum_by, List, length, Option, Some, None}
use Rattle.vx_base.specs.Integers.{bytes_of}
use Rattle.vx_base.specs.PlainScalar.{PlainScalar}
use Rattle.vx_base.specs.Timestamps.{PlainTimestamp}
use Rattle.vx_codec.specs.Bits.{bytes_for}
use Rattle.vx_codec.specs.Varint.{varint}
use Rattle.vx_model.specs.Nodes.{children}
use Rattle.vx_model.specs.Rows.{rows}
use Rattle.vx_model.specs.Tree.{Tree, Validity, PlainPacked, PlainBlocks, PlainPatches, bool, primitive, var_bin_view, var_bin, timestamp, constant, masked, bit_packed, bit_packed_with, frame_of_reference, zig_zag, dict, nulls, structure, list, fixed_size_list, sparse, run_end, rle, sequence, delta, datetime_parts, bit_packed_v2, bit_packed_v2_with, frame_of_reference_v2, sparse_chunked}
use Rattle.vx_spelling.specs.TreeSpelling.{tree_text}
use Rattle.vx_spelling.specs.ValueSpelling.{scalar_parts}

-- a length, or 2^64 - 1 where it is above: no memory holds as many bytes
abbrev pub capped : ℕ → ℕ
capped n = min n (2 ^ 64 - 1)

-- the bytes of a varint
unfoldable pub varint_size : ℕ → ℕ
varint_size n = length (varint.spell n)

-- the bytes of bytes behind their number
abbrev pub delimited_size : ℕ → ℕ
delimited_size count = varint_size count + count

-- the bytes of texts or binaries, each behind its length
abbrev pub texts_size : List (List ℕ) → ℕ
texts_size vs = sum_by (λ v. delimited_size (length v)) vs

-- the bytes of validity: a flag, and where some row is null a bit per row
abbrev pub validity_size : Validity → ℕ → ℕ
validity_size None rows = 1
validity_size (Some bits) rows = 1 + bytes_for rows

-- the bytes of the name of a time zone, if there is one
abbrev pub zone_size : Option (List ℕ) → ℕ
zone_size None = 0
zone_size (Some zone) = delimited_size (length zone)

-- the bytes of a kind of timestamps: the unit, a flag, and the zone's name
abbrev pub kind_size : PlainTimestamp → ℕ
kind_size k = 2 + zone_size k.zone

-- the bytes of a scalar
unfoldable pub scalar_size : PlainScalar → ℕ
scalar_size s = length (scalar_parts.spell (s.dtype, s.value))

-- the bytes of the row count and the offset of patches
abbrev pub flat_size : ℕ → ℕ → ℕ
flat_size len offset = varint_size len + varint_size offset

-- the bytes of the patches of packed integers, without their trees: a flag, and where there are patches their numbers and a byte 0
abbrev pub maybe_flat_size : Option PlainPatches → ℕ
maybe_flat_size None = 1
maybe_flat_size (Some p) = 2 + flat_size p.array_len p.offset

-- the bytes of packed integers before their patches
abbrev pub packed_fields_size : PlainPacked → ℕ
packed_fields_size k = varint_size k.len + (length k.bytes + validity_size k.valid k.len)

-- the bytes of integers packed in blocks before their patches, without the block offsets
abbrev pub blocks_fields_size : PlainBlocks → ℕ
blocks_fields_size k = varint_size k.len + (delimited_size (length k.bytes) + validity_size k.valid k.len)

-- the bytes of a node's id and its own fields
abbrev pub own_size : Tree → ℕ
own_size (bool bs valid n) = 2 + (varint_size (length bs) + (bytes_for (length bs) + validity_size valid (length bs)))
own_size (primitive p xs valid n) = 3 + (varint_size (length xs) + (length xs * bytes_of p + validity_size valid (length xs)))
own_size (var_bin_view vs valid t) = 3 + (varint_size (length vs) + (texts_size vs + validity_size valid (length vs)))
own_size (var_bin offsets bs valid t) = 3 + (delimited_size (length bs) + validity_size valid (length (rows offsets) - 1))
own_size (timestamp storage k) = 1 + kind_size k
own_size (constant s len) = 1 + (varint_size len + scalar_size s)
own_size (masked child valid) = 1 + bytes_for (length (rows child))
own_size (bit_packed k) = 4 + (packed_fields_size k + 1)
own_size (bit_packed_with k len offset indices values) = 4 + (packed_fields_size k + (2 + flat_size len offset))
own_size (frame_of_reference encoded reference) = 1 + scalar_size reference
own_size (zig_zag encoded) = 1
own_size (dict codes values) = 1
own_size (nulls len) = 1 + varint_size len
own_size (structure names fields len valid n) = 2 + (varint_size len + ((varint_size (length names) + texts_size names) + validity_size valid len))
own_size (list elements offsets valid n) = 2 + validity_size valid (length (rows offsets) - 1)
own_size (fixed_size_list elements size len valid n) = 2 + (varint_size size + (varint_size len + validity_size valid len))
own_size (sparse len offset indices values fill) = 2 + (flat_size len offset + scalar_size fill)
own_size (run_end ends values) = 1
own_size (rle values indices offsets len) = 1 + varint_size len
own_size (sequence p n first step len) = 35 + varint_size len
own_size (delta bases deltas len valid n) = 2 + (varint_size len + validity_size valid len)
own_size (datetime_parts k n days seconds subseconds) = 2 + kind_size k
own_size (bit_packed_v2 k offsets) = 3 + (blocks_fields_size k + 1)
own_size (bit_packed_v2_with k offsets len offset indices values) = 3 + (blocks_fields_size k + (2 + flat_size len offset))
own_size (frame_of_reference_v2 encoded references) = 1
own_size (sparse_chunked len offset indices values chunks fill) = 2 + (flat_size len offset + scalar_size fill)

-- whether a node has a scalar
abbrev pub has_scalar : Tree → Bool
has_scalar (constant s len) = true
has_scalar (frame_of_reference encoded reference) = true
has_scalar (sparse len offset indices values fill) = true
has_scalar (sparse_chunked len offset indices values chunks fill) = true
has_scalar _ = false

-- the bytes of a tree
unfoldable pub text_size : Tree → ℕ
text_size t = length (tree_text t)

-- the bytes of a tree's children
abbrev pub children_size : Tree → ℕ
children_size t = sum_by text_size (children t)
