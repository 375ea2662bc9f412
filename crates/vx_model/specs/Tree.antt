-- Trees of encodings as plain data. The fields of a node stand in the order of its constructor in the code.
use Rattle.std.specs.Prelude.{ℕ, suc, ◌+◌, ℤ, Bool, List, [], ◌∷◌, Option, None, Some}
use Rattle.vx_base.specs.declared.ptype.PType.{PType}
use Rattle.vx_base.specs.declared.dtype.Nullability.{Nullability}
use Rattle.vx_base.specs.PlainScalar.{PlainScalar}
use Rattle.vx_base.specs.PlainType.{PlainType}
use Rattle.vx_base.specs.Timestamps.{PlainTimestamp}

-- a bit per row, true where the row is valid; None where every row is
abbrev pub Validity : Type 0
Validity = Option (List Bool)

-- integers of a type, packed at `width` bits
pub record PlainPacked : Type 0 where
  pub ptype : PType
  pub width : ℕ
  pub bytes : List ℕ
  pub len : ℕ
  pub valid : Validity
  pub nullability : Nullability

-- packed integers from their parts
abbrev pub plain_packed : PType → ℕ → List ℕ → ℕ → Validity → Nullability → PlainPacked
plain_packed p width bytes len valid n = record { ptype = p; width = width; bytes = bytes; len = len; valid = valid; nullability = n }

-- integers of a type, packed in blocks of 1,024 rows, each block at a width of its own
pub record PlainBlocks : Type 0 where
  pub ptype : PType
  pub bytes : List ℕ
  pub len : ℕ
  pub valid : Validity
  pub nullability : Nullability

-- integers packed in blocks from their parts
abbrev pub plain_blocks : PType → List ℕ → ℕ → Validity → Nullability → PlainBlocks
plain_blocks p bytes len valid n = record { ptype = p; bytes = bytes; len = len; valid = valid; nullability = n }

mutual
  -- a tree of encodings, one constructor for each node
  pub data Tree : Type 0 where
    -- truth values, their validity and nullability
    bool : List Bool → Validity → Nullability → Tree
    -- integers of one type, their validity and nullability
    primitive : PType → List ℤ → Validity → Nullability → Tree
    -- texts or binaries, their validity and type
    var_bin_view : List (List ℕ) → Validity → PlainType → Tree
    -- texts or binaries, each from one offset into the bytes to the next
    var_bin : Tree → List ℕ → Validity → PlainType → Tree
    -- timestamps of a kind, over integers of 64 signed bits
    timestamp : Tree → PlainTimestamp → Tree
    -- a scalar in each of `len` rows
    constant : PlainScalar → ℕ → Tree
    -- the child's rows, null where the mask is false
    masked : Tree → List Bool → Tree
    -- packed integers without patches
    bit_packed : PlainPacked → Tree
    -- packed integers with patches: their array length, offset, indices and values
    bit_packed_with : PlainPacked → ℕ → ℕ → Tree → Tree → Tree
    -- the differences of integers from a reference, and the reference
    frame_of_reference : Tree → PlainScalar → Tree
    -- the zigzags of integers
    zig_zag : Tree → Tree
    -- for each row the index of its value, and the values
    dict : Tree → Tree → Tree
    -- `len` nulls
    nulls : ℕ → Tree
    -- the names of fields, a tree for each, the number of rows, their validity and nullability
    structure : List (List ℕ) → Trees → ℕ → Validity → Nullability → Tree
    -- the elements of all lists, the offsets between them, their validity and nullability
    list : Tree → Tree → Validity → Nullability → Tree
    -- the elements of all lists, the size of each list, the number of rows, their validity and nullability
    fixed_size_list : Tree → ℕ → ℕ → Validity → Nullability → Tree
    -- the array length, offset, indices and values of patches, and a scalar in every other row
    sparse : ℕ → ℕ → Tree → Tree → PlainScalar → Tree
    -- the exclusive end of each run of rows, and its value
    run_end : Tree → Tree → Tree
    -- the values of runs, for each row the index of its value within its block, for each block the offset of its values, and the
    -- number of rows
    rle : Tree → Tree → Tree → ℕ → Tree
    -- an arithmetic sequence: its type and nullability, first, step and number of rows
    sequence : PType → Nullability → ℤ → ℤ → ℕ → Tree
    -- a base for each block, for each row the difference from the row before, the number of rows, their validity and nullability
    delta : Tree → Tree → ℕ → Validity → Nullability → Tree
    -- timestamps of a kind and nullability in parts: days, seconds and subseconds
    datetime_parts : PlainTimestamp → Nullability → Tree → Tree → Tree → Tree
    -- integers packed in blocks, and the offsets between the blocks, in units of 128 bytes
    bit_packed_v2 : PlainBlocks → Tree → Tree
    -- integers packed in blocks, block offsets, and patches: their array length, offset, indices and values
    bit_packed_v2_with : PlainBlocks → Tree → ℕ → ℕ → Tree → Tree → Tree
    -- the differences of integers from the reference of their block, and the references
    frame_of_reference_v2 : Tree → Tree → Tree
    -- as `sparse`, where the patches have chunk offsets, which stand before the fill
    sparse_chunked : ℕ → ℕ → Tree → Tree → Tree → PlainScalar → Tree

  -- trees inside a tree, in their order
  pub data Trees : Type 0 where
    none : Trees
    more : Tree → Trees → Trees

-- trees in the form that a tree holds, from a list
abbrev pub of_list : List Tree → Trees
of_list [] = none
of_list (t ∷ ts) = more t (of_list ts)

-- the trees inside a tree as a list
abbrev pub list_of : Trees → List Tree
list_of none = []
list_of (more t ts) = t ∷ list_of ts

-- the measure by which recursion over trees ends: the nodes, and 1 more for patches and for each tree in a list
abbrev mutual
  pub node_count : Tree → ℕ
  node_count (bool bs valid n) = 1
  node_count (primitive p xs valid n) = 1
  node_count (var_bin_view vs valid t) = 1
  node_count (var_bin offsets bytes valid t) = suc (node_count offsets)
  node_count (timestamp storage k) = suc (node_count storage)
  node_count (constant s len) = 1
  node_count (masked child valid) = suc (node_count child)
  node_count (bit_packed k) = 1
  node_count (bit_packed_with k len offset indices values) = suc (suc (node_count indices + node_count values))
  node_count (frame_of_reference encoded reference) = suc (node_count encoded)
  node_count (zig_zag encoded) = suc (node_count encoded)
  node_count (dict codes values) = suc (node_count codes + node_count values)
  node_count (nulls len) = 1
  node_count (structure names fields len valid n) = suc (nodes_count fields)
  node_count (list elements offsets valid n) = suc (node_count elements + node_count offsets)
  node_count (fixed_size_list elements size len valid n) = suc (node_count elements)
  node_count (sparse len offset indices values fill) = suc (suc (node_count indices + node_count values))
  node_count (run_end ends values) = suc (node_count ends + node_count values)
  node_count (rle values indices offsets len) = suc (node_count values + node_count indices + node_count offsets)
  node_count (sequence p n first step len) = 1
  node_count (delta bases deltas len valid n) = suc (node_count bases + node_count deltas)
  node_count (datetime_parts k n days seconds subseconds) = suc (node_count days + node_count seconds + node_count subseconds)
  node_count (bit_packed_v2 k offsets) = suc (node_count offsets)
  node_count (bit_packed_v2_with k offsets len offset indices values) = suc (node_count offsets + suc (node_count indices + node_count values))
  node_count (frame_of_reference_v2 encoded references) = suc (node_count encoded + node_count references)
  node_count (sparse_chunked len offset indices values chunks fill) = suc (suc (node_count indices + node_count values + node_count chunks))

  pub nodes_count : Trees → ℕ
  nodes_count none = 0
  nodes_count (more t ts) = suc (node_count t + nodes_count ts)

-- `nodes_count`, over a list
abbrev pub list_count : List Tree → ℕ
list_count ts = nodes_count (of_list ts)

-- Patches of an array of `array_len` rows: the value with index x is row x - offset. Chunk offsets, if there are any, count the
-- indices before each chunk of 1,024 indices.
pub record PlainPatches : Type 0 where
  pub array_len : ℕ
  pub offset : ℕ
  pub indices : Tree
  pub values : Tree
  pub chunks : Option Tree

-- patches from their parts, without chunk offsets
abbrev pub patches : ℕ → ℕ → Tree → Tree → PlainPatches
patches len offset indices values = record { array_len = len; offset = offset; indices = indices; values = values; chunks = None }

-- patches from their parts, with the chunk offsets that there are
abbrev pub chunked : ℕ → ℕ → Tree → Tree → Option Tree → PlainPatches
chunked len offset indices values chunks = record { array_len = len; offset = offset; indices = indices; values = values; chunks = chunks }

-- the measure of patches, by which recursion ends
abbrev pub patches_count : PlainPatches → ℕ
patches_count p = suc (node_count p.indices + node_count p.values + option_count p.chunks)
  where
    option_count : Option Tree → ℕ
    option_count None = 0
    option_count (Some t) = node_count t

-- packed integers, with patches if there are any
abbrev pub packed_of : PlainPacked → Option PlainPatches → Tree
packed_of k None = bit_packed k
packed_of k (Some p) = bit_packed_with k p.array_len p.offset p.indices p.values

-- integers packed in blocks, with patches if there are any
abbrev pub blocks_of : PlainBlocks → Tree → Option PlainPatches → Tree
blocks_of k offsets None = bit_packed_v2 k offsets
blocks_of k offsets (Some p) = bit_packed_v2_with k offsets p.array_len p.offset p.indices p.values

-- patches and a scalar in every other row
abbrev pub sparse_of : PlainPatches → PlainScalar → Tree
sparse_of p fill = sparse_by p.chunks
  where
    sparse_by : Option Tree → Tree
    sparse_by None = sparse p.array_len p.offset p.indices p.values fill
    sparse_by (Some chunks) = sparse_chunked p.array_len p.offset p.indices p.values chunks fill
