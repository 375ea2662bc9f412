-- Well-formed trees: the invariant of an array. Each node's own conditions hold, and every row is of the tree's type.
use Rattle.std.specs.Prelude.{◌≡◌, ℕ, ◌+◌, ◌*◌, ◌/◌, ◌^◌, ℤ, pos, ◌+ℤ◌, ◌*ℤ◌, ◌-◌, Bool, true, false, ◌&&◌, ◌||◌, ◌==◌, nat_lt, nat_le, int_le, int_lt, not, IsTrue, List, [], ◌∷◌, length, filter, Option, Some, None}
use Rattle.std.specs.List.{list_all, list_any, range_with_len}
use Rattle.vx_base.specs.declared.ptype.PType.{PType}
use Rattle.vx_base.specs.declared.ptype.PType.TheVariants.{I64}
use Rattle.vx_base.specs.declared.dtype.Nullability.{Nullability}
use Rattle.vx_base.specs.declared.dtype.Nullability.TheVariants.{NonNullable, Nullable}
use Rattle.vx_base.specs.Integers.{lies_in, natural_bits, unsigned_of}
use Rattle.vx_base.specs.Packed.{packed_size, block_count}
use Rattle.vx_base.specs.PlainType.{PlainType, is_nullable, is_flat, is_integer, is_bytes, is_unsigned, integer_of, nullability_of}
use Rattle.vx_base.specs.PlainType as types
use Rattle.vx_base.specs.PlainScalar.{PlainScalar, fits}
use Rattle.vx_base.specs.PlainValue.{PlainValue, null, int, is_null, is_short, whole_or_zero}
use Rattle.vx_model.specs.Tree.{Tree, Trees, Validity, PlainPacked, PlainBlocks, PlainPatches, bool, primitive, var_bin_view, var_bin, timestamp, constant, masked, bit_packed, bit_packed_with, frame_of_reference, zig_zag, dict, nulls, structure, list, fixed_size_list, none, more, list_of, sparse, run_end, rle, sequence, delta, datetime_parts, bit_packed_v2, bit_packed_v2_with, frame_of_reference_v2, sparse_chunked}
use Rattle.vx_model.specs.Rows.{rows, row_at, offset_at, is_index, cut_at, below, block_rows, rle_place}
use Rattle.vx_model.specs.TreeType.{tree_type}
use Rattle.vx_time.specs.CanonicalParts.{is_canonical}
use Rattle.vx_time.specs.PartsOf.{parts, units_per_second}
use Rattle.vx_base.specs.Timestamps.{PlainTimestamp}

-- validity in its one form, of `len` rows: bits only in a nullable node, one per row, and one of them false
abbrev pub IsValidityOf : Validity → ℕ → Nullability → Type 0
IsValidityOf None len n = Unit {0}
IsValidityOf (Some bits) len n = (length bits ≡ len) × (n ≡ Nullable) × (list_all (λ bit. bit) bits ≡ false)

-- each integer is in the range of the type, valid or not
pub record IsPrimitive (p : PType) (xs : List ℤ) (valid : Validity) (n : Nullability) : Type 0 where
  pub held : IsTrue (list_all (lies_in p) xs)
  pub validity : IsValidityOf valid (length xs) n

-- of a text or binary type, with fewer than 2^32 bytes in each row, valid or not
pub record IsView (vs : List (List ℕ)) (valid : Validity) (t : PlainType) : Type 0 where
  pub byte_type : IsTrue (is_bytes t)
  pub short : IsTrue (list_all is_short vs)
  pub validity : IsValidityOf valid (length vs) (nullability_of t)

-- whether a value is an integer of `low` to `high - 1`
abbrev pub lies_between : ℕ → ℕ → PlainValue → Bool
lies_between low high (int (pos n)) = nat_le low n && nat_lt n high
lies_between low high _ = false

-- whether integers never decrease
abbrev pub never_falls : List PlainValue → Bool
never_falls [] = true
never_falls (v ∷ []) = true
never_falls (v ∷ w ∷ vs) = int_le (whole_or_zero v) (whole_or_zero w) && never_falls (w ∷ vs)

-- whether values are offsets into `len` items: in bounds, the first 0, the last `len`, never decreasing
abbrev pub are_offsets : ℕ → List PlainValue → Bool
are_offsets len offsets =
    list_all (lies_between 0 (len + 1)) offsets && (offset_at offsets 0 == 0) && (offset_at offsets (length offsets - 1) == len) && never_falls offsets

-- texts or binaries cut from bytes by offsets
pub record IsVarBin (offsets : Tree) (bs : List ℕ) (valid : Validity) (t : PlainType) : Type 0 where
  pub offsets_type : IsTrue (is_integer (tree_type offsets))
  pub not_null : is_nullable (tree_type offsets) ≡ false
  pub some : IsTrue (nat_le 1 (length (rows offsets)))
  pub ends : IsTrue (are_offsets (length bs) (rows offsets))
  pub values : IsView (cut_at (rows offsets) bs) valid t

-- the storage is of type i64
pub record IsTimestamp (storage : Tree) : Type 0 where
  pub storage_type : tree_type storage ≡ types.primitive I64 (nullability_of (tree_type storage))

-- the child is of a nullable flat type and has no null itself, and the mask has a bit per row
pub record IsMasked (child : Tree) (valid : List Bool) : Type 0 where
  pub flat : IsTrue (is_flat (tree_type child))
  pub nullable : IsTrue (is_nullable (tree_type child))
  pub lengths : length valid ≡ length (rows child)
  pub no_null : list_any is_null (rows child) ≡ false

-- whether integers strictly increase
abbrev pub rises : List PlainValue → Bool
rises [] = true
rises (v ∷ []) = true
rises (v ∷ w ∷ vs) = int_lt (whole_or_zero v) (whole_or_zero w) && rises (w ∷ vs)

-- whether values are integers of `low` to `high - 1`, strictly increasing
abbrev pub ascend : ℕ → ℕ → List PlainValue → Bool
ascend low high vs = list_all (lies_between low high) vs && rises vs

-- patches of an array of `len` rows: non-null integers as indices, strictly increasing and in bounds, and as many values
pub record IsPatches (len offset : ℕ) (indices values : Tree) : Type 0 where
  pub indices_type : IsTrue (is_integer (tree_type indices))
  pub not_null : is_nullable (tree_type indices) ≡ false
  pub lengths : length (rows indices) ≡ length (rows values)
  pub ascending : IsTrue (ascend offset (offset + len) (rows indices))

-- packed integers: the bytes of whole blocks, at a width that no negative number needs
pub record IsWellPacked (k : PlainPacked) : Type 0 where
  pub held : IsTrue (list_all (λ byte. nat_lt byte 256) k.bytes)
  pub sized : length k.bytes ≡ packed_size k.width k.len
  pub narrow : IsTrue (nat_le k.width (natural_bits k.ptype))
  pub validity : IsValidityOf k.valid k.len k.nullability

-- patches of an array of `len` rows belong to packed integers
pub record IsPatched (k : PlainPacked) (len : ℕ) (values : Tree) : Type 0 where
  pub lengths : len ≡ k.len
  pub values_type : tree_type values ≡ types.primitive k.ptype NonNullable

-- the unsigned type of a reference's width, with the nullability of another type
abbrev pub differences_type : PlainType → PlainType → PlainType
differences_type reference t = types.primitive (unsigned_of (integer_of reference)) (nullability_of t)

-- the reference is an integer other than null, and the differences are of the unsigned type of its width
pub record IsFrame (encoded : Tree) (reference : PlainScalar) : Type 0 where
  pub reference_type : IsTrue (is_integer reference.dtype)
  pub not_null : is_null reference.value ≡ false
  pub fitting : IsTrue (fits reference.dtype reference.value)
  pub encoded_type : tree_type encoded ≡ differences_type reference.dtype (tree_type encoded)

-- the zigzags are unsigned
pub record IsZigZag (encoded : Tree) : Type 0 where
  pub unsigned : IsTrue (is_unsigned (tree_type encoded))

-- whether a code is null, or in bounds of `len` values
abbrev pub is_place : ℕ → PlainValue → Bool
is_place len null = true
is_place len (int (pos k)) = nat_lt k len
is_place len _ = false

-- codes are integers, values are of a flat type, and each code other than null is in bounds of the values
pub record IsDict (codes values : Tree) : Type 0 where
  pub codes_type : IsTrue (is_integer (tree_type codes))
  pub values_type : IsTrue (is_flat (tree_type values))
  pub places : IsTrue (list_all (is_place (length (rows values))) (rows codes))

-- whether each tree has `len` rows
abbrev pub all_have_rows : ℕ → Trees → Bool
all_have_rows len none = true
all_have_rows len (more t ts) = length (rows t) == len && all_have_rows len ts

-- a tree for each name, each of `len` rows
pub record IsStruct (names : List (List ℕ)) (fields : Trees) (len : ℕ) (valid : Validity) (n : Nullability) : Type 0 where
  pub named : length names ≡ length (list_of fields)
  pub lengths : IsTrue (all_have_rows len fields)
  pub validity : IsValidityOf valid len n

-- offsets are integers, never null, and go through all elements
pub record IsList (elements offsets : Tree) (valid : Validity) (n : Nullability) : Type 0 where
  pub offsets_type : IsTrue (is_integer (tree_type offsets))
  pub not_null : is_nullable (tree_type offsets) ≡ false
  pub some : IsTrue (nat_le 1 (length (rows offsets)))
  pub ends : IsTrue (are_offsets (length (rows elements)) (rows offsets))
  pub validity : IsValidityOf valid (length (rows offsets) - 1) n

-- there are `size` elements for each list
pub record IsFixedSizeList (elements : Tree) (size len : ℕ) (valid : Validity) (n : Nullability) : Type 0 where
  pub lengths : length (rows elements) ≡ len * size
  pub validity : IsValidityOf valid len n

-- the values of the patches are of the fill's type
pub record IsSparse (values : Tree) (fill : PlainScalar) : Type 0 where
  pub values_type : tree_type values ≡ fill.dtype
  pub fitting : IsTrue (fits fill.dtype fill.value)

-- runs of integers, with strictly increasing ends, the first above 0, so that no run is empty
pub record IsRunEnd (ends values : Tree) : Type 0 where
  pub ends_type : IsTrue (is_integer (tree_type ends))
  pub not_null : is_nullable (tree_type ends) ≡ false
  pub values_type : IsTrue (is_integer (tree_type values))
  pub lengths : length (rows ends) ≡ length (rows values)
  pub rising : IsTrue (ascend 1 (2 ^ 64) (rows ends))

-- each row's value is in bounds; indices in the padding of the last block may be anything
pub record IsRle (values indices offsets : Tree) (len : ℕ) : Type 0 where
  pub values_type : IsTrue (is_integer (tree_type values))
  pub indices_type : IsTrue (is_integer (tree_type indices))
  pub offsets_type : IsTrue (is_integer (tree_type offsets))
  pub indices_not_null : is_nullable (tree_type indices) ≡ false
  pub offsets_not_null : is_nullable (tree_type offsets) ≡ false
  pub indices_length : length (rows indices) ≡ block_rows * block_count len
  pub offsets_length : length (rows offsets) ≡ block_count len
  pub places : IsTrue (list_all (is_place (length (rows values))) (below (rle_place (rows offsets) (rows indices)) len))

-- the step is in the range of the type, and so are the first and the last row, if there are rows
pub record IsSequence (p : PType) (first step : ℤ) (len : ℕ) : Type 0 where
  pub step_held : IsTrue (lies_in p step)
  pub rows_held : IsTrue (len == 0 || lies_in p first && lies_in p (first +ℤ pos (len - 1) *ℤ step))

-- a base and 1,024 differences for each block, of one non-nullable integer type
pub record IsDelta (bases deltas : Tree) (len : ℕ) (valid : Validity) (n : Nullability) : Type 0 where
  pub bases_type : tree_type bases ≡ types.primitive (integer_of (tree_type bases)) NonNullable
  pub deltas_type : tree_type deltas ≡ tree_type bases
  pub bases_length : length (rows bases) ≡ block_count len
  pub deltas_length : length (rows deltas) ≡ block_rows * block_count len
  pub validity : IsValidityOf valid len n

-- whether row i of parts is null, or canonical: the split of a timestamp of 64 signed bits, where d make a second
abbrev pub is_canonical_at : ℤ → List PlainValue → List PlainValue → List PlainValue → ℕ → Bool
is_canonical_at d days seconds subseconds i =
    is_null (row_at days i)
    || is_canonical d (parts (whole_or_zero (row_at days i)) (whole_or_zero (row_at seconds i)) (whole_or_zero (row_at subseconds i)))

-- whether each row of parts is null, or canonical
abbrev pub are_canonical : ℤ → List PlainValue → List PlainValue → List PlainValue → Bool
are_canonical d days seconds subseconds = list_all (is_canonical_at d days seconds subseconds) (range_with_len 0 (length days))

-- whether a type is a non-nullable integer type
abbrev pub is_whole_type : PlainType → Bool
is_whole_type t = is_integer t && not (is_nullable t)

-- days of the nullability, non-nullable seconds and subseconds, all integers and equally long, and canonical in each valid row
pub record IsDateTimeParts (k : PlainTimestamp) (n : Nullability) (days seconds subseconds : Tree) : Type 0 where
  pub days_type : tree_type days ≡ types.primitive (integer_of (tree_type days)) n
  pub seconds_type : IsTrue (is_whole_type (tree_type seconds))
  pub subseconds_type : IsTrue (is_whole_type (tree_type subseconds))
  pub seconds_length : length (rows seconds) ≡ length (rows days)
  pub subseconds_length : length (rows subseconds) ≡ length (rows days)
  pub canonical : IsTrue (are_canonical (units_per_second k.unit) (rows days) (rows seconds) (rows subseconds))

-- whether offset b + 1 is offset b plus a width of 0 to `most`
abbrev pub is_block_width : ℕ → List PlainValue → ℕ → Bool
is_block_width most offsets b = lies_between (offset_at offsets b) (offset_at offsets b + most + 1) (row_at offsets (b + 1))

-- whether values are block offsets: the first is 0, and each is its predecessor plus a width of 0 to `most`
abbrev pub are_block_offsets : ℕ → List PlainValue → Bool
are_block_offsets most offsets = is_index (row_at offsets 0) 0 && list_all (is_block_width most offsets) (range_with_len 0 (length offsets - 1))

-- integers packed in blocks: one block offset more than there are blocks, and 128 bytes for each unit of the last one
pub record IsWellBlocked (k : PlainBlocks) (offsets : Tree) : Type 0 where
  pub held : IsTrue (list_all (λ byte. nat_lt byte 256) k.bytes)
  pub offsets_type : IsTrue (is_whole_type (tree_type offsets))
  pub lengths : length (rows offsets) ≡ block_count k.len + 1
  pub widths : IsTrue (are_block_offsets (natural_bits k.ptype) (rows offsets))
  pub sized : length k.bytes ≡ 128 * offset_at (rows offsets) (block_count k.len)
  pub validity : IsValidityOf k.valid k.len k.nullability

-- patches of an array of `len` rows belong to integers packed in blocks
pub record IsBlockPatched (k : PlainBlocks) (len : ℕ) (values : Tree) : Type 0 where
  pub lengths : len ≡ k.len
  pub values_type : tree_type values ≡ types.primitive k.ptype NonNullable

-- non-nullable integers as references, one for each block of differences, which are of the unsigned type of their width
pub record IsFrames (encoded references : Tree) : Type 0 where
  pub references_type : IsTrue (is_whole_type (tree_type references))
  pub encoded_type : tree_type encoded ≡ differences_type (tree_type references) (tree_type encoded)
  pub lengths : length (rows references) ≡ block_count (length (rows encoded))

-- the number of indices below n
abbrev pub indices_below : ℕ → List PlainValue → ℕ
indices_below n indices = length (filter (λ v. int_lt (whole_or_zero v) (pos n)) indices)

-- the number of indices in chunk c: from 1,024 * c up to before 1,024 * (c + 1)
abbrev pub indices_in_chunk : ℕ → List PlainValue → ℕ
indices_in_chunk c indices = indices_below (block_rows * (c + 1)) indices - indices_below (block_rows * c) indices

-- whether the value of chunk c counts the indices below 1,024 * c, for each chunk
abbrev pub are_chunk_offsets : List PlainValue → List PlainValue → Bool
are_chunk_offsets indices chunks = list_all (λ c. is_index (row_at chunks c) (indices_below (block_rows * c) indices)) (range_with_len 0 (length chunks))

-- chunk offsets of patches: non-nullable integers, one for each chunk of 1,024 indices below offset + `len`
pub record IsChunked (len offset : ℕ) (indices chunks : Tree) : Type 0 where
  pub chunks_type : IsTrue (is_whole_type (tree_type chunks))
  pub lengths : length (rows chunks) ≡ block_count (offset + len)
  pub counted : IsTrue (are_chunk_offsets (rows indices) (rows chunks))

-- every row is of the tree's type
abbrev pub RowsFit : Tree → Type 0
RowsFit t = IsTrue (list_all (fits (tree_type t)) (rows t))

-- a well-formed tree, node by node
abbrev mutual
  pub WellFormed : Tree → Type 0
  WellFormed (primitive p xs valid n) = IsPrimitive p xs valid n × RowsFit (primitive p xs valid n)
  WellFormed (bool bs valid n) = IsValidityOf valid (length bs) n × RowsFit (bool bs valid n)
  WellFormed (var_bin_view vs valid t) = IsView vs valid t × RowsFit (var_bin_view vs valid t)
  WellFormed (var_bin offsets bs valid t) = WellFormed offsets × IsVarBin offsets bs valid t × RowsFit (var_bin offsets bs valid t)
  WellFormed (timestamp storage k) = WellFormed storage × IsTimestamp storage × RowsFit (timestamp storage k)
  WellFormed (constant s len) = IsTrue (fits s.dtype s.value) × RowsFit (constant s len)
  WellFormed (masked child valid) = WellFormed child × IsMasked child valid × RowsFit (masked child valid)
  WellFormed (bit_packed k) = IsWellPacked k × RowsFit (bit_packed k)
  WellFormed (bit_packed_with k len offset indices values) =
      WellFormed indices × WellFormed values × IsPatches len offset indices values × IsWellPacked k × IsPatched k len values
      × RowsFit (bit_packed_with k len offset indices values)
  WellFormed (frame_of_reference encoded reference) = WellFormed encoded × IsFrame encoded reference × RowsFit (frame_of_reference encoded reference)
  WellFormed (zig_zag encoded) = WellFormed encoded × IsZigZag encoded × RowsFit (zig_zag encoded)
  WellFormed (dict codes values) = WellFormed codes × WellFormed values × IsDict codes values × RowsFit (dict codes values)
  WellFormed (nulls len) = RowsFit (nulls len)
  WellFormed (structure names fields len valid n) = AllWellFormed fields × IsStruct names fields len valid n × RowsFit (structure names fields len valid n)
  WellFormed (list elements offsets valid n) = WellFormed elements × WellFormed offsets × IsList elements offsets valid n × RowsFit (list elements offsets valid n)
  WellFormed (fixed_size_list elements size len valid n) =
      WellFormed elements × IsFixedSizeList elements size len valid n × RowsFit (fixed_size_list elements size len valid n)
  WellFormed (sparse len offset indices values fill) =
      WellFormed indices × WellFormed values × IsPatches len offset indices values × IsSparse values fill × RowsFit (sparse len offset indices values fill)
  WellFormed (run_end ends values) = WellFormed ends × WellFormed values × IsRunEnd ends values × RowsFit (run_end ends values)
  WellFormed (rle values indices offsets len) =
      WellFormed values × WellFormed indices × WellFormed offsets × IsRle values indices offsets len × RowsFit (rle values indices offsets len)
  WellFormed (sequence p n first step len) = IsSequence p first step len × RowsFit (sequence p n first step len)
  WellFormed (delta bases deltas len valid n) = WellFormed bases × WellFormed deltas × IsDelta bases deltas len valid n × RowsFit (delta bases deltas len valid n)
  WellFormed (datetime_parts k n days seconds subseconds) =
      WellFormed days × WellFormed seconds × WellFormed subseconds × IsDateTimeParts k n days seconds subseconds
      × RowsFit (datetime_parts k n days seconds subseconds)
  WellFormed (bit_packed_v2 k offsets) = WellFormed offsets × IsWellBlocked k offsets × RowsFit (bit_packed_v2 k offsets)
  WellFormed (bit_packed_v2_with k offsets len offset indices values) =
      WellFormed offsets × WellFormed indices × WellFormed values × IsPatches len offset indices values × IsWellBlocked k offsets
      × IsBlockPatched k len values × RowsFit (bit_packed_v2_with k offsets len offset indices values)
  WellFormed (frame_of_reference_v2 encoded references) =
      WellFormed encoded × WellFormed references × IsFrames encoded references × RowsFit (frame_of_reference_v2 encoded references)
  WellFormed (sparse_chunked len offset indices values chunks fill) =
      WellFormed indices × WellFormed values × WellFormed chunks × IsPatches len offset indices values × IsChunked len offset indices chunks
      × IsSparse values fill × RowsFit (sparse_chunked len offset indices values chunks fill)

  -- each of several trees is well formed
  pub AllWellFormed : Trees → Type 0
  AllWellFormed none = Unit {0}
  AllWellFormed (more t ts) = WellFormed t × AllWellFormed ts

-- the number of patches that a search for a row looks through: those of the row's chunk where there are chunk offsets, else all
abbrev pub searched : PlainPatches → ℕ → ℕ
searched p row = look_through p.chunks
  where
    look_through : Option Tree → ℕ
    look_through None = length (rows p.indices)
    look_through (Some chunks) = indices_in_chunk ((p.offset + row) / block_rows) (rows p.indices)

-- chunk offsets are well formed and count the indices before each chunk, if there are any
abbrev pub WellFormedChunks : ℕ → ℕ → Tree → Option Tree → Type 0
WellFormedChunks len offset indices None = Unit {0}
WellFormedChunks len offset indices (Some chunks) = WellFormed chunks × IsChunked len offset indices chunks

-- the trees of the patches are well formed, and their indices strictly increase within the bounds of the array
abbrev pub WellFormedPatches : PlainPatches → Type 0
WellFormedPatches p =
    WellFormed p.indices × WellFormed p.values × IsPatches p.array_len p.offset p.indices p.values
    × WellFormedChunks p.array_len p.offset p.indices p.chunks
