-- The rows of a tree: the values that it stands for.
use Rattle.std.specs.Prelude.{ℕ, zero, suc, ◌+◌, ◌/◌, ◌*◌, ◌%◌, ℤ, pos, unsigned_abs, ◌+ℤ◌, ◌*ℤ◌, int_lt, ◌-◌, Bool, true, false, ◌==◌, List, [], ◌∷◌, map, Option, None, Some, position, replicate, slice_index_or, unwrap_or, length, take, drop, cond}
use Rattle.std.specs.List.{range_with_len}
use Rattle.vx_base.specs.Masks.{rows_between}
use Rattle.vx_base.specs.Packed.{packed_row}
use Rattle.vx_base.specs.PlainScalar.{PlainScalar}
use Rattle.vx_base.specs.PlainType.{integer_of}
use Rattle.vx_base.specs.PlainValue.{PlainValue, PlainValues, null, truth, int, bytes, items, whole_or_zero}
use Rattle.vx_base.specs.PlainValue as vals
use Rattle.vx_base.specs.Undelta.{undelta_row}
use Rattle.vx_base.specs.Wrapping.{wrap}
use Rattle.vx_base.specs.ZigZag.{unzigzag}
use Rattle.vx_base.specs.declared.ptype.PType.{PType}
use Rattle.vx_model.specs.TreeType.{tree_type}
use Rattle.vx_time.specs.PartsOf.{parts, sum_of, units_per_second}
use Rattle.vx_model.specs.Tree.{Tree, Trees, Validity, PlainPacked, PlainPatches, bool, primitive, var_bin_view, var_bin, timestamp, constant, masked, bit_packed, bit_packed_with, frame_of_reference, zig_zag, dict, nulls, structure, list, fixed_size_list, none, more, sparse, run_end, rle, sequence, delta, datetime_parts, bit_packed_v2, bit_packed_v2_with, frame_of_reference_v2, sparse_chunked}

-- null where the mask is false
abbrev pub masked_rows : List Bool → List PlainValue → List PlainValue
masked_rows [] rows = []
masked_rows (bit ∷ bits) [] = []
masked_rows (bit ∷ bits) (row ∷ rows) = cond bit row null ∷ masked_rows bits rows

-- null where the validity is false
abbrev pub valid_rows : Validity → List PlainValue → List PlainValue
valid_rows None rows = rows
valid_rows (Some bits) rows = masked_rows bits rows

-- whether row i is valid
abbrev pub is_valid_at : Validity → ℕ → Bool
is_valid_at None i = true
is_valid_at (Some bits) i = slice_index_or bits i false

-- row i, null out of bounds
abbrev pub row_at : List PlainValue → ℕ → PlainValue
row_at rows i = slice_index_or rows i null

-- f at 0 to n - 1
abbrev pub below : {A : Type 0} → (ℕ → A) → ℕ → List A
below f n = map f (range_with_len 0 n)

-- the natural number of a row, None of any other value
abbrev pub index_of : PlainValue → Option ℕ
index_of (int (pos k)) = Some k
index_of _ = None

-- whether a row is this number
abbrev pub is_index : PlainValue → ℕ → Bool
is_index (int (pos k)) n = k == n
is_index _ n = false

-- the position of the first index that is n
abbrev pub place_of : List PlainValue → ℕ → Option ℕ
place_of is n = position (λ i. is_index i n) is

-- the value of the first patch whose index is n, and `fill` where there is none
abbrev pub patched : List PlainValue → List PlainValue → PlainValue → ℕ → PlainValue
patched [] rows fill n = fill
patched (i ∷ is) [] fill n = fill
patched (i ∷ is) (row ∷ rows) fill n = cond (is_index i n) row (patched is rows fill n)

-- row i as its packed bits
abbrev pub packed_at : PlainPacked → ℕ → PlainValue
packed_at k i = int (pos (packed_row k.bytes k.width i))

-- a function on integers applied to a value; null stays null
abbrev pub each_int : (ℤ → ℤ) → PlainValue → PlainValue
each_int f null = null
each_int f v = int (f (whole_or_zero v))

-- reference + z, wrapped in the reference's type
abbrev pub summed : PlainScalar → ℤ → ℤ
summed reference z = wrap (integer_of reference.dtype) (whole_or_zero reference.value +ℤ z)

-- reference + row
abbrev pub moved : PlainScalar → PlainValue → PlainValue
moved reference = each_int (summed reference)

-- the integer with this zigzag
abbrev pub unzigzagged_whole : ℤ → ℤ
unzigzagged_whole z = unzigzag (unsigned_abs z)

-- a row, from its zigzag
abbrev pub unzigzagged : PlainValue → PlainValue
unzigzagged = each_int unzigzagged_whole

-- the value with a code as its index; null of a null code
abbrev pub looked_up : List PlainValue → PlainValue → PlainValue
looked_up values (int (pos k)) = row_at values k
looked_up values _ = null

-- offset i, 0 where it is no natural number
abbrev pub offset_at : List PlainValue → ℕ → ℕ
offset_at offsets i = unwrap_or (index_of (row_at offsets i)) 0

-- the items from each offset to the next
abbrev pub cut_at : {A : Type 0} → List PlainValue → List A → List (List A)
cut_at offsets all = below (λ i. rows_between all (offset_at offsets i) (offset_at offsets (i + 1))) (length offsets - 1)

-- a list of items as one value
abbrev pub list_value : List PlainValue → PlainValue
list_value vs = items (vals.of_list vs)

-- `len` consecutive parts of `size` items each
abbrev pub parts_of : {A : Type 0} → ℕ → ℕ → List A → List (List A)
parts_of size zero xs = []
parts_of size (suc len) xs = take size xs ∷ parts_of size len (drop size xs)

-- each row of a column in front of the values beside it
abbrev pub each_before : List PlainValue → List PlainValues → List PlainValues
each_before [] rows = []
each_before (v ∷ column) [] = []
each_before (v ∷ column) (row ∷ rows) = vals.more v row ∷ each_before column rows

-- the value of row i's run: the first with an exclusive end above i
abbrev pub run_value : List PlainValue → List PlainValue → ℕ → PlainValue
run_value [] values i = null
run_value (end ∷ ends) [] i = null
run_value (end ∷ ends) (v ∷ values) i = cond (int_lt (pos i) (whole_or_zero end)) v (run_value ends values i)

-- the rows of a block
abbrev pub block_rows : ℕ
block_rows = 1024

-- the index of row i's value: the offset of its block plus its own index within the block
abbrev pub rle_place : List PlainValue → List PlainValue → ℕ → PlainValue
rle_place offsets indices i = int (whole_or_zero (row_at offsets (i / block_rows)) +ℤ whole_or_zero (row_at indices i))

-- row i by delta decoding: the base of its block plus the block's differences up to row i, wrapped
abbrev pub summed_up : PType → List PlainValue → List PlainValue → ℕ → PlainValue
summed_up p bases deltas i = int (undelta_row p (map whole_or_zero bases) (map whole_or_zero deltas) i)

-- row i of timestamps in parts, of which d make a second: days * (86,400 * d) + seconds * d + subseconds; null where the days are
abbrev pub combined_at : ℤ → List PlainValue → List PlainValue → List PlainValue → ℕ → PlainValue
combined_at d days seconds subseconds i =
    each_int (λ day. sum_of d (parts day (whole_or_zero (row_at seconds i)) (whole_or_zero (row_at subseconds i)))) (row_at days i)

-- row i of integers packed in blocks: with o the offset of its block and w the difference to the next, the row within the block at
-- width w, from byte 128 * o on
abbrev pub packed_in_block : List ℕ → List PlainValue → ℕ → PlainValue
packed_in_block bs offsets i =
    let block = i / block_rows in
    let offset = offset_at offsets block in
    int (pos (packed_row (drop (128 * offset) bs) (offset_at offsets (block + 1) - offset) (i % block_rows)))

-- row i of differences plus the reference of its block, wrapped in the references' type
abbrev pub moved_in_block : PType → List PlainValue → List PlainValue → ℕ → PlainValue
moved_in_block p references encoded i = each_int (λ z. wrap p (whole_or_zero (row_at references (i / block_rows)) +ℤ z)) (row_at encoded i)

-- the rows of a tree, node by node
abbrev mutual
  pub rows : Tree → List PlainValue
  rows (bool bs valid n) = valid_rows valid (map truth bs)
  rows (primitive p xs valid n) = valid_rows valid (map int xs)
  rows (var_bin_view vs valid t) = valid_rows valid (map bytes vs)
  rows (var_bin offsets bs valid t) = valid_rows valid (map bytes (cut_at (rows offsets) bs))
  rows (timestamp storage k) = rows storage
  rows (constant s len) = replicate len s.value
  rows (masked child valid) = masked_rows valid (rows child)
  rows (bit_packed k) = valid_rows k.valid (below (packed_at k) k.len)
  rows (bit_packed_with k len offset indices values) = valid_rows k.valid (below (λ i. patched (rows indices) (rows values) (packed_at k i) (offset + i)) k.len)
  rows (frame_of_reference encoded reference) = map (moved reference) (rows encoded)
  rows (zig_zag encoded) = map unzigzagged (rows encoded)
  rows (dict codes values) = map (looked_up (rows values)) (rows codes)
  rows (nulls len) = replicate len null
  rows (structure names fields len valid n) = valid_rows valid (map items (field_rows fields len))
  rows (list elements offsets valid n) = valid_rows valid (map list_value (cut_at (rows offsets) (rows elements)))
  rows (fixed_size_list elements size len valid n) = valid_rows valid (map list_value (parts_of size len (rows elements)))
  rows (sparse len offset indices values fill) = below (λ i. patched (rows indices) (rows values) fill.value (offset + i)) len
  rows (run_end ends values) = below (run_value (rows ends) (rows values)) (offset_at (rows ends) (length (rows ends) - 1))
  rows (rle values indices offsets len) = below (λ i. looked_up (rows values) (rle_place (rows offsets) (rows indices) i)) len
  rows (sequence p n first step len) = below (λ i. int (first +ℤ pos i *ℤ step)) len
  rows (delta bases deltas len valid n) = valid_rows valid (below (summed_up (integer_of (tree_type bases)) (rows bases) (rows deltas)) len)
  rows (datetime_parts k n days seconds subseconds) =
      below (combined_at (units_per_second k.unit) (rows days) (rows seconds) (rows subseconds)) (length (rows days))
  rows (bit_packed_v2 k offsets) = valid_rows k.valid (below (packed_in_block k.bytes (rows offsets)) k.len)
  rows (bit_packed_v2_with k offsets len offset indices values) =
      valid_rows k.valid (below (λ i. patched (rows indices) (rows values) (packed_in_block k.bytes (rows offsets) i) (offset + i)) k.len)
  rows (frame_of_reference_v2 encoded references) =
      below (moved_in_block (integer_of (tree_type references)) (rows references) (rows encoded)) (length (rows encoded))
  rows (sparse_chunked len offset indices values chunks fill) = below (λ i. patched (rows indices) (rows values) fill.value (offset + i)) len

  -- `len` rows, each the values of the fields
  pub field_rows : Trees → ℕ → List PlainValues
  field_rows none len = replicate len vals.none
  field_rows (more t ts) len = each_before (rows t) (field_rows ts len)

-- a valid row of integers packed in blocks: the value of its patch, else its bits
abbrev pub block_or_patch : List ℕ → List PlainValue → Option PlainPatches → ℕ → PlainValue
block_or_patch bs offsets None i = packed_in_block bs offsets i
block_or_patch bs offsets (Some p) i = patched (rows p.indices) (rows p.values) (packed_in_block bs offsets i) (p.offset + i)

-- a valid row of packed integers: the value of its patch, else its bits
abbrev pub packed_or_patch : PlainPacked → Option PlainPatches → ℕ → PlainValue
packed_or_patch k None i = packed_at k i
packed_or_patch k (Some p) i = patched (rows p.indices) (rows p.values) (packed_at k i) (p.offset + i)
