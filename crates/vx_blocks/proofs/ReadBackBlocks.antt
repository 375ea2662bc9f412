-- Rows of packed blocks are read back.
use Rattle.std.proofs.Common.{◌≡◌, ◌∙◌, ℕ, ◌+◌, ◌*◌, ◌/◌, ◌%◌, ◌^◌, ◌<◌, ◌≤◌, ℤ, pos, Bool, false, List, length, map, take, drop, sum, get_or, arith, ap, sym, subst}
use Rattle.std.proofs.lemmas.List.{length-map, get_or-map, length-drop, length-take-le, take_all, take-append-drop}
use Rattle.std.proofs.lemmas.List.FromFn.{get_or-map-range_with_len}
use Rattle.std.proofs.lemmas.List.Sums.{sum_by_more}
use Rattle.std.proofs.lemmas.Nat.{field_of}
use Rattle.std.proofs.Math.Nat as nat
use Rattle.vx_base.specs.declared.ptype.PType.{PType}
use Rattle.vx_base.specs.Integers.{bits_in}
use Rattle.vx_base.specs.Packed.{kept_row, packed_number, packed_row, row_in}
use Rattle.vx_base.specs.PackedBlocks.{block_of, block_offset, block_offsets, block_row, block_width}
use Rattle.vx_blocks.specs.GivesBack.{UnpacksBlocks, GivesBackBlockValues, GivesBackBlockRows, bits_at, is_set_at}
use Rattle.vx_blocks.proofs.Blocks.{block_row-at, get_or-block, length-block, sum-take-le}
use Rattle.vx_blocks.proofs.Joins.{packed_number-append}
use Rattle.vx_blocks.proofs.ReadBack.{unpacked}
use Rattle.vx_blocks.proofs.Rows.{kept_row-fits}
use Rattle.vx_blocks.proofs.Windows.{low_low}

-- a row below what lies above it
row_in-low : (width low high row place : ℕ) → width + width * row ≤ place → row_in width (low + 2 ^ place * high) row ≡ row_in width low row
row_in-low width low high row place within =
    let number = low + 2 ^ place * high in
    let turned : number ≡ high * 2 ^ place + low = omega arith in
    let whole : number % 2 ^ place ≡ low % 2 ^ place = ap (λ n. n % 2 ^ place) turned ∙ nat.mul-add-mod_self_right high (2 ^ place) low in
    let part : number % 2 ^ (width + width * row) ≡ low % 2 ^ (width + width * row) =
    sym (low_low number place (width + width * row) within) ∙ ap (λ n. n % 2 ^ (width + width * row)) whole ∙ low_low low place (width + width * row) within
    in
    sym (field_of number width (width * row)) ∙ ap (λ n. n / 2 ^ (width * row)) part ∙ field_of low width (width * row)

-- the first bytes are enough
packed_row-take : (bytes : List ℕ) (width size row : ℕ) → size ≤ length bytes → width + width * row ≤ 8 * size → packed_row bytes width row ≡ packed_row (take size bytes) width row
packed_row-take bytes width size row long within =
    let front = take size bytes in
    let parts : packed_number 8 bytes ≡ packed_number 8 front + 2 ^ (8 * length front) * packed_number 8 (drop size bytes) = ap (packed_number 8) (sym (take-append-drop size bytes)) ∙ packed_number-append 8 front (drop size bytes) in
    ap (λ n. row_in width n row) parts ∙ row_in-low width (packed_number 8 front) (packed_number 8 (drop size bytes)) row (8 * length front) (omega (arith, within, length-take-le size bytes long))

module _ (kind : PType) (values : List ℤ) (valid : List Bool) (widths rows : List ℕ) (u : UnpacksBlocks kind values valid widths rows) where
  -- a row of a block
  gives-row_of_block : (block row : ℕ) → row < 1024 → 1024 * block + row < length values → get_or rows (1024 * block + row) 0 ≡ kept_row (get_or widths block 0) (bits_at kind values (1024 * block + row)) (is_set_at valid (1024 * block + row))
  gives-row_of_block block row few within =
      let bits = map (bits_in kind) values in
      let i = 1024 * block + row in
      let width = get_or widths block 0 in
      let offsets = block_offsets widths in
      let below : block < length widths = omega (arith, u.count) in
      let start : get_or offsets block 0 ≡ sum (take block widths) = get_or-map-range_with_len (block_offset widths) 0 (length widths + 1) block block 0 (omega arith) (omega arith) in
      let next : get_or offsets (block + 1) 0 ≡ sum (take (block + 1) widths) = get_or-map-range_with_len (block_offset widths) 0 (length widths + 1) (block + 1) (block + 1) 0 (omega arith) (omega arith) in
      let more : sum (take (block + 1) widths) ≡ sum (take block widths) + width = sum_by_more (λ n. n) widths block 0 below in
      let wide : block_width offsets block ≡ width = omega (arith, start, next, more) in
      let rest = drop (128 * sum (take block widths)) u.bytes in
      let end = sum-take-le widths (block + 1) (length widths) (omega arith) in
      let long : 128 * width ≤ length rest = omega (arith, u.packed.size, length-drop (128 * sum (take block widths)) u.bytes, more, end, sum-all widths) in
      let read : block_row u.bytes offsets i ≡ packed_row rest width row = block_row-at u.bytes offsets block row few ∙ ap (λ o. packed_row (drop (128 * o) u.bytes) (block_width offsets block) row) start ∙ ap (λ w. packed_row rest w row) wide in
      let lies : width + width * row ≤ 8 * (128 * width) = let m = nat.mul-le-mul_left {m = row} {n = 1023} width (omega arith) in omega (arith, m) in
      let len : length bits ≡ length values = length-map values (bits_in kind) in
      let size = length-block bits block in
      let same : length (block_of valid block) ≡ length (block_of bits block) = omega (arith, size, length-block valid block, u.same, len) in
      let back = unpacked width (block_of bits block) (block_of valid block) (take (128 * width) rest) row same (omega (arith, size, len)) (u.packed.each block below) in
      let at : get_or (block_of bits block) row 0 ≡ bits_at kind values i = get_or-block bits block row 0 few ∙ get_or-map (bits_in kind) values i (pos 0) 0 within in
      ap (λ l. get_or l i 0) u.unpacked ∙ get_or-map-range_with_len (block_row u.bytes offsets) 0 (length values) i i 0 within (omega arith) ∙ read ∙ packed_row-take rest width (128 * width) row long lies ∙ back
      ∙ ap (λ b. kept_row width b (get_or (block_of valid block) row false)) at ∙ ap (kept_row width (bits_at kind values i)) (get_or-block valid block row false few)
    where
      sum-all : (xs : List ℕ) → sum (take (length xs) xs) ≡ sum xs
      sum-all xs = ap sum (take_all (length xs) xs (omega arith))

  gives-row : (i : ℕ) → i < length values → get_or rows i 0 ≡ kept_row (get_or widths (i / 1024) 0) (bits_at kind values i) (is_set_at valid i)
  gives-row i within =
      let place : 1024 * (i / 1024) + i % 1024 ≡ i = omega arith in
      subst (λ n. get_or rows n 0 ≡ kept_row (get_or widths (i / 1024) 0) (bits_at kind values n) (is_set_at valid n)) place (gives-row_of_block (i / 1024) (i % 1024) (omega arith) (omega arith))

pub gives_back_block_rows : GivesBackBlockRows
gives_back_block_rows = gives-row

pub gives_back_block_values : GivesBackBlockValues
gives_back_block_values kind values valid widths rows u i h is_valid fits =
    gives-row kind values valid widths rows u i h ∙ kept_row-fits (get_or widths (i / 1024) 0) (bits_at kind values i) (is_set_at valid i) is_valid fits
