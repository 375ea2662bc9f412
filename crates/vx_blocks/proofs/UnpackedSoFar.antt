-- Blocks that are unpacked one after another.
use Rattle.std.proofs.Common.{◌≡◌, ◌∙◌, ℕ, ◌+◌, ◌-◌, ◌*◌, ◌<◌, ◌≤◌, ℤ, pos, List, ◌++◌, length, map, min, drop, get_or, arith, ap, sym}
use Rattle.std.specs.List.{range_with_len}
use Rattle.vx_base.specs.declared.ptype.PType.{PType}
use Rattle.vx_base.specs.Integers.{natural_bits}
use Rattle.vx_base.specs.Packed.{packed_row}
use Rattle.vx_base.specs.PackedBlocks.{block_row, block_width}
use Rattle.vx_base.specs.Wrapping.{wrap}
use Rattle.vx_blocks.specs.Appended.{AppendsRows}
use Rattle.vx_blocks.proofs.Blocks.{block_row-at}
use Rattle.vx_blocks.proofs.Ranges.{map-range_part}
use Rattle.vx_blocks.proofs.RowsRead.{row-wrapped}

pub unpacked-more : (kind : PType) (packed offsets bytes : List ℕ) (len block count : ℕ) (old new : List ℤ) → 1024 * block < len → count ≡ min (len - 1024 * block) 1024 → bytes ≡ drop (128 * get_or offsets block 0) packed
    → block_width offsets block ≤ natural_bits kind → old ≡ map (λ row. pos (block_row packed offsets row)) (range_with_len 0 (min (1024 * block) len))
    → AppendsRows (λ n. wrap kind (pos n)) bytes (block_width offsets block) 0 count old new → new ≡ map (λ row. pos (block_row packed offsets row)) (range_with_len 0 (min (1024 * (block + 1)) len))
unpacked-more kind packed offsets bytes len block count old new more some at narrow before h =
    let row = λ (i : ℕ). pos (block_row packed offsets i) in
    let width = block_width offsets block in
    let here : min (1024 * block) len ≡ 1024 * block = omega arith in
    let next : 1024 * block + count ≡ min (1024 * (block + 1)) len = omega (arith, some) in
    let long : length h.part ≡ count = h.rows.size ∙ omega arith in
    let each : (k : ℕ) → k < count → get_or h.part k (pos 0) ≡ row (1024 * block + k) =
    λ k below.
    let place : 0 + k ≡ k = omega arith in
    h.rows.each k (omega arith) ∙ row-wrapped kind bytes width (0 + k) narrow ∙ ap (λ j. pos (packed_row bytes width j)) place ∙ ap (λ l. pos (packed_row l width k)) at
    ∙ ap pos (sym (block_row-at packed offsets block k (omega (arith, some))))
    in
    h.behind ∙ ap (λ l. l ++ h.part) (before ∙ ap (λ m. map row (range_with_len 0 m)) here) ∙ map-range_part row (pos 0) (1024 * block) count h.part long each ∙ ap (λ m. map row (range_with_len 0 m)) next
