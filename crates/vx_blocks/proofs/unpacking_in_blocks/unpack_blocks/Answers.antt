use Rattle.std.proofs.Common.{◌≡◌, ◌∙◌, ℕ, ◌+◌, ◌*◌, pos, map, min, refl, arith, ap}
use Rattle.std.specs.List.{range_with_len}
use Rattle.vx_base.specs.Integers.{natural_bits}
use Rattle.vx_base.specs.Packed.{block_count}
use Rattle.vx_base.specs.PackedBlocks.{block_row}
use Rattle.vx_blocks.proofs.Blocks.{natural_bits-most, offset-le}
use Rattle.vx_blocks.proofs.UnpackedSoFar.{unpacked-more}
use Rattle.vx_blocks.proofs.unpacking_in_blocks.unpack_blocks.Goals as goal

pub read_block-requires-clause-order : goal.read_block-requires-clause-order
read_block-requires-clause-order g c = c.requires.offsets.rising c.loop-block.block (omega (arith, c.loop-block-test.true, c.div_ceil-block-end.ensures, c.requires.blocks))

pub read_block-requires-clause-narrow : goal.read_block-requires-clause-narrow
read_block-requires-clause-narrow g c =
    omega (arith, c.requires.offsets.narrow c.loop-block.block (omega (arith, c.loop-block-test.true, c.div_ceil-block-end.ensures, c.requires.blocks)), natural_bits-most g.T.Integer.kind)

pub read_block-requires-clause-bytes : goal.read_block-requires-clause-bytes
read_block-requires-clause-bytes g c =
    let le = offset-le (natural_bits g.T.Integer.kind) c.args.offsets.now (c.loop-block.block + 1) (block_count c.args.rows) c.requires.offsets (omega (arith, c.loop-block-test.true, c.div_ceil-block-end.ensures)) (omega (arith, c.requires.blocks)) in
    omega (arith, le, c.requires.bytes)

pub loop-block-init : goal.loop-block-init
loop-block-init g c =
    let row = λ (i : ℕ). pos (block_row c.args.packed.now c.args.offsets.now i) in
    let none : 0 ≡ min (1024 * 0) c.args.rows = omega arith in
    ap (map g.T.Integer.whole) c.in_ok-made.ensures.items ∙ ap (λ n. map row (range_with_len 0 n)) none

pub loop-block-preserved : goal.loop-block-preserved
loop-block-preserved g c =
    let block = c.loop-block.block in
    let within = c.requires.offsets.narrow block (omega (arith, c.loop-block-test.true, c.div_ceil-block-end.ensures, c.requires.blocks)) in
    unpacked-more g.T.Integer.kind c.args.packed.now c.args.offsets.now _ c.args.rows block c.min-count.result _ _ (omega (arith, c.loop-block-test.true, c.div_ceil-block-end.ensures)) (omega (arith, c.min-count.ensures)) refl
    (omega (arith, within)) c.loop-block.invariant c.in_ok-read_block.ensures

pub returns : goal.returns
returns g c =
    let row = λ (i : ℕ). pos (block_row c.args.packed.now c.args.offsets.now i) in
    let end : min (1024 * c.loop-block.block) c.args.rows ≡ c.args.rows = omega (arith, c.loop-block-test.false, c.div_ceil-block-end.ensures) in
    c.loop-block.invariant ∙ ap (λ n. map row (range_with_len 0 n)) end
