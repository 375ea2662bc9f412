use Rattle.std.proofs.Common.{◌≡◌, ◌∙◌, ◌<◌, ◌+◌, ◌*◌, ◌≤◌, ℕ, pos, length, map, ap, arith, sym}
use Rattle.std.specs.List.{range_with_len}
use Rattle.std.proofs.lemmas.List.{length-map}
use Rattle.vx_blocks.proofs.Written.{grown-written}
use Rattle.vx_values.specs.InBlocks.{moved_row}
use Rattle.vx_values.proofs.BlockGrowth.{grown-all, grown-more, grown-none}
use Rattle.vx_values.proofs.BlockSums.{moved-part, moved-part_length, block-room}
use Rattle.vx_values.proofs.ints.reference_blocks.sums.Goals as goal

pub loop-block-init : goal.loop-block-init
loop-block-init g c = grown-none (pos 0) _ (length c.args.differences.now) g.T.Integer.whole c.in_ok-items.items.items c.in_ok-items.ensures.items

pub loop-block-preserved : goal.loop-block-preserved
loop-block-preserved g c =
    let whole = g.T.Integer.whole in
    let differences = c.args.differences.now in
    let start = 1024 * c.loop-block.block in
    let n : ℕ = c.min.result in
    let items = c.loop-block.items.items in
    let room : start + n ≤ length differences = block-room (length differences) (length c.args.references.now) c.loop-block.block n c.requires.blocks c.loop-block-test.true c.min.ensures in
    let before : start < length differences = omega (arith, c.loop-block-test.true, c.requires.blocks) in
    let size : length items ≡ start = sym (length-map items whole) ∙ c.loop-block.invariant.full before in
    let natural = g.D.Integer.whole in
    let references = c.args.references.now in
    let part = c.write_sums.new.items in
    let made = map whole part in
    let few : n ≤ 1024 = omega (arith, c.min.ensures) in
    let long : length part ≡ n =
    sym (length-map part whole)
    ∙ moved-part_length g.T.Integer.kind whole natural references differences made c.loop-block.block n c.index-references-block.result c.loop-block-test.true few room c.index-references-block.is c.write_sums.ensures
    in
    let written = grown-written items c.resize.new.self.items part _ c.zero.result start n _ c.resize.new.self.len (sym size) c.in_ok-resize.ensures.items (omega (arith, size)) long (omega (arith, c.in_ok-resize.ensures.len)) in
    grown-more (pos 0) (moved_row g.T.Integer.kind (map whole references) (map natural differences)) (length differences) whole items part _ start n (1024 * (c.loop-block.block + 1)) before c.min.ensures (omega arith) long written c.loop-block.invariant
    (moved-part g.T.Integer.kind whole natural references differences made c.loop-block.block n c.index-references-block.result c.loop-block-test.true few room c.index-references-block.is c.write_sums.ensures)

pub returns : goal.returns
returns g c =
    let whole = g.T.Integer.whole in
    ap (map whole) c.from_vec.ensures ∙ grown-all (pos 0) _ (length c.args.differences.now) _ (1024 * c.loop-block.block) (omega (arith, c.loop-block-test.false, c.requires.blocks)) c.loop-block.invariant
    ∙ ap (λ n. map (moved_row g.T.Integer.kind (map whole c.args.references.now) (map g.D.Integer.whole c.args.differences.now)) (range_with_len 0 n)) (sym (length-map c.args.differences.now g.D.Integer.whole))
