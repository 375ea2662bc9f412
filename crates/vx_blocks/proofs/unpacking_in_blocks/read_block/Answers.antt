use Rattle.std.proofs.Common.{◌≡◌, ◌∙◌, ℕ, ◌-◌, ◌*◌, pos, length, map, take, drop, arith, ap, subst}
use Rattle.std.proofs.lemmas.List.{take_rest, length-drop}
use Rattle.vx_base.specs.Packed.{block_count, packed_size}
use Rattle.vx_base.specs.Wrapping.{wrap}
use Rattle.vx_blocks.specs.Appended.{AppendsRows}
use Rattle.vx_blocks.proofs.unpacking_in_blocks.read_block.Goals as goal

pub read_rows-requires-clause-room : goal.read_rows-requires-clause-room
read_rows-requires-clause-room g c some =
    let packed = c.args.packed.now in
    let width = c.args.next - c.args.first in
    let one : block_count c.args.count ≡ 1 = omega (arith, some, c.requires.few) in
    let size : packed_size width c.args.count ≡ 128 * width * 1 = ap (λ n. 128 * width * n) one in
    let len : length (take (length packed - 128 * c.args.first) (drop (128 * c.args.first) packed)) ≡ length packed - 128 * c.args.first = ap length (take_rest packed (128 * c.args.first)) ∙ length-drop (128 * c.args.first) packed in
    omega (arith, size, len, c.requires.bytes, c.requires.order)

pub returns : goal.returns
returns g c =
    let value = λ (n : ℕ). wrap g.T.Integer.kind (pos n) in
    let packed = c.args.packed.now in
    subst (λ bytes. AppendsRows value bytes (c.args.next - c.args.first) 0 c.args.count (map g.T.Integer.whole c.args.made.now.items) (map g.T.Integer.whole c.read_rows.new.rows.items)) (take_rest packed (128 * c.args.first)) c.in_ok-read_rows.ensures
