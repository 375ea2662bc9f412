use Rattle.std.proofs.Common.{◌≡◌, ◌∙◌, ◌+◌, ◌-◌, ◌*◌, length, take, drop, arith, ap, subst}
use Rattle.std.proofs.lemmas.List.{take_rest, length-drop}
use Rattle.vx_base.specs.Packed.{block_count, packed_row, packed_size}
use Rattle.vx_array.proofs.node.bit_packed_v2_rows.bits_between.Goals as goal

pub get-requires-clause-block : goal.get-requires-clause-block
get-requires-clause-block c =
    let packed = c.args.packed.now in
    let width = c.args.end - c.args.begin in
    let one : block_count (c.args.row + 1) ≡ 1 = omega (arith, c.requires.in_block) in
    let size : packed_size width (c.args.row + 1) ≡ 128 * width * 1 = ap (λ n. 128 * width * n) one in
    let len : length (take (length packed - 128 * c.args.begin) (drop (128 * c.args.begin) packed)) ≡ length packed - 128 * c.args.begin = ap length (take_rest packed (128 * c.args.begin)) ∙ length-drop (128 * c.args.begin) packed in
    omega (arith, size, len, c.requires.bytes, c.requires.order)

pub returns : goal.returns
returns c =
    let packed = c.args.packed.now in
    subst (λ bytes. c.get.result ≡ packed_row bytes (c.args.end - c.args.begin) c.args.row) (take_rest packed (128 * c.args.begin)) c.get.ensures
