use Rattle.std.proofs.Common.{◌≡◌, ◌∙◌, ◌+◌, ◌-◌, ◌++◌, List, ℕ, take, length, ap, rules, arith}
use borrow.Rule.Slice.PartMut.{put_mid}
use Rattle.vx_codec.specs.FixedWidth.{little_endian}
use Rattle.vx_spelling.specs.Fields.{integer}
use Rattle.vx_file.proofs.Bytes.{integers_more, low_bytes, take-written}
use Rattle.vx_file.proofs.Steps.{part_more}
use Rattle.vx_file.proofs.writing.integers.write_group.Goals as goal

pub loop-item-preserved : goal.loop-item-preserved
loop-item-preserved g c =
    let kind = g.T.Integer.kind in
    let whole = g.T.Integer.whole in
    let len = c.loop-item.len in
    let width = c.byte_width-width.result in
    let old = c.loop-item.buffer in
    let bytes = c.to_le_bytes.result in
    let item = c.item-item.result in
    let long : length bytes ≡ 8 = ap length c.to_le_bytes.ensures in
    let all = put_mid len (len + 8 - len) old c.copy_from_slice.new.self in
    let front : take (len + width) all ≡ take len old ++ take width bytes =
    ap (λ (ys : List ℕ). take (len + width) (put_mid len (len + 8 - len) old ys)) c.copy_from_slice.ensures.after ∙ take-written len 8 width old bytes c.byte_width-width.ensures.most long (omega arith) in
    let low : take width bytes ≡ (integer kind).spell (whole item) =
    ap (take width) c.to_le_bytes.ensures ∙ low_bytes width c.to_bits.result c.byte_width-width.ensures.most ∙ (λ i. little_endian (c.loop-item.invariant.wide i) (c.to_bits.ensures.value i)) in
    record {
      wide = c.loop-item.invariant.wide;
      room = search rules;
      within = omega (arith, c.byte_width-width.ensures.most);
      text = part_more (take len old) ((integer kind).spell (whole item)) (take (len + width) all) _ _ _ (front ∙ ap (λ (ys : List ℕ). take len old ++ ys) low) (integers_more kind whole c.args.items.now c.loop-item.item-index item (omega arith) c.item-item.is) c.loop-item.invariant.text;
    }
