use Rattle.std.proofs.Common.{◌∙◌, ◌++◌, List, ℕ, map, take, sym, ap, arith}
use Rattle.vx_codec.specs.Lists.{spell_all}
use Rattle.vx_spelling.specs.Fields.{integer}
use Rattle.vx_file.proofs.Bytes.{integers_split}
use Rattle.vx_file.proofs.Steps.{part_more}
use Rattle.vx_file.proofs.writing.integers.put_items.Goals as goal

pub loop-preserved : goal.loop-preserved
loop-preserved g c =
    let spell = (integer g.T.Integer.kind).spell in
    let whole = g.T.Integer.whole in
    let old = c.loop.out.items in
    let rest = c.loop.rest.now in
    let n = c.min.result in
    let front = c.split_at.ensures.front in
    let back = c.split_at.ensures.back in
    let text = c.write_group-len.ensures.bytes ∙ ap (λ ys. spell_all spell (map whole ys)) front in
    let apart = integers_split g.T.Integer.kind whole rest n ∙ ap (λ ys. spell_all spell (map whole (take n rest)) ++ spell_all spell (map whole ys)) (sym back) in
    record {
      room = c.write_group-len.ensures.room;
      left = omega (arith, c.split_at.ensures.back_len, c.loop.invariant.left);
      text = part_more old (spell_all spell (map whole (take n rest))) _ _ _ _ (c.in_ok-extend_from_slice.ensures.items ∙ ap (λ (ys : List ℕ). old ++ ys) text) apart c.loop.invariant.text;
    }
