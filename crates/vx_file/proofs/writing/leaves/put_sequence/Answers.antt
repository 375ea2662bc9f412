use Rattle.std.proofs.Common.{◌≡◌, ◌∙◌, ◌++◌, ap}
use Rattle.std.proofs.lemmas.Int.{to_z-of_z}
use Rattle.std.proofs.lemmas.Result.{on_ok_weaker}
use Rattle.std.specs.Int.{w128}
use Rattle.vx_codec.specs.Varint.{varint}
use Rattle.vx_spelling.specs.Fields.{nullability, ptype, wide_integer}
use Rattle.vx_file.proofs.Steps.{five_parts}
use Rattle.vx_file.proofs.writing.leaves.put_sequence.Goals as goal

pub returns : goal.returns
returns c =
    let one = c.put_ptype.new.out.items in
    let two = c.put_nullability.new.out.items in
    let three = c.put_wide.new.out.items in
    let four = c.put_wide-2.new.out.items in
    let first : three ≡ two ++ wide_integer.spell c.args.first = c.in_ok-put_wide.ensures ∙ ap (λ z. two ++ wide_integer.spell z) (to_z-of_z w128 c.args.first c.ranges.first) in
    let step : four ≡ three ++ wide_integer.spell c.args.step = c.in_ok-put_wide-2.ensures ∙ ap (λ z. three ++ wide_integer.spell z) (to_z-of_z w128 c.args.step c.ranges.step) in
    on_ok_weaker c.put_varint.result
    (λ e.
    five_parts c.args.out.now.items (ptype.spell c.args.own_type.0) (nullability.spell c.args.own_type.1) (wide_integer.spell c.args.first) (wide_integer.spell c.args.step) (varint.spell c.args.len) one two three four c.put_varint.new.out.items
    c.in_ok-put_ptype.ensures c.in_ok-put_nullability.ensures first step e) c.put_varint.ensures
