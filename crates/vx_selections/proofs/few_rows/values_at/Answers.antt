use Rattle.std.proofs.Common.{◌<◌, ◌∙◌, ap, arith, length, map, sym, take}
use Rattle.std.proofs.lemmas.List.{take_all}
use Rattle.vx_base.specs.PlainValue.{int}
use Rattle.vx_model.specs.Rows.{looked_up, row_at, rows, valid_rows}
use Rattle.vx_model.specs.WellFormed.{is_place}
use Rattle.vx_model.proofs.FrameOfReferenceLemmas.{row_passes}
use Rattle.vx_model.proofs.RowLemmas.{length-cells, row_at-cells}
use Rattle.vx_values.specs.IntsOf.{wholes_of}
use Rattle.vx_selections.proofs.FewRows.{looked-more, values-more}
use Rattle.vx_selections.proofs.few_rows.values_at.Goals as goal

pub value_of_code-requires : goal.value_of_code-requires
value_of_code-requires c =
    let zs = wholes_of c.args.codes.now in
    let codes = valid_rows c.args.valid.now (map int zs) in
    let row = c.loop-row.row in
    let here : row < length zs = omega (arith, c.len-row-end.ensures) in
    let in_codes : row < length codes = omega (arith, here, length-cells c.args.valid.now zs c.requires.whole) in
    let at = c.primitive_at.ensures ∙ sym (row_at-cells c.args.valid.now zs row c.requires.whole here) in
    ap (is_place (length (rows c.args.tree.now))) at ∙ row_passes (is_place (length (rows c.args.tree.now))) codes row in_codes c.requires.places

pub loop-row-preserved : goal.loop-row-preserved
loop-row-preserved c =
    let all = rows c.args.tree.now in
    let zs = wholes_of c.args.codes.now in
    let codes = valid_rows c.args.valid.now (map int zs) in
    let row = c.loop-row.row in
    let here : row < length zs = omega (arith, c.len-row-end.ensures) in
    let in_codes : row < length codes = omega (arith, here, length-cells c.args.valid.now zs c.requires.whole) in
    let at = c.primitive_at.ensures ∙ sym (row_at-cells c.args.valid.now zs row c.requires.whole here) in
    values-more _ _ c.in_ok-value.value (looked_up all (row_at codes row)) (map (looked_up all) (take row codes)) c.in_ok-push.ensures.items c.loop-row.invariant (c.in_ok-value.ensures ∙ ap (looked_up all) at)
    ∙ sym (looked-more all codes row in_codes)

pub returns : goal.returns
returns c =
    let zs = wholes_of c.args.codes.now in
    let codes = valid_rows c.args.valid.now (map int zs) in
    c.loop-row.invariant ∙ ap (map (looked_up (rows c.args.tree.now))) (take_all c.loop-row.row codes (omega (arith, c.len-row-end.ensures, length-cells c.args.valid.now zs c.requires.whole)))
