use Rattle.std.proofs.Common.{◌∙◌, ap, sym, length, arith}
use Rattle.std.specs.List.{list_all}
use Rattle.std.specs.Prelude.{◌==◌}
use Rattle.vx_model.specs.Rows.{rows}
use Rattle.vx_model.specs.Tree.{Tree}
use Rattle.vx_model.proofs.TreesLemmas.{all_have_rows-of_list}
use Rattle.vx_flat.proofs.Views.{all-stop, all-end}
use Rattle.vx_array.proofs.node.structure.all_have_rows.Goals as goal

pub returns-then-not-has_rows : goal.returns-then-not-has_rows
returns-then-not-has_rows c =
    let has = λ (t : Tree). length (rows t) == c.args.len in
    let other = ap has (sym c.field-item.is) ∙ sym c.has_rows.ensures ∙ c.if-not-has_rows.true in
    let stop = all-stop has c.field-item.result c.as_slice-field-items.result.now c.loop-field.field-index (omega arith) other in
    sym (all_have_rows-of_list c.args.len c.args.fields.now ∙ ap (list_all has) (sym c.as_slice-field-items.ensures) ∙ stop)

pub returns : goal.returns
returns c =
    let has = λ (t : Tree). length (rows t) == c.args.len in
    let end = all-end has c.as_slice-field-items.result.now c.loop-field.field-index (omega arith) c.loop-field.invariant in
    sym (all_have_rows-of_list c.args.len c.args.fields.now ∙ ap (list_all has) (sym c.as_slice-field-items.ensures) ∙ end)
