use Rattle.std.proofs.Common.{◌≡◌, ◌<◌, ◌≤◌, ◌∙◌, ap, arith, length, map, sym}
use Rattle.vx_base.specs.Masks.{rows_between}
use Rattle.vx_base.specs.TypeOf.{value_of}
use Rattle.vx_model.specs.Rows.{row_at, rows}
use Rattle.vx_selections.proofs.FewRows.{between-more, between-none, part_ends, values-more}
use Rattle.vx_selections.proofs.few_rows.values_between.Goals as goal

pub loop-row-init : goal.loop-row-init
loop-row-init c = ap (map value_of) c.new-values.ensures.items ∙ between-none (rows c.args.tree.now) c.args.start

pub value_at-requires : goal.value_at-requires
value_at-requires c = let ends = part_ends (length (rows c.args.tree.now)) c.args.start c.args.end c.requires in omega (arith, ends.1)

pub loop-row-preserved : goal.loop-row-preserved
loop-row-preserved c =
    let all = rows c.args.tree.now in
    let row = c.loop-row.row in
    let ends = part_ends (length all) c.args.start c.args.end c.requires in
    let here : row < length all = omega (arith, ends.1) in
    let from : c.args.start ≤ row = omega arith in
    values-more _ _ c.in_ok-value.value (row_at all row) (rows_between all c.args.start row) c.in_ok-push.ensures.items c.loop-row.invariant c.in_ok-value.ensures ∙ sym (between-more all c.args.start row from here)

pub returns : goal.returns
returns c =
    let ends = part_ends (length (rows c.args.tree.now)) c.args.start c.args.end c.requires in
    let end : c.loop-row.row ≡ c.args.end = omega (arith, ends.0) in
    c.loop-row.invariant ∙ ap (rows_between (rows c.args.tree.now) c.args.start) end
