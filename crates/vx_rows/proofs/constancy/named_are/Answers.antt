use Rattle.std.proofs.Common.{◌<◌, ◌∙◌, arith, length, sym}
use Rattle.std.specs.Prelude.{◌&&◌}
use Rattle.std.specs.List.{list_all}
use Rattle.std.proofs.lemmas.List.{take_all}
use Rattle.vx_base.specs.CellValue.{cell_value}
use Rattle.vx_base.specs.PlainValue.{same_value}
use Rattle.vx_rows.specs.Extremes.{valid_items}
use Rattle.vx_rows.specs.Readable.{lent_rows}
use Rattle.vx_rows.proofs.ConstantLemmas.{items-more}
use Rattle.vx_rows.proofs.constancy.named_are.Goals as goal

pub loop-row-preserved : goal.loop-row-preserved
loop-row-preserved c =
    let rows = lent_rows c.args.rows in
    let here : c.loop-row.row < length rows = omega (arith, c.len-len.ensures) in
    (λ i. c.loop-row.invariant i && c.is_if_named-equal.ensures i)
    ∙ sym (items-more (same_value (cell_value c.args.value)) c.args.named.now rows c.loop-row.row here c.requires.long)

pub returns : goal.returns
returns c =
    let rows = take_all c.loop-row.row (lent_rows c.args.rows) (omega (arith, c.len-len.ensures)) in
    let bits = take_all c.loop-row.row c.args.named.now (omega (arith, c.len-len.ensures, c.requires.long)) in
    c.loop-row.invariant ∙ (λ i. list_all (same_value (cell_value c.args.value)) (valid_items (bits i) (rows i)))
