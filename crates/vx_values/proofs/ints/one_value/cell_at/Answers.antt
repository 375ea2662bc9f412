use Rattle.std.proofs.Common.{◌∙◌, ap, sym, rules}
use Rattle.std.specs.Int.{w128}
use Rattle.std.specs.Prelude.{FitsSigned}
use Rattle.std.proofs.lemmas.Int.{to_z-of_z}
use Rattle.vx_values.proofs.Cells.{row_of-valid, row_of-null}
use Rattle.vx_base.specs.PlainValue.{int}
use Rattle.vx_values.proofs.ints.one_value.cell_at.Goals as goal

pub returns-then-is_valid : goal.returns-then-is_valid
returns-then-is_valid g c =
    let fits : FitsSigned w128 c.to_whole.result = search rules in
    ap int (to_z-of_z w128 c.to_whole.result fits)
    ∙ row_of-valid g.T.Integer.whole c.args.items.now c.args.valid.now c.requires.in_mask c.args.row c.index-items-row.result c.to_whole.result c.requires.in_items c.index-items-row.is c.to_whole.ensures.value
    (sym c.is_valid.ensures ∙ c.if-is_valid.true)

pub returns-else-is_valid : goal.returns-else-is_valid
returns-else-is_valid g c = row_of-null g.T.Integer.whole c.args.items.now c.args.valid.now c.requires.in_mask c.args.row c.requires.in_items (sym c.is_valid.ensures ∙ c.if-is_valid.false)
