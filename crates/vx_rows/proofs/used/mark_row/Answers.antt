use Rattle.std.proofs.Common.{◌∙◌, ap, length, refl, sym}
use Rattle.vx_base.specs.PlainValue.{int}
use Rattle.vx_model.specs.WellFormed.{is_place}
use Rattle.vx_values.proofs.Cells.{row_of-null, row_of-valid}
use Rattle.vx_rows.specs.Used.{marked}
use Rattle.vx_rows.proofs.used.mark_row.Goals as goal

pub place_of-place-requires : goal.place_of-place-requires
place_of-place-requires g c =
    let whole = g.T.Integer.whole in
    let x = c.index-codes-row.result in
    let at = row_of-valid whole c.args.codes.now c.args.valid.now c.requires.whole c.args.row x (whole x) c.requires.in_range c.index-codes-row.is refl (sym c.is_valid.ensures ∙ c.if-is_valid.true) in
    ap (is_place (length c.args.named.now)) at ∙ c.requires.place

pub returns-then-is_valid : goal.returns-then-is_valid
returns-then-is_valid g c =
    let whole = g.T.Integer.whole in
    let x = c.index-codes-row.result in
    let at = row_of-valid whole c.args.codes.now c.args.valid.now c.requires.whole c.args.row x (whole x) c.requires.in_range c.index-codes-row.is refl (sym c.is_valid.ensures ∙ c.if-is_valid.true) in
    ap (marked c.args.named.now) (ap int (sym c.place_of-place.ensures.is) ∙ at)

pub returns-else-is_valid : goal.returns-else-is_valid
returns-else-is_valid g c =
    ap (marked c.args.named.now) (row_of-null g.T.Integer.whole c.args.codes.now c.args.valid.now c.requires.whole c.args.row c.requires.in_range (sym c.is_valid.ensures ∙ c.if-is_valid.false))
