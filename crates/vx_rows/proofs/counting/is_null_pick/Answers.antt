use Rattle.std.proofs.Common.{◌∙◌, ap, length}
use Rattle.vx_base.specs.PlainValue.{is_null}
use Rattle.vx_model.specs.Rows.{looked_up}
use Rattle.vx_model.specs.WellFormed.{is_place}
use Rattle.vx_model.proofs.FrameOfReferenceLemmas.{row_passes}
use Rattle.vx_rows.specs.Readable.{lent_rows}
use Rattle.vx_rows.proofs.counting.is_null_pick.Goals as goal

pub picks_null-requires-clause-place : goal.picks_null-requires-clause-place
picks_null-requires-clause-place c =
    let values = lent_rows c.args.values in
    ap (is_place (length values)) c.cell.ensures ∙ row_passes (is_place (length values)) (lent_rows c.args.codes) c.args.row c.requires.in_range c.requires.places

pub returns : goal.returns
returns c = c.picks_null.ensures ∙ ap (λ code. is_null (looked_up (lent_rows c.args.values) code)) c.cell.ensures
