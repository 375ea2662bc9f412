use Rattle.std.proofs.Common.{◌∙◌, sym}
use Rattle.vx_model.specs.Rows.{rows, rle_place}
use Rattle.vx_model.specs.WellFormed.{is_place}
use Rattle.vx_flat.proofs.RunPlaces.{passing-fails, passing-next}
use Rattle.vx_array.proofs.node.rle_rows.rows_have_places.Goals as goal

pub returns-then-not-has_place : goal.returns-then-not-has_place
returns-then-not-has_place c =
    sym (passing-fails (is_place c.args.values) (rle_place (rows c.args.offsets.now) (rows c.args.indices.now)) c.args.len c.loop-row.row c.loop-row-test.true (sym c.has_place.ensures ∙ c.if-not-has_place.true))

pub loop-row-preserved : goal.loop-row-preserved
loop-row-preserved c =
    passing-next (is_place c.args.values) (rle_place (rows c.args.offsets.now) (rows c.args.indices.now)) c.loop-row.row c.loop-row.invariant (sym c.has_place.ensures ∙ c.if-not-has_place.false)
