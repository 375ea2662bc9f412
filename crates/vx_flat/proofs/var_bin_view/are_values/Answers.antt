use Rattle.std.proofs.Common.{◌<◌, ◌∙◌, length, map, ap, sym, arith}
use Rattle.vx_base.specs.PlainScalar.{fits}
use Rattle.vx_base.specs.PlainValue.{bytes, null}
use Rattle.vx_base.specs.TypeOf.{type_of}
use Rattle.vx_model.specs.Refusals.{kept}
use Rattle.vx_model.specs.Rows.{valid_rows}
use Rattle.vx_flat.proofs.Views.{all-next, all-stop, all-end, length-views, row_at-views}
use Rattle.vx_flat.proofs.var_bin_view.are_values.Goals as goal

pub loop-row-preserved : goal.loop-row-preserved
loop-row-preserved c =
    let vs = c.args.values.now in
    let valid = c.args.valid.now in
    let t = type_of c.args.dtype.now in
    let row = c.loop-row.row in
    let len = length-views vs valid c.requires.lengths in
    let within : row < length vs = omega arith in
    let read = row_at-views vs valid c.requires.lengths row within ∙ sym c.view_at.ensures in
    all-next (fits t) null (valid_rows (kept valid) (map bytes vs)) row (omega (arith, len)) c.loop-row.invariant (ap (fits t) read ∙ sym c.fits.ensures ∙ c.if-not-fits.false)

pub returns-then-not-fits : goal.returns-then-not-fits
returns-then-not-fits c =
    let vs = c.args.values.now in
    let valid = c.args.valid.now in
    let t = type_of c.args.dtype.now in
    let row = c.loop-row.row in
    let len = length-views vs valid c.requires.lengths in
    let within : row < length vs = omega arith in
    let read = row_at-views vs valid c.requires.lengths row within ∙ sym c.view_at.ensures in
    sym (all-stop (fits t) null (valid_rows (kept valid) (map bytes vs)) row (omega (arith, len)) (ap (fits t) read ∙ sym c.fits.ensures ∙ c.if-not-fits.true))

pub returns : goal.returns
returns c =
    let vs = c.args.values.now in
    let valid = c.args.valid.now in
    let len = length-views vs valid c.requires.lengths in
    sym (all-end (fits (type_of c.args.dtype.now)) (valid_rows (kept valid) (map bytes vs)) c.loop-row.row (omega (arith, len)) c.loop-row.invariant)
