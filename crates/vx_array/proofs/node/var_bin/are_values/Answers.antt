use Rattle.std.proofs.Common.{◌≡◌, ◌<◌, ◌∙◌, ◌-◌, length, map, ap, sym, cond, true, arith}
use Rattle.vx_base.specs.PlainScalar.{fits}
use Rattle.vx_base.specs.PlainValue as plain
use Rattle.vx_base.specs.PlainValue.{null}
use Rattle.vx_base.specs.TypeOf.{type_of}
use Rattle.vx_model.specs.Refusals.{kept, validity_length}
use Rattle.vx_model.specs.Rows.{rows, cut_at, valid_rows, is_valid_at}
use Rattle.vx_model.proofs.VarBinLemmas.{length-cut_at, cut_at-at}
use Rattle.vx_flat.proofs.Views.{all-next, all-stop, all-end, length-views, row_at-views}
use Rattle.vx_array.proofs.node.var_bin.are_values.Goals as goal

pub loop-row-preserved : goal.loop-row-preserved
loop-row-preserved c =
    let os = rows c.args.offsets.now in
    let vs = cut_at os c.args.bytes.now in
    let valid = c.args.valid.now in
    let t = type_of c.args.dtype.now in
    let row = c.loop-row.row in
    let cut = length-cut_at os c.args.bytes.now in
    let lengths : validity_length valid (length vs) ≡ true = ap (validity_length valid) cut ∙ c.requires.lengths in
    let len = length-views vs valid lengths in
    let within : row < length os - 1 = omega arith in
    let here = cut_at-at os c.args.bytes.now row within in
    let read = row_at-views vs valid lengths row (omega (arith, cut)) ∙ ap (λ bs. cond (is_valid_at valid row) (plain.bytes bs) null) here ∙ sym c.piece_at.ensures in
    all-next (fits t) null (valid_rows (kept valid) (map plain.bytes vs)) row (omega (arith, len, cut)) c.loop-row.invariant (ap (fits t) read ∙ sym c.fits.ensures ∙ c.if-not-fits.false)

pub returns-then-not-fits : goal.returns-then-not-fits
returns-then-not-fits c =
    let os = rows c.args.offsets.now in
    let vs = cut_at os c.args.bytes.now in
    let valid = c.args.valid.now in
    let t = type_of c.args.dtype.now in
    let row = c.loop-row.row in
    let cut = length-cut_at os c.args.bytes.now in
    let lengths : validity_length valid (length vs) ≡ true = ap (validity_length valid) cut ∙ c.requires.lengths in
    let len = length-views vs valid lengths in
    let within : row < length os - 1 = omega arith in
    let here = cut_at-at os c.args.bytes.now row within in
    let read = row_at-views vs valid lengths row (omega (arith, cut)) ∙ ap (λ bs. cond (is_valid_at valid row) (plain.bytes bs) null) here ∙ sym c.piece_at.ensures in
    sym (all-stop (fits t) null (valid_rows (kept valid) (map plain.bytes vs)) row (omega (arith, len, cut)) (ap (fits t) read ∙ sym c.fits.ensures ∙ c.if-not-fits.true))

pub returns : goal.returns
returns c =
    let os = rows c.args.offsets.now in
    let vs = cut_at os c.args.bytes.now in
    let valid = c.args.valid.now in
    let cut = length-cut_at os c.args.bytes.now in
    let lengths : validity_length valid (length vs) ≡ true = ap (validity_length valid) cut ∙ c.requires.lengths in
    let len = length-views vs valid lengths in
    sym (all-end (fits (type_of c.args.dtype.now)) (valid_rows (kept valid) (map plain.bytes vs)) c.loop-row.row (omega (arith, len, cut)) c.loop-row.invariant)
