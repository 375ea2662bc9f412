use Rattle.std.proofs.Common.{◌<◌, ◌∙◌, ap, arith, fold, length, map, sym, take}
use Rattle.std.proofs.lemmas.List.{take_all}
use Rattle.std.proofs.lemmas.List.Sums.{fold_more}
use Rattle.vx_base.specs.PlainValue.{int, null}
use Rattle.vx_model.specs.Rows.{row_at, valid_rows}
use Rattle.vx_model.specs.WellFormed.{is_place}
use Rattle.vx_model.proofs.FrameOfReferenceLemmas.{row_passes}
use Rattle.vx_values.proofs.Cells.{length-rows_of}
use Rattle.vx_rows.specs.Used.{marked}
use Rattle.vx_rows.proofs.UsedLemmas.{length-fold}
use Rattle.vx_rows.proofs.used.mark_items.Goals as goal

pub mark_row-requires-clause-place : goal.mark_row-requires-clause-place
mark_row-requires-clause-place g c =
    let codes = valid_rows c.args.valid.now (map int (map g.T.Integer.whole c.args.codes.now)) in
    let row = c.loop-row.row in
    let here : row < length codes = omega (arith, length-rows_of g.T.Integer.whole c.args.codes.now c.args.valid.now c.requires.whole) in
    let long = ap length c.loop-row.invariant ∙ length-fold c.args.named.now (take row codes) in
    ap (λ n. is_place n (row_at codes row)) long ∙ row_passes (is_place (length c.args.named.now)) codes row here c.requires.places

pub loop-row-preserved : goal.loop-row-preserved
loop-row-preserved g c =
    let codes = valid_rows c.args.valid.now (map int (map g.T.Integer.whole c.args.codes.now)) in
    let row = c.loop-row.row in
    let here : row < length codes = omega (arith, length-rows_of g.T.Integer.whole c.args.codes.now c.args.valid.now c.requires.whole) in
    c.mark_row.ensures ∙ ap (λ bits. marked bits (row_at codes row)) c.loop-row.invariant ∙ sym (fold_more marked c.args.named.now codes row null here)

pub returns : goal.returns
returns g c =
    let codes = valid_rows c.args.valid.now (map int (map g.T.Integer.whole c.args.codes.now)) in
    c.loop-row.invariant ∙ ap (fold marked c.args.named.now) (take_all c.loop-row.row codes (omega (arith, length-rows_of g.T.Integer.whole c.args.codes.now c.args.valid.now c.requires.whole)))
