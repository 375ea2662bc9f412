use Rattle.std.proofs.Common.{◌∙◌, arith, map, sym}
use Rattle.std.proofs.lemmas.List.{length-map}
use Rattle.vx_base.specs.PlainValue.{int, null}
use Rattle.vx_flat.proofs.Views.{all-end, all-next, all-stop}
use Rattle.vx_model.specs.Rows.{masked_rows}
use Rattle.vx_model.specs.WellFormed.{is_place}
use Rattle.vx_model.proofs.RowLemmas.{length-masked_rows}
use Rattle.vx_values.specs.IntsOf.{wholes_of}
use Rattle.vx_selections.proofs.takes.places.are_places_where.Goals as goal

pub loop-row-preserved : goal.loop-row-preserved
loop-row-preserved c =
    let bits = c.args.bits.now in
    let zs = map int (wholes_of c.args.codes.now) in
    let long = length-masked_rows bits zs (c.requires ∙ sym (length-map (wholes_of c.args.codes.now) int)) ∙ length-map (wholes_of c.args.codes.now) int in
    all-next (is_place c.args.len) null (masked_rows bits zs) c.loop-row.row (omega (arith, long, c.requires, c.loop-row-test.true)) c.loop-row.invariant (sym c.is_place_where.ensures ∙ c.if-not-is_place_where.false)

pub returns-then-not-is_place_where : goal.returns-then-not-is_place_where
returns-then-not-is_place_where c =
    let bits = c.args.bits.now in
    let zs = map int (wholes_of c.args.codes.now) in
    let long = length-masked_rows bits zs (c.requires ∙ sym (length-map (wholes_of c.args.codes.now) int)) ∙ length-map (wholes_of c.args.codes.now) int in
    sym (all-stop (is_place c.args.len) null (masked_rows bits zs) c.loop-row.row (omega (arith, long, c.requires, c.loop-row-test.true)) (sym c.is_place_where.ensures ∙ c.if-not-is_place_where.true))

pub returns : goal.returns
returns c =
    let bits = c.args.bits.now in
    let zs = map int (wholes_of c.args.codes.now) in
    let long = length-masked_rows bits zs (c.requires ∙ sym (length-map (wholes_of c.args.codes.now) int)) ∙ length-map (wholes_of c.args.codes.now) int in
    sym (all-end (is_place c.args.len) (masked_rows bits zs) c.loop-row.row (omega (arith, long, c.requires, c.loop-row-test.false)) c.loop-row.invariant)
