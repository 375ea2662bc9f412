use Rattle.std.proofs.Common.{◌<◌, ◌∙◌, ◌++◌, ◌∷◌, [], ap, arith, length, map, subst, sym, take}
use Rattle.vx_base.specs.PlainValue.{int}
use Rattle.vx_model.specs.Rows.{valid_rows}
use Rattle.vx_model.specs.WellFormed.{is_place}
use Rattle.vx_model.proofs.FrameOfReferenceLemmas.{row_passes}
use Rattle.vx_model.proofs.RowLemmas.{length-cells}
use Rattle.vx_pieces.specs.Pieces.{Gives}
use Rattle.vx_values.specs.IntsOf.{wholes_of}
use Rattle.vx_selections.specs.Chosen.{row_or, rows_or}
use Rattle.vx_selections.proofs.IndexPieces.{rows_or-end, rows_or-next}
use Rattle.vx_selections.proofs.takes.pieces.index_pieces.Goals as goal

pub add_index-requires : goal.add_index-requires
add_index-requires c =
    let rs = valid_rows c.args.valid.now (map int (wholes_of c.args.codes.now)) in
    let long = length-cells c.args.valid.now (wholes_of c.args.codes.now) c.requires.bits in
    let within : c.loop-row.row < length rs = omega (arith, long, c.loop-row-test.true, c.len-row-end.ensures) in
    ap (is_place c.args.len) c.index_at.ensures ∙ row_passes (is_place c.args.len) rs c.loop-row.row within c.requires.places

pub loop-row-preserved : goal.loop-row-preserved
loop-row-preserved c = λ item values e.
    let rs = valid_rows c.args.valid.now (map int (wholes_of c.args.codes.now)) in
    let row = c.loop-row.row in
    let long = length-cells c.args.valid.now (wholes_of c.args.codes.now) c.requires.bits in
    let within : row < length rs = omega (arith, long, c.loop-row-test.true, c.len-row-end.ensures) in
    let before = rows_or item values (take row rs) in
    let next = sym (rows_or-next item values rs row within ∙ ap (λ v. before ++ row_or item values v ∷ []) (sym c.index_at.ensures)) in
    subst (λ rows. Gives item c.add_index.new.pieces.items values rows) next (c.in_ok-add_index.ensures item values before e (c.loop-row.invariant item values e))

pub returns : goal.returns
returns c = λ item values e.
    let rs = valid_rows c.args.valid.now (map int (wholes_of c.args.codes.now)) in
    let long = length-cells c.args.valid.now (wholes_of c.args.codes.now) c.requires.bits in
    subst (λ rows. Gives item c.loop-row.pieces.items values rows) (rows_or-end item values rs c.loop-row.row (omega (arith, long, c.loop-row-test.false, c.len-row-end.ensures))) (c.loop-row.invariant item values e)
