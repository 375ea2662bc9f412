use Rattle.std.proofs.Common.{take}
use Rattle.vx_base.specs.PlainValue.{null}
use Rattle.vx_model.specs.Rows.{masked_rows}
use Rattle.vx_pieces.specs.Pieces.{pieced}
use Rattle.vx_pieces.proofs.WithinLemmas.{gives-piece}
use Rattle.vx_pieces.proofs.within.unmasked_pieces.Goals as goal

pub loop-piece-preserved : goal.loop-piece-preserved
loop-piece-preserved c = λ values e.
    let pieces = c.args.pieces.now in
    let i = c.loop-piece.piece-index in
    let masked = masked_rows c.args.mask.now values in
    gives-piece c.add_piece.new.out.items pieces i _ masked values c.loop-piece-test.true (c.in_ok-add_piece.ensures values (pieced null (take i pieces) masked) e (c.loop-piece.invariant values e))
