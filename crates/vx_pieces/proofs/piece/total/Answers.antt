use Rattle.std.proofs.Common.{◌∙◌, ◌^◌, ap}
use Rattle.vx_pieces.specs.Pieces.{pieces_count}
use Rattle.vx_pieces.proofs.CountLemmas.{take-past, counted}
use Rattle.vx_pieces.proofs.piece.total.Goals as goal

pub returns : goal.returns
returns c =
    let pieces = c.args.pieces.now in
    counted c.loop-piece.count (pieces_count pieces) (2 ^ 64)
    (c.loop-piece.invariant.0 ∙ ap pieces_count (take-past pieces c.loop-piece.piece-index c.loop-piece-test.false)) c.loop-piece.invariant.1
