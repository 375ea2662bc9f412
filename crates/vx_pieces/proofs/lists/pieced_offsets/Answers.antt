use Rattle.std.proofs.Common.{◌∙◌, ap, length}
use Rattle.vx_pieces.specs.Pieces.{are_pieces}
use Rattle.vx_pieces.proofs.LengthLemmas.{length-lengths}
use Rattle.vx_pieces.proofs.lists.pieced_offsets.Goals as goal

pub pieced-requires : goal.pieced-requires
pieced-requires c =
    let pieces = c.args.pieces.now in
    ap (λ lengths. are_pieces (length lengths) pieces) (c.as_slice.ensures.value ∙ c.in_ok-lengths.ensures) ∙ ap (λ len. are_pieces len pieces) (length-lengths c.args.offsets.now) ∙ c.requires.pieces
