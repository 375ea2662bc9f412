use Rattle.std.proofs.Common.{◌∙◌, ap, sym}
use Rattle.vx_pieces.specs.Bits.{pieced_validity}
use Rattle.vx_pieces.proofs.BitLemmas.{none-all}
use Rattle.vx_pieces.proofs.validity.pieced_validity.Goals as goal

pub returns-in-None : goal.returns-in-None
returns-in-None c =
    let filling = c.args.filling in
    let pieces = c.args.pieces.now in
    let len = c.args.len in
    none-all filling pieces len (sym c.stay_valid.ensures ∙ c.if-stay_valid.true) ∙ ap (λ valid. pieced_validity filling pieces valid len) (sym c.in-None.is)
