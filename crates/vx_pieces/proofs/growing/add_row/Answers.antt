use Rattle.vx_pieces.proofs.GrowLemmas.{row-added}
use Rattle.vx_pieces.proofs.growing.add_row.Goals as goal

pub returns : goal.returns
returns c = row-added c.add_rows.result c.args.pieces.now.items c.add_rows.new.pieces.items c.args.row c.add_rows.ensures
