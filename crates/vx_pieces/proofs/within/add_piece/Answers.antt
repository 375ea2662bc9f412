use Rattle.std.proofs.Common.{◌++◌, subst, sym}
use Rattle.std.proofs.lemmas.Result.{MatchResult-weaker}
use Rattle.vx_base.specs.PlainValue.{null}
use Rattle.vx_model.specs.Rows.{masked_rows}
use Rattle.vx_pieces.specs.Pieces.{Gives, piece_items}
use Rattle.vx_pieces.proofs.within.add_piece.Goals as goal

pub returns-in-Rows : goal.returns-in-Rows
returns-in-Rows c =
    MatchResult-weaker c.add_blocks.result c.add_blocks.ensures
    (λ u h values rows e g. subst (λ p. Gives null c.add_blocks.new.out.items values (rows ++ piece_items null (masked_rows c.args.mask.now values) p)) (sym c.in-Rows.is) (h values rows e g)) (λ e n. n)

pub returns-in-Filled : goal.returns-in-Filled
returns-in-Filled c =
    MatchResult-weaker c.add_filled.result c.add_filled.ensures
    (λ u h values rows e g. subst (λ p. Gives null c.add_filled.new.pieces.items values (rows ++ piece_items null (masked_rows c.args.mask.now values) p)) (sym c.in-Filled.is) (h null values rows g)) (λ e n. n)
