use Rattle.std.proofs.Common.{◌≡◌, ◌≤◌, ◌++◌, ◌∷◌, [], sym, subst}
use Rattle.vx_base.specs.Masks.{rows_between}
use Rattle.vx_pieces.specs.declared.piece.Piece.TheVariants.{Rows}
use Rattle.vx_pieces.specs.Pieces.{Gives}
use Rattle.vx_pieces.proofs.GrowLemmas.{rows-within}
use Rattle.vx_pieces.proofs.growing.add_rows.Goals as goal

pub returns-in_ok-push-in-Some-Rows-default-default-eq1 : goal.returns-in_ok-push-in-Some-Rows-default-default-eq1
returns-in_ok-push-in-Some-Rows-default-default-eq1 c = λ item values rows l g.
    let popped = c.pop.new.self.items in
    let w = c.in-Some-Rows-default-default-eq1 in
    let before : c.args.pieces.now.items ≡ popped ++ Rows w.first c.args.start 1 ∷ [] = cc (w.ensures.items, w.field-0-is, w.field-0-2-test, c.if-last-start.true) in
    let own = rows-within item popped values rows w.first c.args.start c.args.end (subst (λ m. w.first ≤ m) c.if-last-start.true c.if-first-last.true) c.requires l (subst (λ ps. Gives item ps values rows) before g) in
    subst (λ ps. Gives item ps values (rows ++ rows_between values c.args.start c.args.end)) (sym c.in_ok-push-in-Some-Rows-default-default-eq1.ensures.items) own
