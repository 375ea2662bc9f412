use Rattle.std.proofs.Common.{◌≡◌, ◌++◌, ◌∷◌, [], sym, subst}
use Rattle.std.specs.Prelude.{replicate}
use Rattle.vx_pieces.specs.declared.piece.Piece.TheVariants.{Filled}
use Rattle.vx_pieces.specs.Pieces.{Gives}
use Rattle.vx_pieces.proofs.GrowLemmas.{filled-within}
use Rattle.vx_pieces.proofs.growing.add_filled.Goals as goal

pub returns-in_ok-push-in-Some-Filled : goal.returns-in_ok-push-in-Some-Filled
returns-in_ok-push-in-Some-Filled c = λ item values rows g.
    let popped = c.pop.new.self.items in
    let w = c.in-Some-Filled in
    let before : c.args.pieces.now.items ≡ popped ++ Filled w.before ∷ [] = cc (w.ensures.items, w.field-0-is) in
    let own = filled-within item popped values rows w.before c.args.count (subst (λ ps. Gives item ps values rows) before g) in
    subst (λ ps. Gives item ps values (rows ++ replicate c.args.count item)) (sym c.in_ok-push-in-Some-Filled.ensures.items) own
