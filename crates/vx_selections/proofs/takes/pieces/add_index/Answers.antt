use Rattle.std.proofs.Common.{◌++◌, ◌∷◌, [], subst}
use Rattle.std.proofs.lemmas.Result.{MatchResult-weaker}
use Rattle.vx_pieces.specs.Pieces.{Gives}
use Rattle.vx_selections.proofs.IndexPieces.{filled-row, place-row}
use Rattle.vx_selections.proofs.takes.pieces.add_index.Goals as goal

pub returns-in-Some : goal.returns-in-Some
returns-in-Some c = MatchResult-weaker c.add_row.result c.add_row.ensures
    (λ out add. λ item values rows long gives.
    let row = place-row c.args.len c.in-Some.code c.args.index item values c.in-Some.is c.requires c.ranges.len.fits long in
    subst (λ v. Gives item c.add_row.new.pieces.items values (rows ++ v ∷ [])) row.1 (add item values rows row.0 gives))
    (λ e is. is)

pub returns-in-None : goal.returns-in-None
returns-in-None c = MatchResult-weaker c.add_filled.result c.add_filled.ensures
    (λ out add. λ item values rows long gives.
    subst (λ v. Gives item c.add_filled.new.pieces.items values (rows ++ v ∷ [])) (filled-row item values c.args.index c.in-None.is) (add item values rows gives))
    (λ e is. is)
