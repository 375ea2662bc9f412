use Rattle.vx_base.specs.Defaults.{null_or_default}
use Rattle.vx_model.specs.Column.{column}
use Rattle.vx_model.specs.Rows.{rows}
use Rattle.vx_model.specs.TreeType.{tree_type}
use Rattle.vx_pieces.specs.Pieces.{pieced}
use Rattle.vx_array.proofs.MadePlain.{made-kept, made-plain}
use Rattle.vx_array.proofs.PiecedRows.{given_fit}
use Rattle.vx_selections.proofs.by_pieces.pieced.Goals as goal

pub returns-clause-rows : goal.returns-clause-rows
returns-clause-rows c =
    let t = c.args.tree.now in
    let col = column (tree_type t) (pieced (null_or_default (tree_type t)) c.args.pieces.now (rows t)) in
    made-kept col c.plain_pieces.result (given_fit t c.known.ensures c.args.pieces.now c.requires) c.plain_pieces.ensures

pub returns-clause-plain : goal.returns-clause-plain
returns-clause-plain c =
    let t = c.args.tree.now in
    let col = column (tree_type t) (pieced (null_or_default (tree_type t)) c.args.pieces.now (rows t)) in
    made-plain col c.plain_pieces.result (given_fit t c.known.ensures c.args.pieces.now c.requires) c.plain_pieces.ensures
