use Rattle.std.proofs.Common.{ap, length}
use Rattle.vx_base.specs.Defaults.{null_or_default}
use Rattle.vx_model.specs.Column.{column}
use Rattle.vx_model.specs.Rows.{rows}
use Rattle.vx_model.specs.TreeType.{tree_type}
use Rattle.vx_selections.proofs.ByPieces.{along, is_one_piece, one_piece}
use Rattle.vx_selections.proofs.slices.part_by_pieces.Goals as goal

pub pieced-requires : goal.pieced-requires
pieced-requires c = is_one_piece (length (rows c.args.tree.now)) c.args.start c.args.end c.requires

pub returns : goal.returns
returns c =
    let t = c.args.tree.now in
    along c.pieced.result _ _ (ap (column (tree_type t)) (one_piece (null_or_default (tree_type t)) c.args.start c.args.end (rows t))) c.pieced.ensures.rows
