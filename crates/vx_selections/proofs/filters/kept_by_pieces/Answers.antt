use Rattle.std.proofs.Common.{◌∙◌, ap, length, sym}
use Rattle.vx_base.specs.Defaults.{null_or_default}
use Rattle.vx_model.specs.Column.{column}
use Rattle.vx_model.specs.Rows.{rows}
use Rattle.vx_model.specs.TreeType.{tree_type}
use Rattle.vx_pieces.specs.Pieces.{are_pieces, pieced}
use Rattle.vx_selections.proofs.ByPieces.{along}
use Rattle.vx_selections.proofs.KeptItems.{same_items}
use Rattle.vx_selections.proofs.filters.kept_by_pieces.Goals as goal

pub pieced-requires : goal.pieced-requires
pieced-requires c =
    let t = c.args.tree.now in
    ap (are_pieces (length (rows t))) c.as_slice.ensures.value ∙ (c.in_ok-pieces.ensures (null_or_default (tree_type t)) (rows t) (sym c.requires)).within

pub returns : goal.returns
returns c =
    let t = c.args.tree.now in
    let item = null_or_default (tree_type t) in
    let gives = (c.in_ok-pieces.ensures item (rows t) (sym c.requires)).gives in
    along c.pieced.result _ _ (ap (column (tree_type t)) (ap (λ ps. pieced item ps (rows t)) c.as_slice.ensures.value ∙ gives ∙ same_items c.args.keep.now (rows t))) c.pieced.ensures.rows
