use Rattle.std.proofs.Common.{◌∙◌, ◌++◌, ap}
use Rattle.std.specs.Prelude.{codes}
use Rattle.std.proofs.lemmas.Result.{on_ok_weaker}
use Rattle.vx_base.specs.TypeText.{list_text}
use Rattle.vx_base.specs.TypeOf.{type_of}
use Rattle.vx_model.specs.Column.{column_of}
use Rattle.vx_model.specs.Rows.{rows}
use Rattle.vx_model.specs.TreeType.{tree_type}
use Rattle.vx_document.specs.CappedText.{put}
use Rattle.vx_document.specs.RowText.{part_text}
use Rattle.vx_document.specs.Writing.{type_json}
use Rattle.vx_document.proofs.CappedTexts.{put_step}
use Rattle.vx_document.proofs.RowTexts.{whole_part}
use Rattle.vx_document.proofs.WrittenDocuments.{document_pieces}
use Rattle.vx_document.proofs.writing.push_document.Goals as goal

pub returns : goal.returns
returns c =
    let s = c.args.text.now in
    let tree = c.args.tree.now in
    let typed = type_json (type_of c.dtype.result.now) in
    let part = part_text tree 0 c.len.result in
    let begun = put_step s _ _ (codes "{\"type\":") typed c.in_ok-push.ensures c.in_ok-push_type.ensures in
    let key = put_step s _ _ (codes "{\"type\":" ++ typed) (codes ",\"rows\":") begun c.in_ok-push-2.ensures in
    let all = put_step s _ _ (codes "{\"type\":" ++ typed ++ codes ",\"rows\":") part key c.in_ok-push_part.ensures in
    let rows = ap (λ n. part_text tree 0 n) c.len.ensures ∙ ap (list_text (tree_type tree)) (whole_part (rows tree)) in
    let same = (λ i. codes "{\"type\":" ++ type_json (c.dtype.ensures i) ++ codes ",\"rows\":" ++ rows i ++ codes ",\"words\":[0]}\n") ∙ document_pieces (column_of tree) in
    on_ok_weaker c.push-3.result (λ e. put_step s _ _ (codes "{\"type\":" ++ typed ++ codes ",\"rows\":" ++ part) (codes ",\"words\":[0]}\n") all e ∙ ap (put s) same) c.push-3.ensures
