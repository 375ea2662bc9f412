use Rattle.std.proofs.Common.{◌∙◌, ◌≤◌, length, sym, arith}
use Rattle.vx_model.specs.Column.{column_of}
use Rattle.vx_document.specs.Writing.{document_text}
use Rattle.vx_document.proofs.CappedTexts.{put_over}
use Rattle.vx_document.proofs.WrittenDocuments.{document-least}
use Rattle.vx_document.proofs.writing.push_column.Goals as goal

pub returns-then-not-has_room : goal.returns-then-not-has_room
returns-then-not-has_room c =
    let all = document_text (column_of c.args.tree) in
    let least = document-least (column_of c.args.tree) in
    let short : c.len.result ≤ length all = omega (arith, c.len.ensures, least) in
    let full = sym c.has_room.ensures ∙ c.if-not-has_room.true in
    c.end.ensures ∙ sym (put_over c.args.text.now c.len.result all short full)
