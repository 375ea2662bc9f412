use Rattle.std.proofs.Common.{◌≡◌, sym, ap, subst, ◌∙◌}
use Rattle.std.proofs.lemmas.Str.{is_utf8-from_IsUtf8}
use Rattle.serde_json.specs.Data.{Data, string}
use Rattle.serde_json.specs.View.{view}
use Rattle.serde_json.specs.declared.value.Value.{String}
use Rattle.vx_base.specs.declared.dtype.Nullability.TheVariants.{NonNullable}
use Rattle.vx_base.specs.PlainType.{utf8}
use Rattle.vx_base.specs.PlainValue.{bytes}
use Rattle.vx_document.specs.Reading.{Gives}
use Rattle.vx_document.specs.RowsOf.{row_of}
use Rattle.vx_document.proofs.Documents.{view-String}
use Rattle.vx_document.proofs.DocumentRows.{text-row}
use Rattle.vx_document.proofs.document.kinds.TextsKind.read.Goals as goal

pub returns-in-String : goal.returns-in-String
returns-in-String c =
    let is : c.args.value ≡ String c.in-String.text = c.in-String.is in
    let text : view c.args.value ≡ string c.into_bytes.result = ap view is ∙ view-String c.in-String.text ∙ ap string (sym (c.into_bytes.ensures.bytes ∙ c.from_string.ensures)) in
    subst (λ (d : Data). Gives bytes c.short.result (row_of (utf8 NonNullable) d)) (sym text) (text-row c.into_bytes.result c.short.result (is_utf8-from_IsUtf8 _ c.into_bytes.ensures.utf8) c.short.ensures)
