use Rattle.std.proofs.Common.{◌∙◌, ◌++◌, ap, sym}
use Rattle.std.specs.Prelude.{codes}
use Rattle.std.proofs.lemmas.Result.{on_ok_weaker}
use Rattle.json.specs.Print.{quoted}
use Rattle.vx_base.specs.TypeText.{unit_text}
use Rattle.vx_document.specs.CappedText.{put}
use Rattle.vx_document.specs.Writing.{nullable_member, timestamp_type}
use Rattle.vx_document.proofs.CappedTexts.{put_step, put_last}
use Rattle.vx_document.proofs.writing.types.push_zoned.Goals as goal

pub returns : goal.returns
returns c =
    let s = c.args.text.now in
    let n = c.args.nullability in
    let kind = c.args.kind.now in
    let name = c.name.result.now in
    let zone = c.as_str.result.now in
    let named = put_step s _ _ (codes "{\"timestamp\":\"") name c.in_ok-push.ensures c.in_ok-push-2.ensures in
    let key = put_step s _ _ (codes "{\"timestamp\":\"" ++ name) (codes "\",\"zone\":") named c.in_ok-push-3.ensures in
    let zoned = put_step s _ _ (codes "{\"timestamp\":\"" ++ name ++ codes "\",\"zone\":") (quoted zone) key c.in_ok-push_quoted.ensures in
    let unit = c.name.ensures ∙ ap unit_text c.unit.ensures.unit in
    let same =
    (λ i. put s (codes "{\"timestamp\":\"" ++ unit i ++ codes "\",\"zone\":" ++ quoted (c.as_str.ensures i) ++ nullable_member n ++ codes "}"))
    ∙ ap (λ z. put s (timestamp_type kind.unit z n)) (sym c.requires) in
    on_ok_weaker c.push_end.result (λ e. put_last s _ _ (codes "{\"timestamp\":\"" ++ name ++ codes "\",\"zone\":" ++ quoted zone) (nullable_member n) (codes "}") zoned e ∙ same) c.push_end.ensures
