use Rattle.std.proofs.Common.{◌∙◌, ap, map, refl, sym}
use Rattle.vx_rows.specs.Items.{plain_item}
use Rattle.vx_rows.specs.Readable.{lent_rows}
use Rattle.vx_rows.proofs.AnswerLemmas.{or-map}
use Rattle.vx_rows.proofs.TextLemmas.{liked-alike}
use Rattle.vx_rows.proofs.matching.columns.liked_by_one.Goals as goal

pub returns-in-Bytes : goal.returns-in-Bytes
returns-in-Bytes c =
    or-map c.stored_liked.result _ _ (λ truths e. e ∙ liked-alike c.args.options c.args.pattern.now _ (ap (map plain_item) c.as_slice.ensures.value ∙ c.in_ok-read_items.ensures) _ _ (ap lent_rows (sym c.in-Bytes.is))) c.stored_liked.ensures

pub returns : goal.returns
returns c =
    or-map c.cells_liked.result _ _ (λ truths e. e ∙ liked-alike c.args.options c.args.pattern.now _ (ap (map plain_item) c.as_slice-in_default.ensures.value ∙ c.in_ok-read_items.ensures) _ _ refl) c.cells_liked.ensures
