use Rattle.std.proofs.Common.{◌≡◌, ◌∙◌, ap, length}
use Rattle.std.specs.Prelude.{◌&&◌, ◌==◌}
use Rattle.vx_base.specs.PlainType.{same_base}
use Rattle.vx_model.specs.Rows.{rows}
use Rattle.vx_model.specs.TreeType.{tree_type}
use Rattle.vx_datetime.proofs.array.DateTimePartsArray.is_like.Goals as goal

pub returns : goal.returns
returns c =
    let typed = c.dtype.ensures ∙ ap tree_type c.self.view_is in
    let alike : c.are_alike-alike.result ≡ same_base (tree_type c.args.self.now) (tree_type c.args.other.now) = c.are_alike-alike.ensures ∙ (λ i. same_base (typed i) (c.dtype-2.ensures i)) in
    let count = c.len.ensures ∙ ap (λ t. length (rows t)) c.self.view_is in
    λ i. alike i && (count i == c.len-2.ensures i)
