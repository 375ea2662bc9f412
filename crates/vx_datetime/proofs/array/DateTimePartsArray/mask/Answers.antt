use Rattle.std.proofs.Common.{rules, ◌≡◌, ◌∙◌, length}
use Rattle.vx_model.specs.Rows.{rows}
use Rattle.vx_datetime.proofs.ChosenParts.{days_long}
use Rattle.vx_datetime.proofs.array.DateTimePartsArray.mask.Goals as goal

pub masked_parts-requires-clause-bits : goal.masked_parts-requires-clause-bits
masked_parts-requires-clause-bits c =
    let own : length c.args.keep.now ≡ length (rows c.args.self.now) = search rules in
    own ∙ days_long c.parts.result.kind.now c.parts.result.nullability c.parts.result.days.now c.parts.result.seconds.now c.parts.result.subseconds.now c.args.self.now c.parts.ensures.tree
