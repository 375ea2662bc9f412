use Rattle.std.proofs.Common.{rules, length, subst}
use Rattle.std.specs.Prelude.{IsTrue}
use Rattle.vx_base.specs.Masks.{is_part}
use Rattle.vx_model.specs.Rows.{rows}
use Rattle.vx_datetime.proofs.ChosenParts.{days_long}
use Rattle.vx_datetime.proofs.array.DateTimePartsArray.slice.Goals as goal

pub sliced_parts-requires-clause-part : goal.sliced_parts-requires-clause-part
sliced_parts-requires-clause-part c =
    let own : IsTrue (is_part (length (rows c.args.self.now)) c.args.start c.args.end) = search rules in
    subst (λ n. IsTrue (is_part n c.args.start c.args.end)) (days_long c.parts.result.kind.now c.parts.result.nullability c.parts.result.days.now c.parts.result.seconds.now c.parts.result.subseconds.now c.args.self.now c.parts.ensures.tree) own
