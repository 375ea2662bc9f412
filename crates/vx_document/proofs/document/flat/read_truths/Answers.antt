use Rattle.std.proofs.Common.{◌∙◌}
use Rattle.vx_document.proofs.FlatColumns.{given, never, truths_made}
use Rattle.vx_document.proofs.document.flat.read_truths.Goals as goal

pub returns-in-Ok : goal.returns-in-Ok
returns-in-Ok c = given _ _ _ _ _ (truths_made _ _ _ _ _ (c.from_bits.ensures ∙ c.into_vec.ensures) c.in_ok-rows.ensures) c.in-Ok.tree c.in-Ok.ensures

pub returns-in-Err : goal.returns-in-Err
returns-in-Err c = absurd (never _ _ _ _ _ (truths_made _ _ _ _ _ (c.from_bits.ensures ∙ c.into_vec.ensures) c.in_ok-rows.ensures) c.in-Err._refused c.in-Err.ensures)
