use Rattle.std.proofs.Common.{◌∙◌, sym}
use Rattle.vx_values.specs.IntsOf.{wholes_of}
use Rattle.vx_rows.proofs.ConvertLemmas.{rows-held, rows-unheld}
use Rattle.vx_rows.proofs.casting.integers.are_held.Goals as goal

pub returns-then-is_allowed : goal.returns-then-is_allowed
returns-then-is_allowed c = c.lie_in.ensures ∙ rows-held c.args.ptype c.args.valid.now c.args.nullability (wholes_of c.args.values.now) c.requires (sym c.is_allowed.ensures ∙ c.if-is_allowed.true)

pub returns-else-is_allowed : goal.returns-else-is_allowed
returns-else-is_allowed c = c.if-is_allowed.false ∙ rows-unheld c.args.ptype c.args.valid.now c.args.nullability (wholes_of c.args.values.now) c.requires (sym c.is_allowed.ensures ∙ c.if-is_allowed.false)
