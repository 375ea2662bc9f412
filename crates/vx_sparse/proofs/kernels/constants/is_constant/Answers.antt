use Rattle.std.proofs.Common.{◌∙◌, sym, ap, subst, Ok}
use Rattle.std.proofs.lemmas.Bool.{false≢true}
use Rattle.vx_base.specs.Answers.{Answers}
use Rattle.vx_base.specs.PlainType.{is_flat}
use Rattle.vx_sparse.proofs.ConstantRows.{constant-sparse}
use Rattle.vx_sparse.proofs.kernels.constants.is_constant.Goals as goal

pub returns-then-is_flat-clause-answer : goal.returns-then-is_flat-clause-answer
returns-then-is_flat-clause-answer c = c.are_equal_cells.ensures ∙ sym (constant-sparse c.args.patches.now c.args.fill.now c.known.ensures)

pub returns-then-is_flat-clause-flat : goal.returns-then-is_flat-clause-flat
returns-then-is_flat-clause-flat c = λ h. ap Ok (c.are_equal_cells.ensures ∙ sym (constant-sparse c.args.patches.now c.args.fill.now c.known.ensures))

pub returns-clause-answer : goal.returns-clause-answer
returns-clause-answer c = subst (λ b. Answers c.are_equal_values.result b) (sym (constant-sparse c.args.patches.now c.args.fill.now c.known.ensures)) c.are_equal_values.ensures

pub returns-clause-flat : goal.returns-clause-flat
returns-clause-flat c = λ h. absurd (false≢true (sym (sym c.is_flat.ensures ∙ c.if-is_flat.false) ∙ ap is_flat c.dtype.ensures ∙ h))
