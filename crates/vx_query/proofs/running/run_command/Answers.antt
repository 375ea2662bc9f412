use Rattle.std.proofs.Common.{◌∙◌, ap, string_bytes, sym}
use Rattle.vx_document.specs.CommandView.{command_view}
use Rattle.vx_model.specs.Column.{column_of}
use Rattle.vx_model.specs.TreeType.{tree_type}
use Rattle.vx_query.specs.Queries.{step_of}
use Rattle.vx_query.specs.Steps.{step_view}
use Rattle.vx_query.proofs.Following.{IsLeft, commanded-step}
use Rattle.vx_query.proofs.running.run_command.Goals as goal

pub returns-in-Ok-clause-answer : goal.returns-in-Ok-clause-answer
returns-in-Ok-clause-answer c =
    let command = command_view c.args.command in
    commanded-step (column_of c.args.array) (step_of (tree_type c.args.array) command) (step_view c.in-Ok.step) (IsLeft (string_bytes c.args.text.now) (string_bytes c.run_step.new.text)) c.run_step.result
    (ap (λ t. step_of t command) (sym c.dtype.ensures) ∙ c.in-Ok.ensures) c.run_step.ensures.answer
