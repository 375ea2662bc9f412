use Rattle.std.proofs.Common.{◌∙◌, ◌++◌, ap, map, string_bytes, sym}
use Rattle.std.specs.Prelude.{◌≡◌}
use Rattle.std.specs.Vec.Iter.{into_iter_items}
use Rattle.vx_document.specs.CommandView.{command_view}
use Rattle.vx_model.specs.Column.{column_of}
use Rattle.vx_query.specs.Queries.{commanded, mapped, query_lines}
use Rattle.vx_query.proofs.Following.{handed-on, lines-next, lines-refused}
use Rattle.vx_query.proofs.running.query_lines.Goals as goal

pub loop-command-preserved : goal.loop-command-preserved
loop-command-preserved c =
    let l = c.loop-command in
    let step = commanded (column_of l.tree) (command_view c.in-Some.command) in
    let others = map command_view (into_iter_items c.next.new.self) in
    let all = query_lines (column_of c.args.array) (map command_view c.args.commands.items) in
    let left =
    ap (λ commands. mapped (λ lines. string_bytes l.text ++ lines) (query_lines (column_of l.tree) (map command_view commands))) (sym c.in-Some.ensures.steps.0)
    ∙ l.invariant.lines in
    record {
      lines = lines-next step others (string_bytes l.text) (string_bytes c.run_command.new.text) c.in_ok-tree.tree all left c.in_ok-tree.ensures.answer;
      ctx = c.run_command.ensures.ctx ∙ l.invariant.ctx;
    }

pub returns-in_err-tree-clause-answer : goal.returns-in_err-tree-clause-answer
returns-in_err-tree-clause-answer c =
    let l = c.loop-command in
    let e = c.in_err-tree.field-0.0 in
    let step = commanded (column_of l.tree) (command_view c.in-Some.command) in
    let others = map command_view (into_iter_items c.next.new.self) in
    let all = query_lines (column_of c.args.array) (map command_view c.args.commands.items) in
    let left =
    ap (λ commands. mapped (λ lines. string_bytes l.text ++ lines) (query_lines (column_of l.tree) (map command_view commands))) (sym c.in-Some.ensures.steps.0)
    ∙ l.invariant.lines in
    handed-on all (λ text lines. string_bytes text ≡ lines) c.from_residual.result e c.from_residual.ensures.1
    (lines-refused step others (string_bytes l.text) (string_bytes c.run_command.new.text) all e (λ text lines. string_bytes text ≡ lines) left c.in_err-tree.ensures.answer)
