use Rattle.std.proofs.Common.{◌≡◌, ◌++◌, map, string_bytes}
use Rattle.std.specs.Vec.Iter.{into_iter_items}
use Rattle.vx_document.specs.CommandView.{command_view}
use Rattle.vx_model.specs.Column.{column_of}
use Rattle.vx_query.specs.Queries.{mapped, query_lines}
use Rattle.vx_query.proofs.running.query_lines.Given as goal

-- the lines so far, and then those of the commands that are left, are all
abbrev pub invariant-loop-command : goal.invariant-loop-command
invariant-loop-command l = record {
  lines : mapped (λ lines. string_bytes l.text ++ lines) (query_lines (column_of l.tree) (map command_view (into_iter_items l.command-iterator))) ≡ query_lines (column_of l.fn.array) (map command_view l.fn.commands.items);
  ctx : l.ctx ≡ l.fn.ctx;
}
