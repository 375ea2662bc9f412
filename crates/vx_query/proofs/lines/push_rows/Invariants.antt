use Rattle.std.proofs.Common.{◌≡◌, ◌++◌, [], drop, string_bytes}
use Rattle.std.specs.Prelude.{codes}
use denote.Text.{Utf8}
use denote.Shadow.{shadow}
use Rattle.vx_base.specs.PlainValue.{of_list}
use Rattle.vx_base.specs.TypeText.{items_text}
use Rattle.vx_model.specs.Rows.{rows}
use Rattle.vx_model.specs.TreeType.{tree_type}
use Rattle.vx_query.proofs.lines.push_rows.Given as goal

-- what the rest adds yet leads to the whole text
abbrev pub invariant-loop-row : goal.invariant-loop-row
invariant-loop-row l = record {
  before_text : shadow (Utf8 l.before);
  text : string_bytes l.text ++ items_text l.before (tree_type l.tree) (of_list (drop l.row (rows l.tree))) ≡ string_bytes l.fn.text ++ codes "[" ++ items_text [] (tree_type l.tree) (of_list (rows l.tree));
}
