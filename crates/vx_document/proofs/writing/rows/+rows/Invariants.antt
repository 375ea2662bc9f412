use Rattle.std.proofs.Common.{◌≡◌, ◌+◌, ◌*◌, ◌++◌, [], drop}
use Rattle.std.specs.Prelude.{codes}
use denote.Text.{Utf8}
use denote.Shadow.{shadow}
use Rattle.vx_base.specs.Masks.{rows_between}
use Rattle.vx_base.specs.PlainValue.{of_list}
use Rattle.vx_base.specs.TypeText.{items_text}
use Rattle.vx_model.specs.Rows.{rows}
use Rattle.vx_model.specs.Tree.{node_count, list_count, patches_count}
use Rattle.vx_model.specs.TreeType.{tree_type}
use Rattle.vx_document.specs.CappedText.{put}
use Rattle.vx_document.specs.RowText.{rows_text}
use Rattle.vx_document.proofs.writing.rows.+rows.Given as goal

abbrev pub decreases-push_row : goal.decreases-push_row
decreases-push_row l = 3 * node_count l.tree.now

abbrev pub decreases-push_struct : goal.decreases-push_struct
decreases-push_struct l = 3 * list_count l.fields.now + 1

abbrev pub decreases-push_list : goal.decreases-push_list
decreases-push_list l = 3 * node_count l.elements.now + 2

abbrev pub decreases-push_fixed : goal.decreases-push_fixed
decreases-push_fixed l = 3 * node_count l.elements.now + 2

abbrev pub decreases-push_part : goal.decreases-push_part
decreases-push_part l = 3 * node_count l.tree.now + 1

abbrev pub decreases-push_patched : goal.decreases-push_patched
decreases-push_patched l = 3 * patches_count l.patches.now

-- what the rest adds yet leads to the whole text
abbrev pub invariant-push_struct-loop-field : goal.invariant-push_struct-loop-field
invariant-push_struct-loop-field l = record {
  before_text : shadow (Utf8 l.before);
  text : put l.text (rows_text l.before (drop l.field-index l.field-items) l.row) ≡ put l.fn.text (codes "[" ++ rows_text [] l.fields l.row);
}

abbrev pub invariant-push_part-loop-row : goal.invariant-push_part-loop-row
invariant-push_part-loop-row l = record {
  before_text : shadow (Utf8 l.before);
  text : put l.text (items_text l.before (tree_type l.tree) (of_list (rows_between (rows l.tree) l.row l.end))) ≡ put l.fn.text (codes "[" ++ items_text [] (tree_type l.tree) (of_list (rows_between (rows l.tree) l.start l.end)));
}
