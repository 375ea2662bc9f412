use Rattle.std.proofs.Common.{◌≡◌}
use Rattle.std.specs.Vec.Iter.{into_iter_items}
use Rattle.serde_json.specs.View.{items_view}
use Rattle.vx_document.specs.Arguments.{index_of}
use Rattle.vx_document.specs.Reading.{all_by}
use Rattle.vx_document.proofs.Documents.{with_left}
use Rattle.vx_document.proofs.document.commands.operands.read_index_list.Given as goal

-- the indices so far and those that are left are all
abbrev pub invariant-loop-value : goal.invariant-loop-value
invariant-loop-value l = with_left index_of l.indices.items (into_iter_items l.value-iterator) ≡ all_by index_of (items_view l.fn.list.items)
