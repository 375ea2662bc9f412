use Rattle.std.proofs.Common.{◌≡◌, map}
use Rattle.std.specs.Vec.Iter.{into_iter_items}
use Rattle.serde_json.specs.View.{items_view}
use Rattle.vx_document.specs.CommandView.{command_view}
use Rattle.vx_document.specs.Commands.{command_of}
use Rattle.vx_document.specs.Reading.{all_by}
use Rattle.vx_document.proofs.Documents.{with_left}
use Rattle.vx_document.proofs.document.commands.read_list.Given as goal

-- the commands so far and those that are left are all
abbrev pub invariant-loop-value : goal.invariant-loop-value
invariant-loop-value l = with_left command_of (map command_view l.commands.items) (into_iter_items l.value-iterator) ≡ all_by command_of (items_view l.fn.list.items)
