use Rattle.std.proofs.Common.{◌≡◌, ◌≤◌, ◌+◌, map, option_map}
use Rattle.std.specs.Vec.Iter.{into_iter_items}
use Rattle.serde_json.specs.View.{view, items_view, members_view}
use Rattle.vx_base.specs.TypeOf.{field_of}
use Rattle.vx_document.specs.Reading.{all_by}
use Rattle.vx_document.specs.Types.{field_read}
use Rattle.vx_document.proofs.Documents.{with_left}
use Rattle.vx_document.proofs.DocumentTypes.{data_count, items_count, members_count, option_count}
use Rattle.vx_document.proofs.document.types.+types.Given as goal

abbrev pub decreases-read_type : goal.decreases-read_type
decreases-read_type l = data_count (view l.value)

abbrev pub decreases-read_object : goal.decreases-read_object
decreases-read_object l = 3 + members_count (members_view l.map.entries)

abbrev pub decreases-read_structs : goal.decreases-read_structs
decreases-read_structs l = 2 + members_count (members_view l.map.entries)

abbrev pub decreases-read_lists : goal.decreases-read_lists
decreases-read_lists l = 2 + members_count (members_view l.map.entries)

abbrev pub decreases-read_fixed_lists : goal.decreases-read_fixed_lists
decreases-read_fixed_lists l = 2 + members_count (members_view l.map.entries)

abbrev pub decreases-read_items : goal.decreases-read_items
decreases-read_items l = 1 + option_count (option_map view l.value)

abbrev pub decreases-read_fields : goal.decreases-read_fields
decreases-read_fields l = 1 + option_count (option_map view l.value)

abbrev pub decreases-read_field_list : goal.decreases-read_field_list
decreases-read_field_list l = 1 + items_count (items_view l.list.items)

abbrev pub decreases-read_field : goal.decreases-read_field
decreases-read_field l = data_count (view l.value)

-- the fields so far and those that are left are all, and what is left counts no more
abbrev pub invariant-read_field_list-loop-value : goal.invariant-read_field_list-loop-value
invariant-read_field_list-loop-value l = record {
  reading : with_left field_read (map field_of l.fields.items) (into_iter_items l.value-iterator) ≡ all_by field_read (items_view l.fn.list.items);
  fewer : items_count (items_view (into_iter_items l.value-iterator)) ≤ items_count (items_view l.fn.list.items);
}
