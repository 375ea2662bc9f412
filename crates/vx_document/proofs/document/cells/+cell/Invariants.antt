use Rattle.std.proofs.Common.{◌≡◌, ◌+◌, ◌*◌, length, map, drop}
use Rattle.std.specs.Vec.Iter.{into_iter_items}
use Rattle.serde_json.specs.View.{items_view}
use Rattle.vx_base.specs.TypeOf.{type_of, value_of, field_of, fields_of}
use Rattle.vx_base.proofs.FallLemmas.{type_count, field_list_count}
use Rattle.vx_document.specs.Reading.{all_by}
use Rattle.vx_document.specs.RowsOf.{row_of, field_rows}
use Rattle.vx_document.proofs.Documents.{with_left}
use Rattle.vx_document.proofs.DocumentCells.{fields_left}
use Rattle.vx_document.proofs.document.cells.+cell.Given as goal

abbrev pub decreases-read_cell : goal.decreases-read_cell
decreases-read_cell l = 3 * type_count (type_of l.dtype.now)

abbrev pub decreases-read_struct : goal.decreases-read_struct
decreases-read_struct l = 3 * field_list_count (fields_of l.fields.now) + 2

abbrev pub decreases-read_list : goal.decreases-read_list
decreases-read_list l = 3 * type_count (type_of l.items.now) + 2

abbrev pub decreases-read_fixed_list : goal.decreases-read_fixed_list
decreases-read_fixed_list l = 3 * type_count (type_of l.items.now) + 2

abbrev pub decreases-read_fields : goal.decreases-read_fields
decreases-read_fields l = 3 * field_list_count (fields_of l.fields.now) + 1

abbrev pub decreases-read_cells : goal.decreases-read_cells
decreases-read_cells l = 3 * type_count (type_of l.dtype.now) + 1

-- the rows so far and those that are left are all
abbrev pub invariant-read_cells-loop-json : goal.invariant-read_cells-loop-json
invariant-read_cells-loop-json l = with_left (row_of (type_of l.dtype)) (map value_of l.values.items) (into_iter_items l.json-iterator) ≡ all_by (row_of (type_of l.dtype)) (items_view l.fn.list.items)

-- the same, and a field is left for each row
abbrev pub invariant-read_fields-loop-json : goal.invariant-read_fields-loop-json
invariant-read_fields-loop-json l = record {
  lengths : length l.values.items + length (into_iter_items l.json-iterator) ≡ length l.parts;
  reading : fields_left (map field_of (drop (length l.values.items) l.parts)) (map value_of l.values.items) (into_iter_items l.json-iterator) ≡ field_rows (fields_of l.fields) (items_view l.fn.list.items);
}
