use Rattle.std.proofs.Common.{◌≡◌, ◌<◌, List, length, option_map, Some, ap, sym, ◌∙◌, arith}
use Rattle.std.proofs.lemmas.List.{length-map}
use Rattle.serde_json.specs.View.{view}
use Rattle.vx_base.specs.TypeOf.{type_of, field_of, fields_of}
use Rattle.vx_base.proofs.FallLemmas.{field_falls, field_list_count}
use Rattle.vx_base.specs.declared.dtype.DType.{DType}
use Rattle.vx_base.specs.PlainValue.{PlainValue}
use Rattle.vx_model.specs.Rows.{list_value}
use Rattle.vx_document.specs.RowsOf.{list_row, fixed_list_row}
use Rattle.vx_document.proofs.DocumentCells.{field_rows-other, fixed-other, fixed-sized}
use Rattle.vx_document.proofs.VariantRows.{row-Null, row-Bool, row-Primitive, row-Utf8, row-Binary, row-Timestamp, row-Struct, row-List, row-FixedSizeList}
use Rattle.vx_document.proofs.document.cells.+cell.Goals as goal

pub read_cell-returns-in-Null : goal.read_cell-returns-in-Null
read_cell-returns-in-Null t c = row-Null c.args.dtype.now (view c.args.json) (sym c.is_null.ensures ∙ c.if-is_null.false) c.in-Null.is

pub read_cell-returns-in-Bool : goal.read_cell-returns-in-Bool
read_cell-returns-in-Bool t c = let same = row-Bool c.args.dtype.now (view c.args.json) (sym c.is_null.ensures ∙ c.if-is_null.false) c.in-Bool.field-0 c.in-Bool.is in rw same c.read_item.ensures

pub read_cell-returns-in-Primitive : goal.read_cell-returns-in-Primitive
read_cell-returns-in-Primitive t c = let same = row-Primitive c.args.dtype.now (view c.args.json) (sym c.is_null.ensures ∙ c.if-is_null.false) c.in-Primitive.ptype c.in-Primitive.field-1 c.in-Primitive.is in rw same c.read_whole.ensures

pub read_cell-returns-in-Utf8 : goal.read_cell-returns-in-Utf8
read_cell-returns-in-Utf8 t c = let same = row-Utf8 c.args.dtype.now (view c.args.json) (sym c.is_null.ensures ∙ c.if-is_null.false) c.in-Utf8.field-0 c.in-Utf8.is in rw same c.read_item-in-Utf8.ensures

pub read_cell-returns-in-Binary : goal.read_cell-returns-in-Binary
read_cell-returns-in-Binary t c = let same = row-Binary c.args.dtype.now (view c.args.json) (sym c.is_null.ensures ∙ c.if-is_null.false) c.in-Binary.field-0 c.in-Binary.is in rw same c.read_item-in-Binary.ensures

pub read_cell-returns-in-Timestamp : goal.read_cell-returns-in-Timestamp
read_cell-returns-in-Timestamp t c = let same = row-Timestamp c.args.dtype.now (view c.args.json) (sym c.is_null.ensures ∙ c.if-is_null.false) c.in-Timestamp.field-0 c.in-Timestamp.field-1 c.in-Timestamp.is in rw same c.read_whole-in-Timestamp.ensures

pub read_cell-returns-in-Struct : goal.read_cell-returns-in-Struct
read_cell-returns-in-Struct t c = let same = row-Struct c.args.dtype.now (view c.args.json) (sym c.is_null.ensures ∙ c.if-is_null.false) c.in-Struct.fields c.in-Struct.field-1 c.in-Struct.is in rw same c.read_struct.ensures

pub read_cell-returns-in-List : goal.read_cell-returns-in-List
read_cell-returns-in-List t c = let same = row-List c.args.dtype.now (view c.args.json) (sym c.is_null.ensures ∙ c.if-is_null.false) c.in-List.items c.in-List.field-1 c.in-List.is in
    let items = ap (λ (t : DType). list_row (type_of t) (view c.args.json)) (sym c.deref.ensures) in
    rw (same, items) c.read_list.ensures

pub read_cell-returns-in-FixedSizeList : goal.read_cell-returns-in-FixedSizeList
read_cell-returns-in-FixedSizeList t c = let same = row-FixedSizeList c.args.dtype.now (view c.args.json) (sym c.is_null.ensures ∙ c.if-is_null.false) c.in-FixedSizeList.items c.in-FixedSizeList.size c.in-FixedSizeList.field-2 c.in-FixedSizeList.is in
    let items = ap (λ (t : DType). fixed_list_row (type_of t) c.in-FixedSizeList.size (view c.args.json)) (sym c.deref-in-FixedSizeList.ensures) in
    rw (same, items) c.read_fixed_list.ensures

pub read_fields-returns-then-len-parts : goal.read_fields-returns-then-len-parts
read_fields-returns-then-len-parts t c =
    let fields : length c.as_slice-parts.result.now ≡ length (fields_of c.args.fields.now) = sym (length-map c.as_slice-parts.result.now field_of) ∙ ap length c.as_slice-parts.ensures in
    field_rows-other (fields_of c.args.fields.now) c.args.list.items (λ e. absurd (omega arith))

pub read_fields-read_cell-requires : goal.read_fields-read_cell-requires
read_fields-read_cell-requires t c =
    let left = ap length c.in-Some.ensures.steps.0 in
    let here : c.len-in-loop-json.result < length c.as_slice-parts.result.now = omega (arith, left, c.loop-json.invariant.lengths, c.len-in-loop-json.ensures) in
    let falls = field_falls c.as_slice-parts.result.now c.len-in-loop-json.result c.index-parts-len.result here c.index-parts-len.is in
    omega (arith, falls, ap field_list_count c.as_slice-parts.ensures)

pub read_fixed_list-returns-then-len-size : goal.read_fixed_list-returns-then-len-size
read_fixed_list-returns-then-len-size t c =
    fixed-other (type_of c.args.items.now) c.args.size (view c.args.json) c.in_ok-list.list.items c.in_ok-list.ensures (λ e. absurd (omega arith))

pub read_fixed_list-returns : goal.read_fixed_list-returns
read_fixed_list-returns t c =
    fixed-sized (type_of c.args.items.now) c.args.size (view c.args.json) c.in_ok-list.list.items c.in_ok-list.ensures (omega arith) ∙ ap (option_map list_value) c.in_ok-values.ensures ∙ ap (λ (vs : List PlainValue). Some (list_value vs)) (sym c.from_vec.ensures)
