use Rattle.std.proofs.Common.{arith, ap, sym, ◌∙◌, ◌≡◌, ◌*◌, ◌&&◌, true, false, map, length}
use Rattle.std.specs.Prelude.{nat_le}
use Rattle.vx_base.specs.TypeOf.{type_of, value_of, fields_of}
use Rattle.vx_base.proofs.FallLemmas.{field_falls, field_list_count}
use Rattle.vx_model.specs.Column.{column}
use Rattle.vx_model.specs.Extents.{row_limit}
use Rattle.vx_flat.specs.Ways.{way_of, column_at, are_few, inner_counts}
use Rattle.vx_flat.proofs.FewWayLemmas.{type-field, few-field, fields-step, counts-few, few_least, left_false, left_true}
use Rattle.vx_flat.proofs.counting.+inner.Goals as goal

pub fields_fit-field_fits-requires : goal.fields_fit-field_fits-requires
fields_fit-field_fits-requires t c =
    let there = column_at (way_of c.args.way.now) (column (type_of c.args.dtype.now) (map value_of c.args.values.now)) in
    let fs = c.as_slice-fields.result.now in
    let f = c.index-fields-place.result in
    let i = c.loop-place.place in
    let falls = field_falls fs i f (omega arith) c.index-fields-place.is in
    let count = ap field_list_count c.as_slice-fields.ensures in (
      omega arith,
      (
        type-field c.args.times there fs i f (omega arith) c.index-fields-place.is (fields_of c.args.fields.now) c.as_slice-fields.ensures c.requires.typed c.requires.few,
        few-field c.args.times there fs i f (omega arith) c.index-fields-place.is (fields_of c.args.fields.now) c.as_slice-fields.ensures c.requires.typed c.requires.few,
      ),
    )

pub fields_fit-returns-then-not-field_fits : goal.fields_fit-returns-then-not-field_fits
fields_fit-returns-then-not-field_fits t c =
    let there = column_at (way_of c.args.way.now) (column (type_of c.args.dtype.now) (map value_of c.args.values.now)) in
    let fs = c.as_slice-fields.result.now in
    let f = c.index-fields-place.result in
    let i = c.loop-place.place in
    let step = fields-step c.args.times there fs i f (omega arith) c.index-fields-place.is (fields_of c.args.fields.now) c.as_slice-fields.ensures c.requires.typed c.requires.few in
    sym (sym c.loop-place.invariant ∙ left_false _ _ _ step (sym c.field_fits.ensures ∙ c.if-not-field_fits.true))

pub fields_fit-loop-place-preserved : goal.fields_fit-loop-place-preserved
fields_fit-loop-place-preserved t c =
    let there = column_at (way_of c.args.way.now) (column (type_of c.args.dtype.now) (map value_of c.args.values.now)) in
    let fs = c.as_slice-fields.result.now in
    let f = c.index-fields-place.result in
    let i = c.loop-place.place in
    let step = fields-step c.args.times there fs i f (omega arith) c.index-fields-place.is (fields_of c.args.fields.now) c.as_slice-fields.ensures c.requires.typed c.requires.few in
    sym (left_true _ _ _ step (sym c.field_fits.ensures ∙ c.if-not-field_fits.false)) ∙ c.loop-place.invariant

pub items_fit-inner_fit-requires : goal.items_fit-inner_fit-requires
items_fit-inner_fit-requires t c =
    let there = column_at (way_of c.args.way.now) (column (type_of c.args.dtype.now) (map value_of c.args.values.now)) in
    let few = ap (λ n. nat_le (c.args.times * n) row_limit) c.rows_at.ensures ∙ few_least c.args.times (length there.values) in
    (omega arith, (c.requires.typed, sym few ∙ sym c.few_times.ensures ∙ c.if-few_times.true))

pub items_fit-returns-then-few_times : goal.items_fit-returns-then-few_times
items_fit-returns-then-few_times t c =
    let there = column_at (way_of c.args.way.now) (column (type_of c.args.dtype.now) (map value_of c.args.values.now)) in
    let few = ap (λ n. nat_le (c.args.times * n) row_limit) c.rows_at.ensures ∙ few_least c.args.times (length there.values) in
    let yes : nat_le (c.args.times * length there.values) row_limit ≡ true = sym few ∙ sym c.few_times.ensures ∙ c.if-few_times.true in
    let s = type_of c.args.items.now in
    c.inner_fit.ensures ∙ sym (counts-few c.args.times s there.values ∙ ap (λ b. b && are_few c.args.times (inner_counts s there.values)) yes)

pub items_fit-returns-else-few_times : goal.items_fit-returns-else-few_times
items_fit-returns-else-few_times t c =
    let there = column_at (way_of c.args.way.now) (column (type_of c.args.dtype.now) (map value_of c.args.values.now)) in
    let few = ap (λ n. nat_le (c.args.times * n) row_limit) c.rows_at.ensures ∙ few_least c.args.times (length there.values) in
    let no : nat_le (c.args.times * length there.values) row_limit ≡ false = sym few ∙ sym c.few_times.ensures ∙ c.if-few_times.false in
    let s = type_of c.args.items.now in
    c.if-few_times.false ∙ sym (counts-few c.args.times s there.values ∙ ap (λ b. b && are_few c.args.times (inner_counts s there.values)) no)
