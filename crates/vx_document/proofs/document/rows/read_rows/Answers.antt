use Rattle.vx_base.specs.Defaults.{default_of}
use Rattle.vx_base.specs.PlainType.{with_nullability}
use Rattle.vx_document.specs.RowsOf.{row_of}
use Rattle.vx_document.proofs.DocumentRows.{so_far_row}
use Rattle.vx_document.proofs.document.rows.read_rows.Goals as goal

pub loop-value-preserved : goal.loop-value-preserved
loop-value-preserved g c =
    let l = c.loop-value in
    so_far_row (row_of (with_nullability g.K.Kind.dtype c.args.nullability)) (default_of g.K.Kind.dtype) c.args.nullability g.K.Kind.seen g.met.K.Kind.not_null c.args.list.items l.items.items c.push.new.self.items
    c.item_of.result c.in_ok-row.row c.is_some.result l.valid c.push_bit.new.valid _ _ c.in-Some.value c.in-Some.ensures.steps.0 c.in_ok-row.ensures c.item_of.ensures c.in_ok-push.ensures.items c.is_some.ensures
    c.in_ok-push_bit.ensures l.invariant
