use Rattle.std.proofs.Common.{map}
use Rattle.std.specs.Vec.Iter.{into_iter_items}
use Rattle.vx_base.specs.Defaults.{default_of}
use Rattle.vx_base.specs.PlainType.{with_nullability}
use Rattle.vx_document.specs.RowsOf.{row_of}
use Rattle.vx_document.proofs.DocumentRows.{SoFar, bits_in}
use Rattle.vx_document.proofs.document.rows.read_rows.Given as goal

abbrev pub invariant-loop-value : goal.invariant-loop-value
invariant-loop-value g l =
    SoFar (row_of (with_nullability g.K.Kind.dtype l.nullability)) (default_of g.K.Kind.dtype) l.nullability l.fn.list.items (map g.K.Kind.seen l.items.items) (bits_in l.valid) (into_iter_items l.value-iterator)
