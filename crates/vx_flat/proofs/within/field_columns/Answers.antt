use Rattle.std.proofs.Common.{◌≡◌, ◌∙◌, map, rules}
use Rattle.std.specs.Vec.Iter.{into_iter_items}
use Rattle.vx_base.specs.TypeOf.{value_of}
use Rattle.vx_model.specs.Nested.{within}
use Rattle.vx_flat.proofs.ValueLemmas.{columns-none, columns-all, with_rows}
use Rattle.vx_flat.proofs.within.field_columns.Goals as goal

pub loop-value-init : goal.loop-value-init
loop-value-init c =
    let left : into_iter_items c.into_iter-value-iterator.result ≡ c.args.values.items = search rules in
    let none = c.in_ok-columns.ensures ∙ columns-none c.args.count in
    (λ i. with_rows (none i) (map within (map value_of (left i)))) ∙ columns-all c.args.count (map within (map value_of c.args.values.items))
