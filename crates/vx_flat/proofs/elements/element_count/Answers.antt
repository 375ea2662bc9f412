use Rattle.std.proofs.Common.{arith, ◌≡◌, ◌∙◌, sym, ap, length}
use Rattle.std.proofs.lemmas.List.{length-map}
use Rattle.vx_base.specs.PlainValue.{items_or_empty}
use Rattle.vx_base.specs.TypeOf.{value_of}
use Rattle.vx_flat.proofs.ByteLists.{length-taken}
use Rattle.vx_flat.proofs.elements.element_count.Goals as goal

pub loop-list-preserved : goal.loop-list-preserved
loop-list-preserved c =
    let v = c.list-item.result in
    let step = length-taken c.args.lists.now c.loop-list.list-index v (omega arith) c.list-item.is in
    let own : length c.values_of.result.now ≡ length (items_or_empty (value_of v)) = sym (length-map c.values_of.result.now value_of) ∙ ap length c.values_of.ensures in
    omega (arith, c.loop-list.invariant, c.saturating_add-count.ensures, own, step)
