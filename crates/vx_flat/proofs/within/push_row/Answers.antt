use Rattle.std.proofs.Common.{arith, map, ◌∙◌}
use Rattle.std.specs.Vec.Iter.{into_iter_items}
use Rattle.std.proofs.lemmas.List.{length-set}
use Rattle.vx_base.specs.PlainValue.{of_list}
use Rattle.vx_base.specs.TypeOf.{value_of}
use Rattle.vx_flat.proofs.ValueLemmas.{row-pushed}
use Rattle.vx_flat.proofs.within.push_row.Goals as goal

pub loop-place-preserved : goal.loop-place-preserved
loop-place-preserved c =
    let l = c.loop-place in
    let row = of_list (map value_of (into_iter_items l.values)) in
    let next = of_list (map value_of (into_iter_items c.next_or_null.new.values)) in
    record {
      pushed =
          row-pushed l.columns.items (λ column. column.items) l.place c.index_mut.result.now c.push.new.self c.next_or_null.result row next _ (omega arith) c.index_mut.ensures.value c.in_ok-push.ensures.items c.next_or_null.ensures.first
          c.next_or_null.ensures.rest l.invariant.pushed;
      length = length-set l.columns.items l.place c.push.new.self ∙ l.invariant.length;
    }
