use Rattle.std.proofs.Common.{refl}
use Rattle.vx_selections.proofs.Compacting.{front_end, front_first, front_next}
use Rattle.vx_selections.proofs.filters.compacting.write_kept.Goals as goal

pub loop-row-init : goal.loop-row-init
loop-row-init g c = front_first c.args.bits.now c.args.items.now c.args.out.now

pub loop-row-preserved : goal.loop-row-preserved
loop-row-preserved g c =
    front_next c.args.bits.now c.args.items.now c.loop-row.row c.loop-row.place _ c.loop-row.out c.index-items-row.result c.requires.same c.requires.room c.loop-row-test.true c.index-items-row.is c.loop-row.invariant _ _ refl
    c.next_place-place.ensures

pub returns : goal.returns
returns g c = front_end c.args.bits.now c.args.items.now c.loop-row.row c.loop-row.place _ c.loop-row.out c.loop-row-test.false c.loop-row.invariant
