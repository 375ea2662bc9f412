use Rattle.std.proofs.Common.{◌≡◌, ◌+◌, ◌-◌, arith, sym, subst, None, Some}
use Rattle.vx_model.specs.Rows.{rows, place_of}
use Rattle.vx_model.specs.WellFormed.{searched}
use Rattle.vx_model.proofs.PatchLemmas.{place-none}
use Rattle.vx_model.proofs.PatchedLemmas.{looks-after, patched-place, patched-fill}
use Rattle.vx_array.proofs.array.Patches.search.Goals as goal

pub returns-in-Found-clause-probes : goal.returns-in-Found-clause-probes
returns-in-Found-clause-probes g c =
    let inv = c.loop-low.invariant in
    (looks-after c.args.steps.now c.loop-low.steps c.tick.new.self c.loop-low.low c.loop-low.high 0 _ inv.rose c.tick.ensures c.loop-low-test.true (omega arith) inv.left).1

pub returns-in-Found-clause-value : goal.returns-in-Found-clause-value
returns-in-Found-clause-value g c fill =
    let p = c.args.self.now in
    let n = p.offset + c.args.row in
    let found : place_of (rows p.indices) n ≡ Some c.in-Found.place = subst (λ n. place_of (rows p.indices) n ≡ Some c.in-Found.place) c.index_at-wanted.ensures c.in-Found.ensures in
    sym (patched-place (rows p.indices) (rows p.values) fill n c.in-Found.place c.known.ensures.2.lengths found)

pub returns-in-Found-clause-looked : goal.returns-in-Found-clause-looked
returns-in-Found-clause-looked g c some = omega (arith, c.loop-low.invariant.rose, c.tick.ensures)

pub loop-low-preserved : goal.loop-low-preserved
loop-low-preserved g c =
    let inv = c.loop-low.invariant in
    let half = c.in-Left.ensures in
    let looks = looks-after c.args.steps.now c.loop-low.steps c.tick.new.self c.loop-low.low c.loop-low.high (c.in-Left.to - c.in-Left.from) (searched c.args.self.now c.args.row) inv.rose c.tick.ensures c.loop-low-test.true half.half inv.left in
    record {
      below = half.none_below inv.below;
      above = half.none_from inv.above;
      order = half.order;
      within = omega (arith, half.before, inv.within);
      rose = omega (arith, inv.rose, c.tick.ensures);
      looked = λ fewer. omega (arith, inv.rose, c.tick.ensures);
      left = looks.0;
      probes = looks.1;
      fewer = inv.fewer;
    }

pub returns-clause-place : goal.returns-clause-place
returns-clause-place g c =
    let p = c.args.self.now in
    let inv = c.loop-low.invariant in
    let met : c.loop-low.high ≡ c.loop-low.low = omega (arith, inv.order, c.loop-low-test.false) in
    let none = place-none (rows p.indices) c.index_at-wanted.result c.loop-low.low inv.below (rw met at inv.above) in
    sym (subst (λ n. place_of (rows p.indices) n ≡ None) c.index_at-wanted.ensures none)

pub returns-clause-value : goal.returns-clause-value
returns-clause-value g c fill =
    let p = c.args.self.now in
    let inv = c.loop-low.invariant in
    let met : c.loop-low.high ≡ c.loop-low.low = omega (arith, inv.order, c.loop-low-test.false) in
    let none = place-none (rows p.indices) c.index_at-wanted.result c.loop-low.low inv.below (rw met at inv.above) in
    sym (patched-fill (rows p.indices) (rows p.values) fill (p.offset + c.args.row) (subst (λ n. place_of (rows p.indices) n ≡ None) c.index_at-wanted.ensures none))

pub returns-clause-looked : goal.returns-clause-looked
returns-clause-looked g c some =
    let inv = c.loop-low.invariant in
    inv.looked (omega (arith, inv.order, c.loop-low-test.false, some))
