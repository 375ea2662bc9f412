use Rattle.std.proofs.Common.{◌≤◌, ◌+◌, ◌∙◌, ◌-◌, [], length, map, drop, ap, sym, arith}
use Rattle.std.proofs.lemmas.List.{length-drop, length-take-le, with_items_is}
use Rattle.vx_values.proofs.ZeroBlocks.{held-long, tail-is, written, written-long, block-zeroed}
use Rattle.vx_values.proofs.ints.zeroing.copied_and_zeroed.Goals as goal

pub slice_bounds-zero_beneath-count : goal.slice_bounds-zero_beneath-count
slice_bounds-zero_beneath-count g c =
    let is = c.as_mut_slice.ensures.value ∙ c.in_ok-extend_from_slice.ensures.items in
    let long = held-long g.T.Integer.whole c.loop-start.copy.items c.args.items.now c.args.bits.now c.loop-start.start (omega arith) c.loop-start.invariant c.min.result (omega (arith, c.min.ensures)) c.requires c.as_mut_slice.result.now [] is in
    omega (arith, long)

pub slice_bounds-zero_beneath-start : goal.slice_bounds-zero_beneath-start
slice_bounds-zero_beneath-start g c =
    let is = c.as_mut_slice.ensures.value ∙ c.in_ok-extend_from_slice.ensures.items in
    let long = held-long g.T.Integer.whole c.loop-start.copy.items c.args.items.now c.args.bits.now c.loop-start.start (omega arith) c.loop-start.invariant c.min.result (omega (arith, c.min.ensures)) c.requires c.as_mut_slice.result.now [] is in
    omega (arith, long)

pub zero_beneath-requires : goal.zero_beneath-requires
zero_beneath-requires g c =
    let a = c.loop-start.start in
    let n = c.min.result in
    let is = c.as_mut_slice.ensures.value ∙ c.in_ok-extend_from_slice.ensures.items in
    let tail = tail-is g.T.Integer.whole c.loop-start.copy.items c.args.items.now c.args.bits.now a (omega arith) c.loop-start.invariant n (omega (arith, c.min.ensures)) c.requires c.as_mut_slice.result.now [] is in
    length-take-le (a + n - a) (drop a c.args.bits.now) (omega (arith, length-drop a c.args.bits.now, c.min.ensures, c.requires))
    ∙ sym (ap length tail ∙ length-take-le (a + n - a) (drop a c.args.items.now) (omega (arith, length-drop a c.args.items.now, c.min.ensures)))

pub loop-start-preserved : goal.loop-start-preserved
loop-start-preserved g c =
    let is = c.as_mut_slice.ensures.value ∙ c.in_ok-extend_from_slice.ensures.items in
    let whole = g.T.Integer.whole in
    let copy = c.loop-start.copy.items in
    let items = c.args.items.now in
    let bits = c.args.bits.now in
    let a = c.loop-start.start in
    let n = c.min.result in
    let held = c.as_mut_slice.result.now in
    let new = c.zero_beneath.new.items in
    let before : a ≤ length items = omega arith in
    let room : a + n ≤ length items = omega (arith, c.min.ensures) in
    let long = written-long whole copy items bits a before c.loop-start.invariant n room c.requires held new is c.zero_beneath.ensures in
    ap (map whole) (with_items_is c.extend_from_slice.new.self (written whole copy items bits a before c.loop-start.invariant n room c.requires held new is) (long ∙ c.as_mut_slice.ensures.len))
    ∙ block-zeroed whole copy items bits a before c.loop-start.invariant n room c.requires held new is c.zero_beneath.ensures
