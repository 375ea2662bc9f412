use Rattle.std.proofs.Common.{◌+◌, arith, refl, sym}
use Rattle.vx_rows.specs.Items.{plain_item}
use Rattle.vx_rows.proofs.SearchLemmas.{refused, taken}
use Rattle.vx_rows.proofs.searching.starts_with.Goals as goal

pub returns-then-not-takes : goal.returns-then-not-takes
returns-then-not-takes g c =
    sym (refused plain_item g.C.Character.code c.args.piece.now c.args.text.now c.loop-place.place _ c.index-text-place.result _ _ c.loop-place-test.true (omega (arith, c.loop-place-test.true, c.requires)) c.index-text-place.is c.takes.ensures c.loop-place.invariant c.if-not-takes.true)

pub loop-place-preserved : goal.loop-place-preserved
loop-place-preserved g c =
    taken plain_item g.C.Character.code c.args.piece.now c.args.text.now c.loop-place.place _ c.index-text-place.result _ _ c.loop-place-test.true (omega (arith, c.loop-place-test.true, c.requires)) c.index-text-place.is c.takes.ensures c.loop-place.invariant
    (c.loop-place.place + 1) refl c.if-not-takes.false
