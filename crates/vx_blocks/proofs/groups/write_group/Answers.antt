use Rattle.std.proofs.Common.{arith, map, ◌+◌, ◌*◌, refl}
use Rattle.vx_base.specs.Packed.{kept_rows}
use Rattle.vx_base.specs.Integers.{bits_in}
use Rattle.std.proofs.Math.Nat as nat
use Rattle.vx_blocks.proofs.Eights.{next-eight}
use Rattle.vx_blocks.proofs.Rows.{kept_rows-length}
use Rattle.vx_blocks.proofs.groups.write_group.Goals as goal

pub loop-unit-preserved : goal.loop-unit-preserved
loop-unit-preserved g c =
    let f = bits_in g.T.Integer.kind in
    let h = g.T.Integer.whole in
    let rows = kept_rows g.row.W (map f (map h c.args.values.now)) c.args.valid.now in
    let len = kept_rows-length f h g.row.W c.args.values.now c.args.valid.now c.requires.same in
    let below = nat.mul-le-mul_left {m = c.loop-unit.unit} {n = 8} g.row.W (omega arith) in
    next-eight g.row.W rows c.args.start c.loop-unit.unit (g.row.W * c.loop-unit.unit) _ (g.row.W * (c.loop-unit.unit + 1)) c.loop-unit.buffer c.write_either.new.out (omega (arith, len, c.requires.room)) (omega arith) refl
    (omega (arith, below, c.loop-unit.auto.buffer, c.requires.bytes)) (omega (arith, c.write_either.auto.out)) refl c.write_either.ensures c.loop-unit.invariant
