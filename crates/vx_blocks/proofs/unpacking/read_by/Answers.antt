use Rattle.std.proofs.Common.{ℕ, ◌*◌, pos, arith}
use Rattle.vx_base.specs.Wrapping.{wrap}
use Rattle.vx_blocks.proofs.RowsRead.{appends-then}
use Rattle.vx_blocks.proofs.unpacking.read_by.Goals as goal

pub returns : goal.returns
returns g c =
    let value = λ (n : ℕ). wrap g.T.Integer.kind (pos n) in
    let packed = c.args.packed.now in
    let start = c.args.start in
    let first = 8 * c.in-Some.first in
    let last = 8 * c.in-Some.last in
    let order = c.in-Some.ensures in
    appends-then value packed g.row.W start last c.args.end _ _ _ (omega (arith, order.first, order.order)) (omega (arith, order.last))
    (appends-then value packed g.row.W start first last _ _ _ (omega (arith, order.first)) (omega (arith, order.order)) c.in_ok-read_each.ensures c.in_ok-read_whole.ensures) c.in_ok-read_each-2.ensures
