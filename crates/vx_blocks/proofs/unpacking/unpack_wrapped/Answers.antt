use Rattle.std.proofs.Common.{ℕ, pos, map, ap, subst}
use Rattle.vx_base.specs.Wrapping.{wrap}
use Rattle.vx_blocks.specs.Appended.{AppendsRows}
use Rattle.vx_blocks.proofs.RowsRead.{appends-alone}
use Rattle.vx_blocks.proofs.unpacking.unpack_wrapped.Goals as goal

pub returns : goal.returns
returns g c =
    let value = λ (n : ℕ). wrap g.T.Integer.kind (pos n) in
    let whole = g.T.Integer.whole in
    let new = map whole c.read_rows.new.rows.items in
    appends-alone value c.args.packed.now c.args.width c.args.start c.args.end new
    (subst (λ old. AppendsRows value c.args.packed.now c.args.width c.args.start c.args.end old new) (ap (map whole) c.in_ok-rows.ensures.items) c.in_ok-read_rows.ensures)
