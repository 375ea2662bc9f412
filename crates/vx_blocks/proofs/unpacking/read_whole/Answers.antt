use Rattle.std.proofs.Common.{arith, ℕ, ◌≡◌, ◌<◌, ◌+◌, ◌*◌, min, pos, map, subst}
use Rattle.vx_base.specs.Wrapping.{wrap}
use Rattle.vx_blocks.specs.Appended.{AppendsRows}
use Rattle.vx_blocks.proofs.RowsRead.{appends-none, appends-then}
use Rattle.vx_blocks.proofs.unpacking.read_whole.Goals as goal

pub loop-part-init : goal.loop-part-init
loop-part-init g c =
    let value = λ (n : ℕ). wrap g.T.Integer.kind (pos n) in
    let old = map g.T.Integer.whole c.args.rows.now.items in
    let here : 8 * c.args.first ≡ 8 * min (c.args.first + 32 * 0) c.args.last = omega arith in
    subst (λ n. AppendsRows value c.args.packed.now g.row.W (8 * c.args.first) n old old) here (appends-none value c.args.packed.now g.row.W (8 * c.args.first) old)

pub loop-part-preserved : goal.loop-part-preserved
loop-part-preserved g c =
    let value = λ (n : ℕ). wrap g.T.Integer.kind (pos n) in
    let start = c.args.first + 32 * c.loop-part.part in
    let more : start < c.args.last = omega (arith, c.div_ceil-part-end.ensures) in
    let here : 8 * min start c.args.last ≡ 8 * start = omega arith in
    let next : 8 * min (c.args.first + 32 * (c.loop-part.part + 1)) c.args.last ≡ 8 * (start + c.min.result) = omega (arith, c.min.ensures) in
    rw next (appends-then value c.args.packed.now g.row.W (8 * c.args.first) (8 * start) (8 * (start + c.min.result)) _ _ _ (omega arith) (omega arith) (rw here at c.loop-part.invariant) c.in_ok-read_part.ensures)
