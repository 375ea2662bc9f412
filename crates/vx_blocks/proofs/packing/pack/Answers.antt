use Rattle.std.proofs.Common.{◌∙◌, map}
use Rattle.vx_base.specs.Integers.{bits_in}
use Rattle.vx_base.specs.Packed.{kept_rows}
use Rattle.vx_blocks.proofs.PackedSoFar.{packed-alone}
use Rattle.vx_blocks.proofs.Rows.{packed_size-kept_rows}
use Rattle.vx_blocks.proofs.packing.pack.Goals as goal

pub returns-clause-rows : goal.returns-clause-rows
returns-clause-rows g c =
    let f = bits_in g.T.Integer.kind in
    let h = g.T.Integer.whole in
    let values = c.args.values.now in
    let valid = c.args.valid.now in
    let size = packed_size-kept_rows f h c.args.width values valid c.in-Some.size c.requires.same c.in-Some.ensures in
    packed-alone c.args.width _ c.in_ok-out.out.items (kept_rows c.args.width (map f (map h values)) valid) c.in_ok-out.ensures.items (rw c.as_slice.ensures at c.in_ok-packed.ensures.number) (c.in_ok-packed.ensures.size ∙ size)
