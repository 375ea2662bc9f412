use Rattle.std.proofs.Common.{arith, length, ap, ◌∙◌}
use Rattle.vx_base.specs.Packed.{packed_number}
use Rattle.vx_blocks.proofs.Joins.{packed-even, packed-word, packed_number-bytes}
use Rattle.vx_blocks.proofs.filling.finish.Goals as goal
use Rattle.vx_blocks.proofs.filling.finish.Goals.{then-fill-ne0+in_ok-extend_from_slice, else-fill-ne0}

pub returns-clause-number : goal.returns-clause-number
returns-clause-number c number place words h room whole =
    elim c.if-fill-ne0.branch [
      | then-fill-ne0+in_ok-extend_from_slice w ↦
          let made = ap (λ v. v.items) w.out-is ∙ w.in_ok-extend_from_slice.ensures.items in
          let items = rw made at c.in_ok-resize.ensures.items in
          packed-word number place _ w.to_le_bytes.result _ _ _ _ _ h (omega (arith, w.if-fill-ne0.true)) room words whole (ap (packed_number 8) w.to_le_bytes.ensures ∙ packed_number-bytes c.args.acc c.ranges.acc.fits) (ap length w.to_le_bytes.ensures) items
      | else-fill-ne0 w ↦ packed-even number place _ _ _ _ _ _ h w.if-fill-ne0.false room (rw w.out-is at c.in_ok-resize.ensures.items)
    ]
