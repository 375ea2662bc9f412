use Rattle.std.proofs.Common.{◌≡◌, ◌+◌, ◌*◌, ◌∙◌, sym, ap, arith}
use Rattle.vx_base.specs.Integers.{bits_in}
use Rattle.vx_blocks.proofs.WideRows.{wide_before, wide-none}
use Rattle.vx_blocks.proofs.wider.wide_rows_of.Goals as goal
use Rattle.vx_blocks.proofs.wider.wide_rows_of.Goals.{then-may_be_wide+in_ok-push_wide, else-may_be_wide}

pub loop-group-preserved : goal.loop-group-preserved
loop-group-preserved g c =
    let f = bits_in g.T.Integer.kind in
    let h = g.T.Integer.whole in
    let start = 64 * c.loop-group.group in
    let next : start + 64 ≡ 64 * (c.loop-group.group + 1) = omega arith in
    elim c.if-may_be_wide.branch [
      | then-may_be_wide+in_ok-push_wide w ↦
          ap (λ v. v.items) w.rows-is ∙ w.in_ok-push_wide.ensures ∙ ap (wide_before f h c.args.width c.args.values.now c.args.valid.now) next
      | else-may_be_wide w ↦
          ap (λ v. v.items) w.rows-is ∙ c.loop-group.invariant
          ∙ sym (wide-none f h c.args.width c.args.values.now c.args.valid.now start 64 (64 * (c.loop-group.group + 1)) next (λ k from to. c.may_be_wide.ensures w.if-may_be_wide.false k from (omega arith)))
    ]
