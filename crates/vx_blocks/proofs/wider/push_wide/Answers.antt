use Rattle.std.proofs.Common.{◌∷◌, [], ◌++◌, ◌∙◌, sym, ap, arith}
use Rattle.vx_base.specs.Integers.{bits_in}
use Rattle.vx_blocks.proofs.WideRows.{wide-push, wide-skip}
use Rattle.vx_blocks.proofs.wider.push_wide.Goals as goal
use Rattle.vx_blocks.proofs.wider.push_wide.Goals.{then-is_wide+in_ok-push, else-is_wide}

pub loop-i-preserved : goal.loop-i-preserved
loop-i-preserved g c =
    let f = bits_in g.T.Integer.kind in
    let h = g.T.Integer.whole in
    elim c.if-is_wide.branch [
      | then-is_wide+in_ok-push w ↦
          ap (λ v. v.items) w.rows-is ∙ w.in_ok-push.ensures.items ∙ ap (λ xs. xs ++ c.loop-i.i ∷ []) c.loop-i.invariant
          ∙ sym (wide-push f h c.args.width c.args.values.now c.args.valid.now c.loop-i.i c.index-values-i.result c.to_bits.result (omega arith) c.index-values-i.is c.to_bits.ensures.value (sym c.is_wide.ensures ∙ w.if-is_wide.true))
      | else-is_wide w ↦
          ap (λ v. v.items) w.rows-is ∙ c.loop-i.invariant
          ∙ sym (wide-skip f h c.args.width c.args.values.now c.args.valid.now c.loop-i.i c.index-values-i.result c.to_bits.result (omega arith) c.index-values-i.is c.to_bits.ensures.value (sym c.is_wide.ensures ∙ w.if-is_wide.false))
    ]
