use Rattle.std.proofs.Common.{◌∙◌, sym, arith, map}
use Rattle.vx_base.specs.Integers.{bits_in}
use Rattle.vx_blocks.proofs.Rows.{bits-at}
use Rattle.vx_blocks.proofs.WideRows.{seen-row, seen-narrow}
use Rattle.vx_blocks.proofs.wider.may_be_wide.Goals as goal

pub loop-i-preserved : goal.loop-i-preserved
loop-i-preserved g c =
    let f = bits_in g.T.Integer.kind in
    let h = g.T.Integer.whole in
    let at = bits-at f h c.args.values.now c.loop-i.i c.index-values-i.result c.to_bits-bits.result (omega arith) c.index-values-i.is c.to_bits-bits.ensures.value in
    seen-row (map f (map h c.args.values.now)) c.args.start c.loop-i.i c.loop-i.bits c.to_bits-bits.result at c.loop-i.invariant

pub returns : goal.returns
returns g c none =
    let bits = map (bits_in g.T.Integer.kind) (map g.T.Integer.whole c.args.values.now) in
    seen-narrow bits c.args.width c.args.start c.args.end c.loop-i.bits (λ k first last. c.loop-i.invariant k first (omega arith)) (sym c.is_wide.ensures ∙ none)
