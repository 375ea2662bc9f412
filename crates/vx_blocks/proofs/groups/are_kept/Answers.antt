use Rattle.std.proofs.Common.{◌≡◌, ◌∙◌, sym, refl, arith, length, map}
use Rattle.std.proofs.lemmas.List.{length-map}
use Rattle.vx_base.specs.Integers.{bits_in}
use Rattle.vx_blocks.proofs.Kept.{seen-more, seen-all}
use Rattle.vx_blocks.proofs.Rows.{bits-at}
use Rattle.vx_blocks.proofs.groups.are_kept.Goals as goal

pub loop-i-preserved : goal.loop-i-preserved
loop-i-preserved g c =
    let f = bits_in g.T.Integer.kind in
    let h = g.T.Integer.whole in
    let at = bits-at f h c.args.values.now c.loop-i.i c.index-values-i.result c.to_bits-bits.result (omega arith) c.index-values-i.is c.to_bits-bits.ensures.value in
    seen-more (map f (map h c.args.values.now)) c.args.valid.now c.args.start c.loop-i.i c.loop-i.bits c.to_bits-bits.result c.loop-i.all at c.loop-i.invariant

pub returns-then-all : goal.returns-then-all
returns-then-all g c =
    let f = bits_in g.T.Integer.kind in
    let h = g.T.Integer.whole in
    let bits = map f (map h c.args.values.now) in
    let len : length bits ≡ length c.args.values.now = length-map (map h c.args.values.now) f ∙ length-map c.args.values.now h in
    seen-all g.row.W bits c.args.valid.now c.args.start c.args.end c.loop-i.bits c.loop-i.all (c.requires.same ∙ sym len) (omega (arith, len)) c.if-all.true
    (λ k first last. c.loop-i.invariant k first (omega arith)) _ refl
