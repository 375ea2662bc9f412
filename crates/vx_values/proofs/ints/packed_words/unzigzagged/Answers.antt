use Rattle.std.proofs.Common.{◌≡◌, ◌∙◌, ◌<◌, ◌+◌, ◌*◌, ℕ, ℤ, pos, map, ap, arith}
use Rattle.std.specs.Prelude.{unsigned_abs}
use Rattle.vx_base.specs.ZigZag.{unzigzag}
use Rattle.vx_values.proofs.BlockGrowth.{grown-all, grown-none}
use Rattle.vx_values.proofs.PackedWords.{some-bytes, words-more}
use Rattle.vx_values.proofs.ints.packed_words.unzigzagged.Goals as goal

pub loop-block-init : goal.loop-block-init
loop-block-init g c = grown-none (pos 0) _ c.args.len g.T.Integer.whole c.in_ok-items.items.items c.in_ok-items.ensures.items

pub unpack_integers-requires-clause-blocks : goal.unpack_integers-requires-clause-blocks
unpack_integers-requires-clause-blocks g c = λ lt. some-bytes c.args.width c.args.len _ _ (omega (arith, c.min.ensures)) c.requires.sized

pub loop-block-preserved : goal.loop-block-preserved
loop-block-preserved g c =
    let start = 1024 * c.loop-block.block in
    let before : start < c.args.len = omega (arith, c.loop-block-test.true, c.div_ceil-block-end.ensures) in
    let own : ℤ → ℤ = λ z. unzigzag (unsigned_abs z) in
    words-more own g.T.Integer.whole g.W.Integer.whole c.args.packed.now c.args.width c.args.len c.loop-block.items.items c.resize.new.self.items c.write_integers.new.items _ c.in_ok-words.words.items c.zero.result start c.min.result _ c.resize.new.self.len (1024 * (c.loop-block.block + 1))
    before c.min.ensures (omega arith) c.loop-block.invariant c.in_ok-words.ensures (c.write_integers.ensures ∙ ap (λ ws. map own (map g.W.Integer.whole ws)) c.as_slice.ensures.value) c.in_ok-resize.ensures.items (λ size. omega (arith, size)) (omega (arith, c.in_ok-resize.ensures.len))

pub returns : goal.returns
returns g c = ap (map g.T.Integer.whole) c.from_vec.ensures ∙ grown-all (pos 0) _ c.args.len _ (1024 * c.loop-block.block) (omega (arith, c.loop-block-test.false, c.div_ceil-block-end.ensures)) c.loop-block.invariant
