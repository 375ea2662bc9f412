use Rattle.std.proofs.Common.{◌≡◌, ◌∙◌, ◌+◌, ◌*◌, ◌%◌, ◌^◌, ap, of_z}
use Rattle.std.specs.Int.{w64, w128}
use Rattle.std.proofs.lemmas.Int.{to_z-of_z}
use Rattle.vx_base.specs.Integers.{bits_of}
use Rattle.vx_base.specs.Wrapping.{from_bits, low_bits}
use Rattle.vx_base.specs.declared.ptype.PType.TheVariants.{I64}
use Rattle.vx_values.proofs.WrappedSums.{plus-product}
use Rattle.vx_values.proofs.ints.combining.plus_product.Goals as goal

pub returns : goal.returns
returns g c =
    let word : c.low_word.result ≡ low_bits I64 c.args.whole = c.low_word.ensures ∙ ap (low_bits I64) (to_z-of_z w128 c.args.whole c.ranges.whole) in
    let factor : c.cast_unsigned.result ≡ of_z w64 c.args.factor = c.cast_unsigned.ensures ∙ ap (of_z w64) (to_z-of_z w64 c.args.factor c.ranges.factor) in
    let bits = c.to_bits.ensures.value in
    c.from_low_bits.ensures ∙ (λ i. from_bits g.S.Integer.kind ((bits i + word i * factor i % 2 ^ 64) % 2 ^ 64 % 2 ^ bits_of g.S.Integer.kind))
    ∙ plus-product g.S.Integer.kind (g.S.Integer.whole c.args.sum) c.args.whole c.args.factor c.requires c.to_whole-sum.ensures.held c.ranges.factor
