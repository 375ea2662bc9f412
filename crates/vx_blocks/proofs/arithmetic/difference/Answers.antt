use Rattle.std.proofs.Common.{◌+◌, ◌-◌, ◌%◌, ◌^◌, ◌∙◌}
use Rattle.vx_base.specs.Integers.{bits_of}
use Rattle.vx_base.specs.Wrapping.{from_bits}
use Rattle.vx_blocks.proofs.WrapsAgain.{difference-by_bits}
use Rattle.vx_blocks.proofs.arithmetic.difference.Goals as goal

pub returns : goal.returns
returns g c =
    let kind = g.T.Integer.kind in
    let a = c.to_bits.ensures.value in
    let b = c.to_bits-2.ensures.value in
    c.from_low_bits.ensures ∙ (λ i. from_bits kind ((a i + (2 ^ 64 - b i)) % 2 ^ 64 % 2 ^ bits_of kind)) ∙ difference-by_bits kind _ _ c.to_whole-a.ensures.held c.to_whole-b.ensures.held
