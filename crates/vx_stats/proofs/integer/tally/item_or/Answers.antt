use Rattle.std.proofs.Common.{◌∙◌, ap}
use Rattle.std.specs.Prelude.{◌+◌, ◌-◌, ◌%◌, ◌^◌, bit_and, bit_xor}
use Rattle.vx_base.specs.Integers.{bits_of}
use Rattle.vx_base.specs.Wrapping.{from_bits}
use Rattle.vx_stats.proofs.PickLemmas.{picked}
use Rattle.vx_stats.proofs.integer.tally.item_or.Goals as goal

pub returns : goal.returns
returns g c =
    let kind = g.T.Integer.kind in
    let a = c.to_bits-bits.result in
    let b = c.to_bits.result in
    c.from_low_bits.ensures
    ∙ ap (λ n. from_bits kind (bit_xor a (bit_and (bit_xor a b) ((0 + (2 ^ 64 - n)) % 2 ^ 64)) % 2 ^ bits_of kind)) c.from-mask.ensures
    ∙ picked kind c.args.bit (g.T.Integer.whole c.args.item) (g.T.Integer.whole c.args.other) a b c.to_bits-bits.ensures.value c.to_bits.ensures.value c.to_bits-bits.type_inv c.to_bits.type_inv c.to_whole-item.ensures.held c.to_whole-other.ensures.held
