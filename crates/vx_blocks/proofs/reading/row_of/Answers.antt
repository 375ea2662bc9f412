use Rattle.std.proofs.Common.{◌∙◌, arith, sym, ◌+◌}
use Rattle.vx_base.specs.Packed.{packed_number}
use Rattle.vx_blocks.proofs.Windows.{row_from_word, row_in-packed_number, tall-row}
use Rattle.vx_blocks.proofs.reading.row_of.Goals as goal

pub returns-then-shift-width-le64 : goal.returns-then-shift-width-le64
returns-then-shift-width-le64 c row at = c.low_bits.ensures ∙ row_from_word (packed_number 8 c.args.packed.now) c.args.word c.args.byte c.args.shift c.args.width 64 row c.requires.word (omega arith) at

pub returns-else-shift-width-le64 : goal.returns-else-shift-width-le64
returns-else-shift-width-le64 c row at =
    let next = row_in-packed_number 8 c.args.packed.now (c.args.byte + 8) (λ k. (c.type_inv.packed k).fits) (omega arith) in
    c.low_bits-else-shift-width-le64.ensures ∙ tall-row (packed_number 8 c.args.packed.now) c.args.byte _ c.args.shift c.args.width row c.args.word c.requires.word (sym next) c.requires.shift c.requires.width at
