use Rattle.std.proofs.Common.{ℕ, ◌+◌, ◌++◌, ◌∷◌, [], ◌∙◌, sym, arith}
use Rattle.std.proofs.lemmas.List.FromFn.{map-range_with_len_more}
use Rattle.vx_buffers.specs.Given.{bit_at}
use Rattle.vx_buffers.proofs.validity.bits_from.Goals as goal

pub loop-row-preserved : goal.loop-row-preserved
loop-row-preserved c =
    let bit = λ (r : ℕ). bit_at c.args.bytes.now (c.args.offset + r) in
    let row = c.loop-row.row in
    c.in_ok-push.ensures.items ∙ (λ i. c.loop-row.invariant i ++ c.row_bit.ensures i ∷ []) ∙ sym (map-range_with_len_more bit 0 row row (omega arith))
