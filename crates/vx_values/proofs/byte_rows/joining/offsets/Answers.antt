use Rattle.std.proofs.Common.{◌≡◌, ◌+◌, ◌∙◌, ◌++◌, ◌∷◌, [], ◌<◌, ◌^◌, ap, subst, sym, length, take, arith}
use Rattle.std.specs.Option.{SomeIff}
use Rattle.std.proofs.lemmas.List.{length-append}
use Rattle.vx_model.proofs.JoinedLemmas.{concatenated-next, offsets_of-next}
use Rattle.vx_model.specs.Nested.{concatenated}
use Rattle.vx_values.proofs.byte_rows.joining.offsets.Goals as goal

pub loop-row-preserved : goal.loop-row-preserved
loop-row-preserved c =
    let rows = c.as_slice-row-items.result.now in
    let row = c.row-item.result in
    let i = c.loop-row.row-index in
    let before = concatenated (take i rows) in
    let sum = subst (λ o. SomeIff o (c.loop-row.end + c.len.result < 2 ^ 64) (c.loop-row.end + c.len.result)) c.in_ok-end.ensures.ok_part c.checked_add.ensures in
    let end : c.in_ok-end.end ≡ length before + length row = sum.1 ∙ (λ k. c.loop-row.invariant.1 k + c.len.ensures k) in
    let next = ap length (concatenated-next rows i row (omega arith) c.row-item.is) ∙ length-append before row in
    let more = offsets_of-next rows i row (omega arith) c.row-item.is in
    (c.in_ok-push-2.ensures.items ∙ (λ k. c.loop-row.invariant.0 k ++ end k ∷ []) ∙ sym more, end ∙ sym next)
