use Rattle.std.proofs.Common.{rules, ◌≡◌, ◌+◌, ◌∷◌, ◌++◌, [], ◌∙◌, ap, sym, get_or}
use Rattle.vx_pieces.proofs.LengthLemmas.{end-next, sums-next}
use Rattle.vx_pieces.proofs.lists.sums.Goals as goal

pub loop-length-preserved : goal.loop-length-preserved
loop-length-preserved c =
    let ns = c.args.lengths.now in
    let i = c.loop-length.length-index in
    let before = c.loop-length.invariant in
    let next : c.in_ok-end.end ≡ c.loop-length.end + get_or ns i 0 = search rules in
    let own = next ∙ ap (λ end. end + get_or ns i 0) before.0 in
    (own ∙ sym (end-next 0 ns i c.loop-length-test.true), c.in_ok-push-2.ensures.items ∙ (λ k. before.1 k ++ own k ∷ []) ∙ sym (sums-next 0 ns i c.loop-length-test.true))
