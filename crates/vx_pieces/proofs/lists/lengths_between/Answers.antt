use Rattle.std.proofs.Common.{rules, ◌≡◌, ◌-◌, ◌∷◌, ◌++◌, [], ◌∙◌, ap, sym, get_or, arith}
use Rattle.vx_pieces.proofs.LengthLemmas.{lengths-next}
use Rattle.vx_pieces.proofs.lists.lengths_between.Goals as goal

pub loop-place-preserved : goal.loop-place-preserved
loop-place-preserved c =
    let os = c.args.offsets.now in
    let place = c.loop-place.place in
    let gap = get_or os place 0 - get_or os (place - 1) 0 in
    let items : c.push.new.self.items ≡ c.loop-place.lengths.items ++ gap ∷ [] = search rules in
    (omega arith, items ∙ ap (λ ns. ns ++ gap ∷ []) c.loop-place.invariant.1 ∙ sym (lengths-next os place c.loop-place.invariant.0 c.loop-place-test.true))
