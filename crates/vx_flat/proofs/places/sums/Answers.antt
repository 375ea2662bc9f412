use Rattle.std.proofs.Common.{◌≡◌, ◌∙◌, ◌++◌, ◌∷◌, [], ◌<◌, ◌/◌, ◌^◌, pos, length, map, get_or, ap, sym, subst, arith, FitsSigned, rules}
use Rattle.std.specs.Int.{w128}
use Rattle.std.specs.Prelude.{◌+ℤ◌, ◌≤ℤ◌, ◌<ℤ◌}
use Rattle.std.proofs.lemmas.Int.{to_z-of_z}
use Rattle.std.proofs.lemmas.List.{get_or-map, map-append}
use Rattle.std.proofs.lemmas.List.FromFn.{map-range_with_len_more}
use Rattle.vx_flat.specs.RunPlaces.{block_place}
use Rattle.vx_flat.proofs.places.sums.Goals as goal

pub place-requires : goal.place-requires
place-requires g c =
    let whole = g.T.Integer.whole in
    let xs = c.args.indices.now in
    let i = c.loop-row.row in
    let within : i < length xs = omega (arith, c.loop-row-test.true, c.requires.enough) in
    let offset : FitsSigned w128 (get_or c.args.offsets.now (i / 1024) (pos 0)) = search rules in
    let index : FitsSigned w128 c.to_whole.result = search rules in
    let a = to_z-of_z w128 (get_or c.args.offsets.now (i / 1024) (pos 0)) offset in
    let b = to_z-of_z w128 c.to_whole.result index ∙ c.to_whole.ensures.value ∙ ap whole c.index-indices-row.is ∙ sym (get_or-map whole xs i c.index-indices-row.result (pos 0) within) in
    subst (λ z. (pos 0 ≤ℤ z) × (z <ℤ pos (2 ^ 64))) (sym (λ j. a j +ℤ b j)) (c.requires.held i c.loop-row-test.true)

pub loop-row-preserved : goal.loop-row-preserved
loop-row-preserved g c =
    let whole = g.T.Integer.whole in
    let xs = c.args.indices.now in
    let i = c.loop-row.row in
    let f = block_place c.args.offsets.now (map whole xs) in
    let r = c.place.result in
    let within : i < length xs = omega (arith, c.loop-row-test.true, c.requires.enough) in
    let offset : FitsSigned w128 (get_or c.args.offsets.now (i / 1024) (pos 0)) = search rules in
    let index : FitsSigned w128 c.to_whole.result = search rules in
    let a = to_z-of_z w128 (get_or c.args.offsets.now (i / 1024) (pos 0)) offset in
    let b = to_z-of_z w128 c.to_whole.result index ∙ c.to_whole.ensures.value ∙ ap whole c.index-indices-row.is ∙ sym (get_or-map whole xs i c.index-indices-row.result (pos 0) within) in
    let is : pos r ≡ f i = c.place.ensures ∙ (λ j. a j +ℤ b j) in
    ap (map pos) c.in_ok-push.ensures.items ∙ map-append pos c.loop-row.places.items (r ∷ []) ∙ (λ j. c.loop-row.invariant j ++ is j ∷ []) ∙ sym (map-range_with_len_more f 0 i i (omega arith))
