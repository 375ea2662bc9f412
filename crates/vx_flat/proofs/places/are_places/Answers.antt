use Rattle.std.proofs.Common.{◌≡◌, ◌∙◌, ◌<◌, ◌/◌, ℕ, pos, length, map, get_or, ap, sym, true, false, arith, FitsSigned, rules}
use Rattle.std.specs.Int.{w128}
use Rattle.std.specs.Prelude.{◌+ℤ◌}
use Rattle.std.proofs.lemmas.Int.{to_z-of_z}
use Rattle.std.proofs.lemmas.List.{get_or-map}
use Rattle.vx_base.specs.PlainValue.{PlainValue, int}
use Rattle.vx_model.specs.WellFormed.{is_place}
use Rattle.vx_flat.specs.RunPlaces.{block_place}
use Rattle.vx_flat.proofs.RunPlaces.{passing-next, passing-fails}
use Rattle.vx_flat.proofs.places.are_places.Goals as goal

pub returns-then-not-is_sum_place : goal.returns-then-not-is_sum_place
returns-then-not-is_sum_place g c =
    let whole = g.T.Integer.whole in
    let xs = c.args.indices.now in
    let i = c.loop-row.row in
    let f : ℕ → PlainValue = λ k. int (block_place c.args.offsets.now (map whole xs) k) in
    let within : i < length xs = omega (arith, c.loop-row-test.true, c.requires.enough) in
    let offset : FitsSigned w128 (get_or c.args.offsets.now (i / 1024) (pos 0)) = search rules in
    let index : FitsSigned w128 c.to_whole.result = search rules in
    let a = to_z-of_z w128 (get_or c.args.offsets.now (i / 1024) (pos 0)) offset in
    let b = to_z-of_z w128 c.to_whole.result index ∙ c.to_whole.ensures.value ∙ ap whole c.index-indices-row.is ∙ sym (get_or-map whole xs i c.index-indices-row.result (pos 0) within) in
    let fails : is_place c.args.values (f i) ≡ false = sym (λ j. is_place c.args.values (int (a j +ℤ b j))) ∙ sym c.is_sum_place.ensures ∙ c.if-not-is_sum_place.true in
    sym (passing-fails (is_place c.args.values) f c.args.len i c.loop-row-test.true fails)

pub loop-row-preserved : goal.loop-row-preserved
loop-row-preserved g c =
    let whole = g.T.Integer.whole in
    let xs = c.args.indices.now in
    let i = c.loop-row.row in
    let f : ℕ → PlainValue = λ k. int (block_place c.args.offsets.now (map whole xs) k) in
    let within : i < length xs = omega (arith, c.loop-row-test.true, c.requires.enough) in
    let offset : FitsSigned w128 (get_or c.args.offsets.now (i / 1024) (pos 0)) = search rules in
    let index : FitsSigned w128 c.to_whole.result = search rules in
    let a = to_z-of_z w128 (get_or c.args.offsets.now (i / 1024) (pos 0)) offset in
    let b = to_z-of_z w128 c.to_whole.result index ∙ c.to_whole.ensures.value ∙ ap whole c.index-indices-row.is ∙ sym (get_or-map whole xs i c.index-indices-row.result (pos 0) within) in
    let holds : is_place c.args.values (f i) ≡ true = sym (λ j. is_place c.args.values (int (a j +ℤ b j))) ∙ sym c.is_sum_place.ensures ∙ c.if-not-is_sum_place.false in
    passing-next (is_place c.args.values) f i c.loop-row.invariant holds
