use Rattle.std.proofs.Common.{◌∙◌, ◌+◌, map, arith}
use Rattle.std.proofs.lemmas.List.{length-map}
use Rattle.vx_base.specs.PlainValue.{int}
use Rattle.vx_model.proofs.RunEndLemmas.{end-between}
use Rattle.vx_values.proofs.Placed.{ascending_bits}
use Rattle.vx_values.proofs.patch_rows.patch_row.Goals as goal

pub overflow_sub-result : goal.overflow_sub-result
overflow_sub-result g c =
    let whole = g.C.Integer.whole in
    let xs = c.args.indices.now in
    let is = map int (map whole xs) in
    let bits = c.to_bits.ensures.value ∙ ascending_bits whole g.C.Integer.kind c.args.offset (c.args.offset + c.args.len) xs c.args.place c.index-indices-place.result c.requires.rising c.requires.in_indices c.index-indices-place.is in
    let between = end-between c.args.offset (c.args.offset + c.args.len) is c.args.place c.requires.rising (omega (arith, length-map (map whole xs) int, length-map xs whole)) in
    omega (arith, bits, between.0)

pub returns : goal.returns
returns g c =
    let whole = g.C.Integer.whole in
    let xs = c.args.indices.now in
    let is = map int (map whole xs) in
    let bits = c.to_bits.ensures.value ∙ ascending_bits whole g.C.Integer.kind c.args.offset (c.args.offset + c.args.len) xs c.args.place c.index-indices-place.result c.requires.rising c.requires.in_indices c.index-indices-place.is in
    let between = end-between c.args.offset (c.args.offset + c.args.len) is c.args.place c.requires.rising (omega (arith, length-map (map whole xs) int, length-map xs whole)) in
    record { within = omega (arith, bits, between); row = omega (arith, bits, between) }
