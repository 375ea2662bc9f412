use Rattle.std.proofs.Common.{◌∙◌, ap, rules, FitsSigned}
use Rattle.std.specs.Int.{w128}
use Rattle.std.proofs.lemmas.Int.{to_z-of_z}
use Rattle.vx_base.specs.PlainValue.{int}
use Rattle.vx_model.specs.WellFormed.{is_place}
use Rattle.vx_array.proofs.node.rle_rows.has_place.Goals as goal

pub returns : goal.returns
returns c =
    let fits : FitsSigned w128 c.place_at.result = search rules in
    let same = to_z-of_z w128 c.place_at.result fits in
    c.is_place.ensures ∙ ap (λ z. is_place c.args.values (int z)) same ∙ ap (is_place c.args.values) c.place_at.ensures
