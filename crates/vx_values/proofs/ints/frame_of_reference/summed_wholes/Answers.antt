use Rattle.std.proofs.Common.{◌≡◌, ◌∙◌, pos, rules}
use Rattle.std.specs.Int.{w128}
use Rattle.std.specs.Prelude.{FitsSigned, ◌+ℤ◌}
use Rattle.std.proofs.lemmas.Int.{to_z-of_z}
use Rattle.vx_base.specs.Wrapping.{wrap}
use Rattle.vx_values.proofs.ints.frame_of_reference.summed_wholes.Goals as goal

pub returns : goal.returns
returns g c =
    let reference : g.T.Integer.whole c.in-Some.reference ≡ c.args.reference = search rules in
    let difference : pos c.in-Ok.difference ≡ c.args.difference = search rules in
    let fits : FitsSigned w128 c.to_whole.result = search rules in
    to_z-of_z w128 c.to_whole.result fits ∙ c.to_whole.ensures.value ∙ c.summed.ensures ∙ (λ i. wrap g.T.Integer.kind (reference i +ℤ difference i))
