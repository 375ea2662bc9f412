use Rattle.std.proofs.Common.{◌∙◌, ap, arith, rules, Some}
use Rattle.std.specs.Int.{w128}
use Rattle.std.specs.Prelude.{FitsSigned}
use Rattle.std.proofs.lemmas.Int.{to_z-of_z}
use Rattle.vx_base.specs.PlainValue.{int}
use Rattle.vx_model.proofs.OneValueLemmas.{first_valid-found, first_valid-nulls}
use Rattle.vx_values.proofs.Cells.{length-rows_of}
use Rattle.vx_values.proofs.ints.one_value.first_valid.Goals as goal

pub returns-in-Some : goal.returns-in-Some
returns-in-Some g c =
    let fits : FitsSigned w128 c.in-Some.whole = search rules in
    let long = length-rows_of g.T.Integer.whole c.args.items.now c.args.valid.now c.requires in
    ap (λ z. Some (int z)) (to_z-of_z w128 c.in-Some.whole fits)
    ∙ first_valid-found _ c.loop-row.row c.in-Some.whole (omega (arith, long)) c.loop-row.invariant c.in-Some.ensures

pub returns : goal.returns
returns g c =
    let long = length-rows_of g.T.Integer.whole c.args.items.now c.args.valid.now c.requires in
    first_valid-nulls _ c.loop-row.row (omega (arith, long)) c.loop-row.invariant
