use Rattle.std.proofs.Common.{◌∙◌, length, ap, arith}
use Rattle.std.specs.Int.{w64}
use Rattle.std.proofs.lemmas.Int.{to_z-of_z}
use Rattle.std.proofs.lemmas.List.{length-map}
use Rattle.vx_base.specs.PlainValue.{whole_or_zero}
use Rattle.vx_model.specs.Rows.{rows}
use Rattle.vx_model.specs.WellFormed.{are_canonical}
use Rattle.vx_values.specs.IntsOf.{wholes_of}
use Rattle.vx_array.proofs.node.parts_rows.decoded_are_canonical.Goals as goal

pub parts_are_canonical-requires-clause-seconds : goal.parts_are_canonical-requires-clause-seconds
parts_are_canonical-requires-clause-seconds c =
    let a = ap (λ xs. length (wholes_of xs)) c.as_ints-days.ensures ∙ ap length c.in_ok-days.ensures.wholes in
    let b = ap (λ xs. length (wholes_of xs)) c.as_ints-seconds.ensures ∙ ap length c.in_ok-seconds.ensures.wholes in
    omega (arith, a, b, length-map (rows c.args.days.now) whole_or_zero, length-map (rows c.args.seconds.now) whole_or_zero, c.requires.seconds_length)

pub parts_are_canonical-requires-clause-subseconds : goal.parts_are_canonical-requires-clause-subseconds
parts_are_canonical-requires-clause-subseconds c =
    let a = ap (λ xs. length (wholes_of xs)) c.as_ints-days.ensures ∙ ap length c.in_ok-days.ensures.wholes in
    let b = ap (λ xs. length (wholes_of xs)) c.as_ints.ensures ∙ ap length c.in_ok-rest.ensures.wholes in
    omega (arith, a, b, length-map (rows c.args.days.now) whole_or_zero, length-map (rows c.args.subseconds.now) whole_or_zero, c.requires.subseconds_length)

pub returns : goal.returns
returns c =
    let a = ap wholes_of c.as_ints-days.ensures ∙ c.in_ok-days.ensures.wholes in
    let b = ap wholes_of c.as_ints-seconds.ensures ∙ c.in_ok-seconds.ensures.wholes in
    let e = ap wholes_of c.as_ints.ensures ∙ c.in_ok-rest.ensures.wholes in
    c.parts_are_canonical.ensures (rows c.args.days.now) (rows c.args.seconds.now) (rows c.args.subseconds.now) a c.in_ok-days.ensures.bits b e
    ∙ ap (λ d. are_canonical d (rows c.args.days.now) (rows c.args.seconds.now) (rows c.args.subseconds.now)) (to_z-of_z w64 c.args.divisor c.ranges.divisor)
