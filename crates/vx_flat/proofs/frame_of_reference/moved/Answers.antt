use Rattle.std.proofs.Common.{◌≡◌, ◌∙◌, map, ap, subst, rules}
use Rattle.std.specs.Int.{w128}
use Rattle.std.specs.Prelude.{FitsSigned, ◌+ℤ◌}
use Rattle.std.proofs.lemmas.Int.{to_z-of_z}
use Rattle.vx_base.specs.Answers.{OrMemory}
use Rattle.vx_base.specs.PlainType.{integer_of}
use Rattle.vx_base.specs.PlainValue.{whole_or_zero}
use Rattle.vx_base.specs.Wrapping.{wrap}
use Rattle.vx_values.specs.IntsOf.{ptype_of, wholes_of}
use Rattle.vx_flat.proofs.frame_of_reference.moved.Goals as goal

pub returns : goal.returns
returns c =
    let differences = wholes_of c.args.differences.now in
    let kind = c.ptype.ensures ∙ ap integer_of c.dtype.ensures in
    let whole = ap whole_or_zero c.in-Some.ensures in
    let fits : FitsSigned w128 c.in-Some.whole = search rules in
    let answers = rw (to_z-of_z w128 c.in-Some.whole fits) at c.moved.ensures in
    subst (λ p. OrMemory c.moved.result (λ ints. (ptype_of ints ≡ p) × (wholes_of ints ≡ map (λ z. wrap p (whole_or_zero c.args.reference.now.value +ℤ z)) differences))) kind
    (subst (λ r. OrMemory c.moved.result (λ ints. (ptype_of ints ≡ c.ptype.result) × (wholes_of ints ≡ map (λ z. wrap c.ptype.result (r +ℤ z)) differences))) whole answers)
