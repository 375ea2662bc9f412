use Rattle.std.proofs.Common.{◌≡◌, ◌∷◌, [], ◌∙◌, ℤ, ap, subst, rules}
use Rattle.std.specs.Int.{w128}
use Rattle.std.specs.Prelude.{FitsSigned}
use Rattle.std.proofs.lemmas.Int.{to_z-of_z}
use Rattle.vx_base.specs.Answers.{Answers}
use Rattle.vx_model.specs.Column.{column_of}
use Rattle.vx_model.specs.Plain.{plain}
use Rattle.vx_model.specs.Tree.{Tree}
use Rattle.vx_scheme.specs.declared.split.Split.TheVariants.{Parts}
use Rattle.vx_schemes.specs.FrameOfReference.Tree.{differences}
use Rattle.vx_examples.specs.SpanFrame.{above_least}
use Rattle.vx_examples.proofs.span_frame.parts.Goals as goal

pub returns : goal.returns
returns c =
    let column = column_of c.args.array.now in
    let less : ℤ → Tree = λ x. plain (differences column x) in
    let fits : FitsSigned w128 c.args.least = search rules in
    let part : c.in_ok-differences.field-0 ≡ plain (above_least column) = c.in_ok-differences.ensures ∙ ap less (to_z-of_z w128 c.args.least fits) ∙ ap less c.requires.least in
    subst (λ tree. Answers c.one_part.result (Parts (tree ∷ []))) part c.one_part.ensures
