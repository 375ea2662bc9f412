use Rattle.std.proofs.Common.{◌≡◌, ◌∙◌, [], ◌∷◌, None, subst}
use Rattle.vx_base.specs.Answers.{Answers}
use Rattle.vx_base.specs.declared.dtype.Nullability.TheVariants.{NonNullable}
use Rattle.vx_blocks.specs.Deltas.{bases}
use Rattle.vx_model.specs.Column.{column_of}
use Rattle.vx_model.specs.Plain.{plain}
use Rattle.vx_model.specs.Tree.{primitive}
use Rattle.vx_scheme.specs.declared.split.Split.TheVariants.{Parts}
use Rattle.vx_schemes_runs.specs.Delta.Tree.{filled_rows, differences_of, delta_bases, delta_differences}
use Rattle.vx_schemes_runs.proofs.Delta.Blocks.{whole-plain}
use Rattle.vx_schemes_runs.proofs.integer.delta.blocks.delta_parts.Goals as goal

pub returns : goal.returns
returns c =
    let col = column_of c.args.array.now in
    let made = c.in_ok-firsts.ensures in
    let first : c.in_ok-bases.bases ≡ plain (delta_bases col) = cc c.in_ok-bases.ensures ∙ (λ i. primitive (made.bases.0 i) (made.bases.1 i) None NonNullable) ∙ whole-plain col (bases (filled_rows col)) in
    let second : c.in_ok-differences.differences ≡ plain (delta_differences col) = cc c.in_ok-differences.ensures ∙ (λ i. primitive (made.differences.0 i) (made.differences.1 i) None NonNullable) ∙ whole-plain col (differences_of col) in
    subst (Answers c.two_parts.result) (λ i. Parts (first i ∷ second i ∷ [])) c.two_parts.ensures
