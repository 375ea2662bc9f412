use Rattle.std.proofs.Common.{◌∙◌, true, subst}
use Rattle.vx_base.specs.Answers.{Answers}
use Rattle.vx_model.specs.Column.{column_of}
use Rattle.vx_model.specs.Tree.{Tree}
use Rattle.vx_scheme.specs.Meaning.{split_of}
use Rattle.vx_schemes_common.specs.OnePart.{part_where}
use Rattle.vx_examples.specs.SpanFrame.{above_least}
use Rattle.vx_examples.proofs.span_frame.SpanFrameScheme.split.Goals as goal

pub returns-clause-answer : goal.returns-clause-answer
returns-clause-answer g c = λ taken.
    subst (λ (t : Tree). Answers c.parts.result (split_of (part_where true (above_least (column_of t))))) (c.array-2.ensures.array ∙ c.in_ok-least.ensures.column.array) c.parts.ensures
