use Rattle.std.proofs.Common.{◌∙◌, ap}
use Rattle.vx_model.specs.Column.{column_of}
use Rattle.vx_scheme.specs.Meaning.{split_of}
use Rattle.vx_schemes.specs.BitPacking.Tree.{bit_packing_made}
use Rattle.vx_schemes_common.specs.Finishing.{finished_or_kept}
use Rattle.vx_schemes.proofs.integer.bit_packing.BitPackingSchemeScheme.split.Goals as goal

pub returns-clause-answer : goal.returns-clause-answer
returns-clause-answer g c = λ taken.
    c.finished_or_kept.ensures
    ∙ ap (λ made. split_of (finished_or_kept made)) (c.in_ok-bit_packing_tree.ensures.answer ∙ ap (λ t. bit_packing_made (column_of t)) (c.array-2.ensures.array ∙ c.in_ok-has_negative.ensures.column.array))
