use Rattle.std.proofs.Common.{◌∙◌}
use Rattle.vx_model.specs.Column.{column_of}
use Rattle.vx_scheme.specs.Contexts.{site_of}
use Rattle.vx_compressor.specs.Cascade.{setting, leaf_tree}
use Rattle.vx_compressor.proofs.OneValueTrees.{answers_along}
use Rattle.vx_compressor.proofs.compressor.plain_counted.Goals as goal

pub returns-clause-answer : goal.returns-clause-answer
returns-clause-answer g c =
    let words = c.as_slice.ensures ∙ c.in_ok-words.ensures ∙ c.words.ensures.words in
    answers_along c.site_tree.result _ _ (λ i. leaf_tree (setting g.S.Scheme.meaning c.args.compressor.now (words i)) (column_of c.args.plain) (site_of c.args.site.now)) c.site_tree.ensures.answer
