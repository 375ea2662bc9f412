use Rattle.std.proofs.Common.{◌∙◌, subst}
use Rattle.vx_base.specs.Answers.{OrMemory}
use Rattle.vx_model.specs.Column.{column_of}
use Rattle.vx_scheme.specs.Contexts.{site_of}
use Rattle.vx_compressor.specs.ByValue.{IsBeside}
use Rattle.vx_compressor.specs.Cascade.{setting, leaf_tree}
use Rattle.vx_compressor.proofs.compressor.beside_counted.Goals as goal

pub returns-clause-answer : goal.returns-clause-answer
returns-clause-answer g c =
    let words = c.as_slice.ensures ∙ c.in_ok-words.ensures ∙ c.words.ensures.words in
    subst (λ ws. OrMemory c.site_beside.result (λ made. IsBeside (leaf_tree (setting g.S.Scheme.meaning c.args.compressor.now ws) (column_of c.args.plain) (site_of c.args.site.now)) c.args.plain made.tree made.plain)) words c.site_beside.ensures.answer
