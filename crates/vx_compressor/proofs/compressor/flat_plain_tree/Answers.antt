use Rattle.std.proofs.Common.{◌≡◌, ◌∙◌, sym, ap, false}
use Rattle.vx_base.specs.PlainType.{is_timestamp}
use Rattle.vx_model.specs.Column.{column_of}
use Rattle.vx_model.specs.TreeType.{tree_type}
use Rattle.vx_model.proofs.LeafLemmas.{cascade-leaf}
use Rattle.vx_compressor.specs.Cascade.{setting, leaf_tree}
use Rattle.vx_compressor.proofs.OneValueTrees.{answers_along}
use Rattle.vx_compressor.proofs.TimestampTrees.{leaf_type}
use Rattle.vx_compressor.proofs.compressor.flat_plain_tree.Goals as goal

pub returns-clause-answer : goal.returns-clause-answer
returns-clause-answer g c =
    let leaves = leaf_tree (setting g.S.Scheme.meaning c.args.compressor.now c.args.ctx.now) in
    let here = column_of c.args.plain in
    let other : is_timestamp (tree_type c.args.plain) ≡ false = ap is_timestamp (sym c.dtype.ensures) ∙ sym c.is_timestamp.ensures ∙ c.if-is_timestamp.false in
    answers_along c.plain_counted.result _ _ (ap (leaves here) c.new-site.ensures.site ∙ sym (cascade-leaf leaves here (leaf_type here.dtype c.requires.flat other))) c.plain_counted.ensures.answer
