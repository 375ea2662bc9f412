use Rattle.std.proofs.Common.{◌∙◌, sym, ap}
use Rattle.vx_base.specs.PlainType.{is_flat}
use Rattle.vx_model.specs.Cascade.{cascade}
use Rattle.vx_model.specs.Column.{column_of}
use Rattle.vx_compressor.specs.Cascade.{setting, leaf_tree}
use Rattle.vx_compressor.proofs.LimitLemmas.{reach_within}
use Rattle.vx_compressor.proofs.OneValueTrees.{answers_along}
use Rattle.vx_compressor.proofs.WholeLemmas.{whole_by}
use Rattle.vx_compressor.proofs.nested.column_tree.Goals as goal

pub flat_tree-requires-clause-flat : goal.flat_tree-requires-clause-flat
flat_tree-requires-clause-flat g c = ap is_flat (sym c.dtype.ensures) ∙ sym c.is_flat.ensures ∙ c.if-is_flat.true

pub flat_tree-requires-clause-reach : goal.flat_tree-requires-clause-reach
flat_tree-requires-clause-reach g c = reach_within (column_of c.args.array.now) c.requires

pub plain_tree-requires : goal.plain_tree-requires
plain_tree-requires g c = (whole_by (column_of c.args.array.now) c.in_ok-plain.plain c.requires c.in_ok-plain.ensures).whole

pub returns-clause-answer : goal.returns-clause-answer
returns-clause-answer g c =
    let leaves = leaf_tree (setting g.S.Scheme.meaning c.args.compressor.now c.args.ctx.now) in
    answers_along c.plain_tree.result _ _ (ap (cascade leaves) (whole_by (column_of c.args.array.now) c.in_ok-plain.plain c.requires c.in_ok-plain.ensures).column) c.plain_tree.ensures.answer
