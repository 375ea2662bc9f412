use Rattle.std.proofs.Common.{◌∙◌, sym, ap, subst}
use Rattle.vx_base.specs.PlainType.{is_timestamp}
use Rattle.vx_model.specs.Cascade.{cascade}
use Rattle.vx_model.specs.Column.{column_of}
use Rattle.vx_model.specs.Plain.{IsPlain}
use Rattle.vx_model.specs.TreeType.{tree_type}
use Rattle.vx_scheme.specs.Contexts.{site_of}
use Rattle.vx_compressor.specs.Cascade.{setting, leaf_tree}
use Rattle.vx_compressor.specs.Reach.{IsInReach}
use Rattle.vx_compressor.proofs.OneValueTrees.{answers_along}
use Rattle.vx_compressor.proofs.TimestampTrees.{flat_stamps}
use Rattle.vx_compressor.proofs.timestamps.stamps_tree.Goals as goal

pub beside_counted-requires-clause-flat : goal.beside_counted-requires-clause-flat
beside_counted-requires-clause-flat g c = flat_stamps (tree_type c.args.plain) c.requires.stamps

pub site_or_storage-requires-clause-stamps : goal.site_or_storage-requires-clause-stamps
site_or_storage-requires-clause-stamps g c = ap (λ t. is_timestamp (tree_type t)) c.in_ok-beside.ensures.answer.1 ∙ c.requires.stamps

pub site_or_storage-requires-clause-plain : goal.site_or_storage-requires-clause-plain
site_or_storage-requires-clause-plain g c = subst IsPlain (sym c.in_ok-beside.ensures.answer.1) c.requires.plain

pub site_or_storage-requires-clause-reach : goal.site_or_storage-requires-clause-reach
site_or_storage-requires-clause-reach g c =
    let budget = ap (λ s. s.budget) c.new-site.ensures.site in
    subst (λ t. IsInReach (column_of t) c.new-site.result.budget) (sym c.in_ok-beside.ensures.answer.1) (subst (IsInReach (column_of c.args.plain)) (sym budget) c.requires.reach)

pub site_or_storage-requires-clause-made : goal.site_or_storage-requires-clause-made
site_or_storage-requires-clause-made g c =
    c.in_ok-beside.ensures.answer.0
    ∙ (λ i. leaf_tree (setting g.S.Scheme.meaning c.args.compressor.now (sym c.in_ok-beside.ensures.ctx i)) (column_of (sym c.in_ok-beside.ensures.answer.1 i)) (site_of c.new-site.result))

pub returns-clause-answer : goal.returns-clause-answer
returns-clause-answer g c =
    let meaning = g.S.Scheme.meaning in
    answers_along c.site_or_storage.result _ _ (λ i. cascade (leaf_tree (setting meaning c.args.compressor.now (c.in_ok-beside.ensures.ctx i))) (column_of (c.in_ok-beside.ensures.answer.1 i))) c.site_or_storage.ensures.answer
