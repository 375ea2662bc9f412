use Rattle.std.proofs.Common.{◌≡◌, ◌∙◌, sym, ap, subst, false}
use Rattle.vx_base.specs.PlainType.{is_timestamp}
use Rattle.vx_model.specs.Cascade.{cascade}
use Rattle.vx_model.specs.Column.{column_of}
use Rattle.vx_model.specs.Site.{max_cascade}
use Rattle.vx_model.specs.TreeType.{tree_type}
use Rattle.vx_model.proofs.LeafLemmas.{cascade-leaf}
use Rattle.vx_model.proofs.MadeLemmas.{rows_fit}
use Rattle.vx_compressor.specs.Cascade.{setting, leaf_tree}
use Rattle.vx_compressor.specs.Reach.{IsInReach}
use Rattle.vx_compressor.proofs.HeldLemmas.{column_of-is, plain-is}
use Rattle.vx_compressor.proofs.OneValueTrees.{answers_along}
use Rattle.vx_compressor.proofs.TimestampTrees.{leaf_type}
use Rattle.vx_compressor.proofs.compressor.flat_tree.Goals as goal

-- ---- timestamps

pub stamps_tree-requires-clause-stamps : goal.stamps_tree-requires-clause-stamps
stamps_tree-requires-clause-stamps g c =
    let here = column_of c.args.array.now in
    let same = column_of-is c.in_ok-plain.plain here (rows_fit c.args.array.now c.known.ensures) c.in_ok-plain.ensures in
    ap (λ d. is_timestamp d.dtype) same ∙ ap is_timestamp (sym c.dtype.ensures) ∙ sym c.is_timestamp.ensures ∙ c.if-is_timestamp.true

pub stamps_tree-requires-clause-plain : goal.stamps_tree-requires-clause-plain
stamps_tree-requires-clause-plain g c = plain-is c.in_ok-plain.plain (column_of c.args.array.now) (rows_fit c.args.array.now c.known.ensures) c.in_ok-plain.ensures

pub stamps_tree-requires-clause-reach : goal.stamps_tree-requires-clause-reach
stamps_tree-requires-clause-reach g c =
    let here = column_of c.args.array.now in
    let same = column_of-is c.in_ok-plain.plain here (rows_fit c.args.array.now c.known.ensures) c.in_ok-plain.ensures in
    subst (λ d. IsInReach d max_cascade) (sym same) c.requires.reach

pub returns-then-is_timestamp-clause-answer : goal.returns-then-is_timestamp-clause-answer
returns-then-is_timestamp-clause-answer g c =
    let leaves = leaf_tree (setting g.S.Scheme.meaning c.args.compressor.now c.args.ctx.now) in
    let here = column_of c.args.array.now in
    let same = column_of-is c.in_ok-plain.plain here (rows_fit c.args.array.now c.known.ensures) c.in_ok-plain.ensures in
    answers_along c.stamps_tree.result _ _ (ap (cascade leaves) same) c.stamps_tree.ensures.answer

-- ---- columns of a leaf type

pub returns-clause-answer : goal.returns-clause-answer
returns-clause-answer g c =
    let leaves = leaf_tree (setting g.S.Scheme.meaning c.args.compressor.now c.args.ctx.now) in
    let here = column_of c.args.array.now in
    let other : is_timestamp (tree_type c.args.array.now) ≡ false = ap is_timestamp (sym c.dtype.ensures) ∙ sym c.is_timestamp.ensures ∙ c.if-is_timestamp.false in
    answers_along c.counted.result _ _ (ap (leaves here) c.new-site.ensures.site ∙ sym (cascade-leaf leaves here (leaf_type here.dtype c.requires.flat other))) c.counted.ensures.answer
