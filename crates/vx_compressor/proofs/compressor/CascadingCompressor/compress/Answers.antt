use Rattle.std.proofs.Common.{◌≡◌, sym}
use Rattle.vx_model.specs.Cascade.{cascade}
use Rattle.vx_model.specs.Column.{column_of}
use Rattle.vx_compressor.specs.Cascade.{setting, leaf_tree}
use Rattle.vx_compressor.proofs.CascadeLemmas.{lawful-map}
use Rattle.vx_compressor.proofs.KeptLemmas.{column_within, kept_by, fits_by, smaller_by}
use Rattle.vx_compressor.proofs.LimitLemmas.{decided_within}
use Rattle.vx_compressor.proofs.compressor.CascadingCompressor.compress.Goals as goal

pub column_tree-requires : goal.column_tree-requires
column_tree-requires g c = column_within c.args.array.now c.known.ensures (sym c.if-not-extents_fit.ensures)

pub returns-clause-answer : goal.returns-clause-answer
returns-clause-answer g c =
    let leaves = leaf_tree (setting g.S.Scheme.meaning c.args.self.now c.args.ctx.now) in
    decided_within c.args.array.now (λ tree. tree ≡ cascade leaves (column_of c.args.array.now)) c.column_tree.result c.if-not-extents_fit.ensures c.column_tree.ensures.answer

pub returns-clause-kept : goal.returns-clause-kept
returns-clause-kept g c =
    let meaning = g.S.Scheme.meaning in
    let set = setting meaning c.args.self.now c.args.ctx.now in
    kept_by set (lawful-map meaning g.met.S.Scheme.lawful c.args.self.now) c.args.array.now c.column_tree.result c.known.ensures (sym c.if-not-extents_fit.ensures) c.column_tree.ensures.answer

pub returns-clause-fits : goal.returns-clause-fits
returns-clause-fits g c =
    let meaning = g.S.Scheme.meaning in
    let set = setting meaning c.args.self.now c.args.ctx.now in
    fits_by set (lawful-map meaning g.met.S.Scheme.lawful c.args.self.now) c.args.array.now c.column_tree.result c.known.ensures (sym c.if-not-extents_fit.ensures) c.column_tree.ensures.answer

pub returns-clause-smaller : goal.returns-clause-smaller
returns-clause-smaller g c = smaller_by (setting g.S.Scheme.meaning c.args.self.now c.args.ctx.now) (column_of c.args.array.now) c.column_tree.result c.column_tree.ensures.answer
