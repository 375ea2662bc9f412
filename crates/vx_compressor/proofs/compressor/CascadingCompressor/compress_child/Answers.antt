use Rattle.std.proofs.Common.{◌≡◌, ◌∙◌, refl, sym, ap, subst, arith}
use Rattle.std.proofs.lemmas.Bool.{cond-true, cond-false}
use Rattle.vx_model.specs.Column.{column_of}
use Rattle.vx_model.specs.Extents.{extents_fit}
use Rattle.vx_model.specs.TreeType.{tree_type}
use Rattle.vx_model.proofs.FlatTypeLemmas.{leaf-flat}
use Rattle.vx_scheme.specs.Contexts.{site_of}
use Rattle.vx_scheme.specs.Names.{name_of}
use Rattle.vx_compressor.specs.Cascade.{setting, leaf_tree}
use Rattle.vx_compressor.specs.Reach.{IsInReach, IsPartInReach}
use Rattle.vx_compressor.proofs.CascadeLemmas.{lawful-map}
use Rattle.vx_compressor.proofs.KeptLemmas.{child_of, if_answered}
use Rattle.vx_compressor.proofs.OneValueTrees.{answers_along}
use Rattle.vx_compressor.proofs.TrialLemmas.{reach-below}
use Rattle.vx_compressor.proofs.compressor.CascadingCompressor.compress_child.Goals as goal

pub counted-requires-clause-reach : goal.counted-requires-clause-reach
counted-requires-clause-reach g c =
    let child = column_of c.args.child.now in
    let parent = site_of c.args.parent_ctx.now in
    let room = c.args.parent_ctx.now.room in
    let reach : IsPartInReach child parent.budget = record { few = c.requires.few; within = omega (arith, room) } in
    subst (λ s. IsInReach child s.budget) (sym c.descend-site.ensures.site) (reach-below child parent (name_of c.args.parent_id) c.args.child_index reach (sym c.finished_cascading.ensures ∙ c.if-finished_cascading.false))

-- ---- where no scheme may follow

pub returns-then-finished_cascading-clause-kept : goal.returns-then-finished_cascading-clause-kept
returns-then-finished_cascading-clause-kept g c = if_answered (λ tree. column_of tree ≡ column_of c.args.child.now) c.args.child.now c.copy.result refl c.copy.ensures

pub returns-then-finished_cascading-clause-fits : goal.returns-then-finished_cascading-clause-fits
returns-then-finished_cascading-clause-fits g c = if_answered (λ tree. extents_fit tree ≡ extents_fit c.args.child.now) c.args.child.now c.copy.result refl c.copy.ensures

pub returns-then-finished_cascading-clause-answer : goal.returns-then-finished_cascading-clause-answer
returns-then-finished_cascading-clause-answer g c = answers_along c.copy.result _ _ (sym (cond-true _ _ _ (sym c.finished_cascading.ensures ∙ c.if-finished_cascading.true))) c.copy.ensures

pub returns-clause-answer : goal.returns-clause-answer
returns-clause-answer g c =
    let set = setting g.S.Scheme.meaning c.args.self.now c.args.ctx.now in
    answers_along c.counted.result _ _ (ap (leaf_tree set (column_of c.args.child.now)) c.descend-site.ensures.site ∙ sym (cond-false _ _ _ (sym c.finished_cascading.ensures ∙ c.if-finished_cascading.false))) c.counted.ensures.answer

-- ---- at the child's own site

pub returns-clause-kept : goal.returns-clause-kept
returns-clause-kept g c =
    let set = setting g.S.Scheme.meaning c.args.self.now c.args.ctx.now in
    let child = c.args.child.now in
    let own = column_of child in
    let parent = site_of c.args.parent_ctx.now in
    let room = c.args.parent_ctx.now.room in
    let part : IsPartInReach own parent.budget = record { few = c.requires.few; within = omega (arith, room) } in
    let reach = subst (λ s. IsInReach own s.budget) (sym c.descend-site.ensures.site) (reach-below own parent (name_of c.args.parent_id) c.args.child_index part (sym c.finished_cascading.ensures ∙ c.if-finished_cascading.false)) in
    let made = child_of set (lawful-map g.S.Scheme.meaning g.met.S.Scheme.lawful c.args.self.now) child (site_of c.descend-site.result) c.known.ensures (leaf-flat (tree_type child) c.requires.leaf) reach in
    if_answered (λ tree. column_of tree ≡ own) (leaf_tree set own (site_of c.descend-site.result)) c.counted.result made.column c.counted.ensures.answer

pub returns-clause-fits : goal.returns-clause-fits
returns-clause-fits g c =
    let set = setting g.S.Scheme.meaning c.args.self.now c.args.ctx.now in
    let child = c.args.child.now in
    let own = column_of child in
    let parent = site_of c.args.parent_ctx.now in
    let room = c.args.parent_ctx.now.room in
    let part : IsPartInReach own parent.budget = record { few = c.requires.few; within = omega (arith, room) } in
    let reach = subst (λ s. IsInReach own s.budget) (sym c.descend-site.ensures.site) (reach-below own parent (name_of c.args.parent_id) c.args.child_index part (sym c.finished_cascading.ensures ∙ c.if-finished_cascading.false)) in
    let made = child_of set (lawful-map g.S.Scheme.meaning g.met.S.Scheme.lawful c.args.self.now) child (site_of c.descend-site.result) c.known.ensures (leaf-flat (tree_type child) c.requires.leaf) reach in
    if_answered (λ tree. extents_fit tree ≡ extents_fit child) (leaf_tree set own (site_of c.descend-site.result)) c.counted.result made.extents c.counted.ensures.answer
