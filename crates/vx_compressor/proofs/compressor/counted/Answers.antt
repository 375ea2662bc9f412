use Rattle.std.proofs.Common.{◌≡◌, ◌∙◌, rules, sym, subst, ap}
use Rattle.vx_base.specs.PlainType.{is_flat}
use Rattle.vx_model.specs.Column.{column_of}
use Rattle.vx_model.specs.Plain.{plain, IsPlain}
use Rattle.vx_model.proofs.MadeLemmas.{rows_fit}
use Rattle.vx_scheme.specs.Contexts.{site_of}
use Rattle.vx_compressor.specs.Cascade.{setting, chosen, children_of, leaf_tree}
use Rattle.vx_compressor.specs.Reach.{IsInReach}
use Rattle.vx_compressor.proofs.ByValueLemmas.{decided-here}
use Rattle.vx_compressor.proofs.HeldLemmas.{column_of-is, plain-is}
use Rattle.vx_compressor.proofs.OneValueTrees.{answers_along}
use Rattle.vx_compressor.proofs.compressor.counted.Goals.{then-is_plain+in_ok-tree+in_default+in_ok-plain, else-is_plain+in_ok-plain-2}
use Rattle.vx_compressor.proofs.compressor.counted.Goals as goal

pub plain_counted-requires-clause-flat : goal.plain_counted-requires-clause-flat
plain_counted-requires-clause-flat g c =
    let here = column_of c.args.array.now in
    let fits = rows_fit c.args.array.now c.known.ensures in
    let made : c.if-is_plain.plain ≡ plain here = elim c.if-is_plain.branch [
      | then-is_plain+in_ok-tree+in_default+in_ok-plain w ↦ let own : IsPlain c.args.array.now = search rules in w.plain-is ∙ w.in_ok-plain.ensures ∙ own
      | else-is_plain+in_ok-plain-2 w ↦ w.plain-is ∙ w.in_ok-plain-2.ensures.tree
    ] in
    ap (λ col. is_flat col.dtype) (column_of-is c.if-is_plain.plain here fits made) ∙ c.requires.flat

pub plain_counted-requires-clause-reach : goal.plain_counted-requires-clause-reach
plain_counted-requires-clause-reach g c =
    let here = column_of c.args.array.now in
    let fits = rows_fit c.args.array.now c.known.ensures in
    let made : c.if-is_plain.plain ≡ plain here = elim c.if-is_plain.branch [
      | then-is_plain+in_ok-tree+in_default+in_ok-plain w ↦ let own : IsPlain c.args.array.now = search rules in w.plain-is ∙ w.in_ok-plain.ensures ∙ own
      | else-is_plain+in_ok-plain-2 w ↦ w.plain-is ∙ w.in_ok-plain-2.ensures.tree
    ] in
    subst (λ col. IsInReach col (site_of c.args.site.now).budget) (sym (column_of-is c.if-is_plain.plain here fits made)) c.requires.reach

pub plain_counted-requires-clause-plain : goal.plain_counted-requires-clause-plain
plain_counted-requires-clause-plain g c =
    let here = column_of c.args.array.now in
    let fits = rows_fit c.args.array.now c.known.ensures in
    let made : c.if-is_plain.plain ≡ plain here = elim c.if-is_plain.branch [
      | then-is_plain+in_ok-tree+in_default+in_ok-plain w ↦ let own : IsPlain c.args.array.now = search rules in w.plain-is ∙ w.in_ok-plain.ensures ∙ own
      | else-is_plain+in_ok-plain-2 w ↦ w.plain-is ∙ w.in_ok-plain-2.ensures.tree
    ] in
    plain-is c.if-is_plain.plain here fits made

pub returns-in-Some-clause-answer : goal.returns-in-Some-clause-answer
returns-in-Some-clause-answer g c =
    let set = setting g.S.Scheme.meaning c.args.compressor.now c.args.ctx.now in
    let site = site_of c.args.site.now in
    decided-here c.in_ok-tree.field-0 c.in-Some.tree (column_of c.args.array.now) site c.in_ok-tree.ensures c.in-Some.is (chosen (children_of set site) set)

pub returns-clause-answer : goal.returns-clause-answer
returns-clause-answer g c =
    let here = column_of c.args.array.now in
    let fits = rows_fit c.args.array.now c.known.ensures in
    let made : c.if-is_plain.plain ≡ plain here = elim c.if-is_plain.branch [
      | then-is_plain+in_ok-tree+in_default+in_ok-plain w ↦ let own : IsPlain c.args.array.now = search rules in w.plain-is ∙ w.in_ok-plain.ensures ∙ own
      | else-is_plain+in_ok-plain-2 w ↦ w.plain-is ∙ w.in_ok-plain-2.ensures.tree
    ] in
    let same = column_of-is c.if-is_plain.plain here fits made in
    answers_along c.plain_counted.result _ _ (λ i. leaf_tree (setting g.S.Scheme.meaning c.args.compressor.now c.args.ctx.now) (same i) (site_of c.args.site.now)) c.plain_counted.ensures.answer
