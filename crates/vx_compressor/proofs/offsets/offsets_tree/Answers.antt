use Rattle.std.proofs.Common.{◌≡◌, ◌<◌, ◌^◌, ◌∙◌, arith}
use Rattle.vx_model.specs.Cascade.{offsets_site}
use Rattle.vx_model.specs.Site.{down}
use Rattle.vx_scheme.specs.Contexts.{site_of}
use Rattle.vx_compressor.specs.Cascade.{setting, leaf_tree}
use Rattle.vx_compressor.proofs.OneValueTrees.{answers_along}
use Rattle.vx_compressor.proofs.WholeLemmas.{narrowed_by}
use Rattle.vx_compressor.proofs.offsets.offsets_tree.Goals as goal

pub plain_counted-requires-clause-flat : goal.plain_counted-requires-clause-flat
plain_counted-requires-clause-flat g c =
    let low : c.args.end < 2 ^ 64 = omega arith in
    let site = site_of c.descend-site.result in
    let at : site ≡ offsets_site = c.descend-site.ensures.site ∙ (λ i. down (c.new.ensures.site i) (c.of.ensures i) 1) in
    (narrowed_by c.args.end c.args.offsets c.in_ok-narrow.narrow site low c.requires c.in_ok-narrow.ensures at).flat

pub plain_counted-requires-clause-plain : goal.plain_counted-requires-clause-plain
plain_counted-requires-clause-plain g c =
    let low : c.args.end < 2 ^ 64 = omega arith in
    let site = site_of c.descend-site.result in
    let at : site ≡ offsets_site = c.descend-site.ensures.site ∙ (λ i. down (c.new.ensures.site i) (c.of.ensures i) 1) in
    (narrowed_by c.args.end c.args.offsets c.in_ok-narrow.narrow site low c.requires c.in_ok-narrow.ensures at).plain

pub plain_counted-requires-clause-reach : goal.plain_counted-requires-clause-reach
plain_counted-requires-clause-reach g c =
    let low : c.args.end < 2 ^ 64 = omega arith in
    let site = site_of c.descend-site.result in
    let at : site ≡ offsets_site = c.descend-site.ensures.site ∙ (λ i. down (c.new.ensures.site i) (c.of.ensures i) 1) in
    (narrowed_by c.args.end c.args.offsets c.in_ok-narrow.narrow site low c.requires c.in_ok-narrow.ensures at).reach

pub returns-clause-answer : goal.returns-clause-answer
returns-clause-answer g c =
    let set = setting g.S.Scheme.meaning c.args.compressor.now c.args.ctx.now in
    let low : c.args.end < 2 ^ 64 = omega arith in
    let site = site_of c.descend-site.result in
    let at : site ≡ offsets_site = c.descend-site.ensures.site ∙ (λ i. down (c.new.ensures.site i) (c.of.ensures i) 1) in
    let own = narrowed_by c.args.end c.args.offsets c.in_ok-narrow.narrow site low c.requires c.in_ok-narrow.ensures at in
    answers_along c.plain_counted.result _ _ (λ i. leaf_tree set (own.column i) (at i)) c.plain_counted.ensures.answer
