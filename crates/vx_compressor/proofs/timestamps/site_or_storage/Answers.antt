use Rattle.std.proofs.Common.{◌≡◌, ◌∙◌, sym, ap, rules, false}
use Rattle.std.specs.Prelude.{unwrap_or}
use Rattle.vx_model.specs.Cascade.{is_one_value}
use Rattle.vx_model.specs.Column.{column_of}
use Rattle.vx_model.specs.Nodes.{encoding}
use Rattle.vx_model.specs.Plain.{plain, IsPlain}
use Rattle.vx_model.specs.Tree.{timestamp}
use Rattle.vx_model.proofs.MadeLemmas.{rows_fit}
use Rattle.vx_scheme.specs.Contexts.{site_of}
use Rattle.vx_compressor.specs.Cascade.{setting, leaf_tree}
use Rattle.vx_compressor.proofs.CascadeLemmas.{lawful-map, leaf_tree-stands}
use Rattle.vx_compressor.proofs.OneValueTrees.{answers_along}
use Rattle.vx_compressor.proofs.TimestampTrees.{root-stamps, many-stamps, flat_stamps, own_storage, site-one, site-plain, site-smaller, no_test}
use Rattle.vx_compressor.proofs.timestamps.site_or_storage.Goals as goal

-- ---- the plain tree alone stands at the site

pub into_storage-storage-requires : goal.into_storage-storage-requires
into_storage-storage-requires g c = ap encoding c.requires.plain ∙ root-stamps (column_of c.args.beside.plain) c.requires.stamps

pub storage_tree-requires-clause-flat : goal.storage_tree-requires-clause-flat
storage_tree-requires-clause-flat g c =
    let parts = c.into_storage-storage in
    (own_storage (column_of c.args.beside.plain) (site_of c.args.site.now) parts.result.0 parts.result.1 c.requires.stamps (rows_fit c.args.beside.plain c.known.ensures) c.requires.reach (parts.ensures ∙ c.requires.plain)).flat

pub storage_tree-requires-clause-plain : goal.storage_tree-requires-clause-plain
storage_tree-requires-clause-plain g c =
    let parts = c.into_storage-storage in
    (own_storage (column_of c.args.beside.plain) (site_of c.args.site.now) parts.result.0 parts.result.1 c.requires.stamps (rows_fit c.args.beside.plain c.known.ensures) c.requires.reach (parts.ensures ∙ c.requires.plain)).plain

pub storage_tree-requires-clause-whole : goal.storage_tree-requires-clause-whole
storage_tree-requires-clause-whole g c =
    let parts = c.into_storage-storage in
    (own_storage (column_of c.args.beside.plain) (site_of c.args.site.now) parts.result.0 parts.result.1 c.requires.stamps (rows_fit c.args.beside.plain c.known.ensures) c.requires.reach (parts.ensures ∙ c.requires.plain)).whole

pub storage_tree-requires-clause-reach : goal.storage_tree-requires-clause-reach
storage_tree-requires-clause-reach g c =
    let parts = c.into_storage-storage in
    (own_storage (column_of c.args.beside.plain) (site_of c.args.site.now) parts.result.0 parts.result.1 c.requires.stamps (rows_fit c.args.beside.plain c.known.ensures) c.requires.reach (parts.ensures ∙ c.requires.plain)).reach

pub returns-in_default-clause-answer : goal.returns-in_default-clause-answer
returns-in_default-clause-answer g c =
    let leaves = leaf_tree (setting g.S.Scheme.meaning c.args.compressor.now c.args.ctx.now) in
    let made = c.args.beside.plain in
    let here = column_of made in
    let site = site_of c.args.site.now in
    let parts = c.into_storage-storage in
    let beneath : timestamp parts.result.0 parts.result.1 ≡ plain here = parts.ensures ∙ c.requires.plain in
    let storage = own_storage here site parts.result.0 parts.result.1 c.requires.stamps (rows_fit made c.known.ensures) c.requires.reach beneath in
    let is : made ≡ leaves here site = sym (ap (λ t. unwrap_or t made) c.in_default.is) ∙ c.requires.made in
    let many : is_one_value made ≡ false = ap is_one_value c.requires.plain ∙ many-stamps here c.requires.stamps in
    answers_along c.storage_tree.result _ _ (site-plain leaves here site made c.requires.fresh is c.requires.stamps parts.result.0 parts.result.1 beneath storage.column many c.requires.plain) c.storage_tree.ensures.answer

-- ---- another tree

pub returns-then-is_one_value-clause-answer : goal.returns-then-is_one_value-clause-answer
returns-then-is_one_value-clause-answer g c =
    let leaves = leaf_tree (setting g.S.Scheme.meaning c.args.compressor.now c.args.ctx.now) in
    let is = sym (ap (λ t. unwrap_or t c.args.beside.plain) c.in-Some.is) ∙ c.requires.made in
    site-one leaves (column_of c.args.beside.plain) (site_of c.args.site.now) c.in-Some.made c.requires.fresh is c.requires.stamps (sym c.is_one_value.ensures ∙ c.if-is_one_value.true)

pub returns-then-is_plain-clause-answer : goal.returns-then-is_plain-clause-answer
returns-then-is_plain-clause-answer g c =
    let meaning = g.S.Scheme.meaning in
    let set = setting meaning c.args.compressor.now c.args.ctx.now in
    let leaves = leaf_tree set in
    let here = column_of c.args.beside.plain in
    let site = site_of c.args.site.now in
    let parts = c.into_storage-storage-2 in
    let beneath : timestamp parts.result.0 parts.result.1 ≡ plain here = parts.ensures ∙ c.requires.plain in
    let fit = rows_fit c.args.beside.plain c.known.ensures in
    let storage = own_storage here site parts.result.0 parts.result.1 c.requires.stamps fit c.requires.reach beneath in
    let is : c.in-Some.made ≡ leaves here site = sym (ap (λ t. unwrap_or t c.args.beside.plain) c.in-Some.is) ∙ c.requires.made in
    let column : column_of c.in-Some.made ≡ here = ap column_of is ∙ (leaf_tree-stands set (lawful-map meaning g.met.S.Scheme.lawful c.args.compressor.now) here site fit (flat_stamps here.dtype c.requires.stamps) c.requires.reach).1 in
    let own : IsPlain c.in-Some.made = search rules in
    c.in_ok-other.ensures.answer
    ∙ site-plain leaves here site c.in-Some.made c.requires.fresh is c.requires.stamps parts.result.0 parts.result.1 beneath storage.column (sym c.is_one_value.ensures ∙ c.if-is_one_value.false)
    (own ∙ ap plain column)

pub returns-clause-answer : goal.returns-clause-answer
returns-clause-answer g c =
    let leaves = leaf_tree (setting g.S.Scheme.meaning c.args.compressor.now c.args.ctx.now) in
    let here = column_of c.args.beside.plain in
    let site = site_of c.args.site.now in
    let parts = c.into_storage-storage-2 in
    let beneath : timestamp parts.result.0 parts.result.1 ≡ plain here = parts.ensures ∙ c.requires.plain in
    let fit = rows_fit c.args.beside.plain c.known.ensures in
    let storage = own_storage here site parts.result.0 parts.result.1 c.requires.stamps fit c.requires.reach beneath in
    let is = sym (ap (λ t. unwrap_or t c.args.beside.plain) c.in-Some.is) ∙ c.requires.made in
    c.smaller_of.ensures
    ∙ site-smaller leaves here site c.in-Some.made c.requires.fresh is c.requires.stamps parts.result.0 parts.result.1 beneath storage.column (sym c.is_one_value.ensures ∙ c.if-is_one_value.false)
    c.in_ok-other.other fit (λ p. no_test _ _ c.is_plain-is_plain.ensures c.if-is_plain.false p) c.in_ok-other.ensures.answer
