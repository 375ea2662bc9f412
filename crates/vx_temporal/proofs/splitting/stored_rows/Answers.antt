use Rattle.std.proofs.Common.{◌≡◌, ◌∙◌, true, sym, ap, subst}
use Rattle.std.specs.List.{list_all}
use Rattle.std.proofs.lemmas.List.{map-id}
use Rattle.vx_base.specs.declared.ptype.PType.TheVariants.{I64}
use Rattle.vx_base.specs.Integers.{lies_in}
use Rattle.vx_base.specs.PlainType.{is_integer, nullability_of}
use Rattle.vx_model.specs.TreeType.{tree_type}
use Rattle.vx_model.proofs.PrimitiveLemmas.{encoding-plain}
use Rattle.vx_values.specs.IntsOf.{ptype_of, wholes_of}
use Rattle.vx_temporal.proofs.Storages.{stored}
use Rattle.vx_temporal.proofs.splitting.stored_rows.Goals as goal

pub as_primitive-requires : goal.as_primitive-requires
as_primitive-requires c = encoding-plain c.args.storage.now (ap is_integer c.requires.integers) c.requires.plain

pub returns-clause-rows : goal.returns-clause-rows
returns-clause-rows c =
    let r = c.as_primitive.result in
    let s = stored c.args.storage.now I64 (ptype_of r.0.now) r.2 (nullability_of (tree_type c.args.storage.now)) (wholes_of r.0.now) r.1.now c.requires.integers c.requires.plain c.as_primitive.ensures.tree in
    c.as_slice.ensures ∙ sym (map-id c.in-I64.items) ∙ ap wholes_of (sym c.in-I64.is) ∙ s.1

pub returns-clause-held : goal.returns-clause-held
returns-clause-held c =
    let own = subst (λ v. list_all (lies_in (ptype_of v)) (wholes_of v) ≡ true) c.in-I64.is c.as_primitive.ensures.well_formed.0.held in
    ap (list_all (lies_in I64)) (c.as_slice.ensures ∙ sym (map-id c.in-I64.items)) ∙ own
