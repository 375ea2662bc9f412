use Rattle.std.proofs.Common.{◌∙◌, sym, ap}
use Rattle.std.proofs.lemmas.List.{map-id}
use Rattle.vx_base.specs.declared.ptype.PType.TheVariants.{I32}
use Rattle.vx_base.specs.PlainType.{nullability_of}
use Rattle.vx_model.specs.TreeType.{tree_type}
use Rattle.vx_values.specs.IntsOf.{ptype_of, wholes_of}
use Rattle.vx_temporal.proofs.Storages.{stored}
use Rattle.vx_schemes_time.proofs.StoredLemmas.{stored-root}
use Rattle.vx_schemes_time.proofs.temporal.narrowing.stored_rows.Goals as goal

pub as_primitive-requires : goal.as_primitive-requires
as_primitive-requires c = stored-root c.args.part.now c.requires

pub returns : goal.returns
returns c =
    let r = c.as_primitive.result in
    let t = c.args.part.now in
    let s = stored t I32 (ptype_of r.0.now) r.2 (nullability_of (tree_type t)) (wholes_of r.0.now) r.1.now c.requires.integers c.requires.own c.as_primitive.ensures.tree in
    c.as_slice.ensures ∙ sym (map-id c.in-I32.items) ∙ ap wholes_of (sym c.in-I32.is) ∙ s.1
