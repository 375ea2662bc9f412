use Rattle.vx_base.specs.PlainType.{integer_of, nullability_of}
use Rattle.vx_model.specs.TreeType.{tree_type}
use Rattle.vx_model.proofs.PrimitiveLemmas.{encoding-plain}
use Rattle.vx_temporal.proofs.Storages.{stored}
use Rattle.vx_values.specs.IntsOf.{ptype_of, wholes_of}
use Rattle.vx_datetime.proofs.StampTypes.{whole-type}
use Rattle.vx_datetime.proofs.kernels.part_rows.stored.Goals as goal

pub as_primitive-requires : goal.as_primitive-requires
as_primitive-requires c = encoding-plain c.args.column.now c.requires.integers c.requires.plain

pub returns-clause-values : goal.returns-clause-values
returns-clause-values c =
    let r = c.as_primitive.result in
    let t = c.args.column.now in
    (stored t (integer_of (tree_type t)) (ptype_of r.0.now) r.2 (nullability_of (tree_type t)) (wholes_of r.0.now) r.1.now (whole-type (tree_type t) c.requires.integers) c.requires.plain c.as_primitive.ensures.tree).1

pub returns-clause-valid : goal.returns-clause-valid
returns-clause-valid c =
    let r = c.as_primitive.result in
    let t = c.args.column.now in
    (stored t (integer_of (tree_type t)) (ptype_of r.0.now) r.2 (nullability_of (tree_type t)) (wholes_of r.0.now) r.1.now (whole-type (tree_type t) c.requires.integers) c.requires.plain c.as_primitive.ensures.tree).2
