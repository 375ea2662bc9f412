use Rattle.std.proofs.Common.{◌∙◌, ap}
use Rattle.vx_model.specs.Column.{column_of}
use Rattle.vx_values.specs.IntsOf.{ptype_of, wholes_of}
use Rattle.vx_rows.proofs.HeldLemmas.{held-accepted, held-made}
use Rattle.vx_rows.proofs.casting.integers.held_rows.Goals as goal

pub primitive_of-requires : goal.primitive_of-requires
primitive_of-requires c =
    held-accepted c.args.ptype c.args.nullability c.args.valid.now (wholes_of c.args.values.now) c.requires.whole c.requires.held
    (ptype_of c.in_ok-items.items) (wholes_of c.in_ok-items.items) c.in_ok-bits.bits c.in_ok-items.ensures.0 c.in_ok-items.ensures.1 c.in_ok-bits.ensures

pub returns : goal.returns
returns c =
    ap column_of c.primitive_of.ensures
    ∙ held-made c.args.ptype c.args.nullability c.args.valid.now (wholes_of c.args.values.now) c.requires.whole c.requires.held
    (ptype_of c.in_ok-items.items) (wholes_of c.in_ok-items.items) c.in_ok-bits.bits c.in_ok-items.ensures.0 c.in_ok-items.ensures.1 c.in_ok-bits.ensures
