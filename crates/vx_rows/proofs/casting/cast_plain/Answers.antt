use Rattle.std.proofs.Common.{subst}
use Rattle.vx_base.specs.PlainType as types
use Rattle.vx_model.specs.Rows.{rows}
use Rattle.vx_model.proofs.PrimitiveLemmas.{encoding-plain}
use Rattle.vx_values.specs.IntsOf.{ptype_of, wholes_of}
use Rattle.vx_rows.specs.Casting.{IsCast}
use Rattle.vx_rows.proofs.HeldLemmas.{primitive-whole}
use Rattle.vx_rows.proofs.casting.cast_plain.Goals as goal

pub as_primitive-requires : goal.as_primitive-requires
as_primitive-requires c = encoding-plain c.args.plain.now c.requires.integer c.requires.plain

pub cast_rows-requires : goal.cast_rows-requires
cast_rows-requires c = let r = c.as_primitive.result in primitive-whole (ptype_of r.0.now) (wholes_of r.0.now) r.1.now r.2 c.as_primitive.ensures.well_formed

pub returns : goal.returns
returns c = subst (λ t. IsCast (types.primitive c.args.ptype c.args.nullability) (rows t) c.cast_rows.result) c.as_primitive.ensures.tree c.cast_rows.ensures
