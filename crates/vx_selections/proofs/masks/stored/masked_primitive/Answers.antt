use Rattle.std.proofs.Common.{◌∙◌, ap, length, Some, pos}
use Rattle.vx_base.specs.PlainValue.{int}
use Rattle.vx_values.specs.IntsOf.{ptype_of, wholes_of}
use Rattle.vx_model.specs.Column.{column_of}
use Rattle.vx_model.specs.Refusals.{validity_length}
use Rattle.vx_selections.proofs.Masking.{ints_masked, zeroed_long}
use Rattle.vx_selections.proofs.Validities.{own-length}
use Rattle.vx_selections.proofs.masks.stored.masked_primitive.Goals as goal

pub also-requires : goal.also-requires
also-requires c = ap (validity_length c.args.own.now) c.requires.bits ∙ own-length c.args.own.now (length (wholes_of c.args.values.now)) c.args.nullability c.requires.well.0.validity

pub decoded-requires : goal.decoded-requires
decoded-requires c = ap (λ b. validity_length (Some b) (length (wholes_of c.args.values.now))) c.in_ok-bits.ensures ∙ zeroed_long int (pos 0) c.args.own.now c.args.keep.now (wholes_of c.args.values.now) c.args.nullability c.requires.well.0.validity c.requires.bits

pub primitive_of-requires : goal.primitive_of-requires
primitive_of-requires c = (ints_masked (ptype_of c.args.values.now) (wholes_of c.args.values.now) c.args.own.now c.args.nullability c.args.keep.now (ptype_of c.in_ok-values.values) (wholes_of c.in_ok-values.values) c.in_ok-bits.bits c.requires.well c.requires.bits c.in_ok-bits.ensures c.in_ok-values.ensures.0 c.in_ok-values.ensures.1).accepted

pub returns : goal.returns
returns c = ap column_of c.primitive_of.ensures ∙ (ints_masked (ptype_of c.args.values.now) (wholes_of c.args.values.now) c.args.own.now c.args.nullability c.args.keep.now (ptype_of c.in_ok-values.values) (wholes_of c.in_ok-values.values) c.in_ok-bits.bits c.requires.well c.requires.bits c.in_ok-bits.ensures c.in_ok-values.ensures.0 c.in_ok-values.ensures.1).column
