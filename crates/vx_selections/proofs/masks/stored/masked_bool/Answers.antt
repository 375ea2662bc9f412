use Rattle.std.proofs.Common.{◌∙◌, ap, length, Some, false}
use Rattle.vx_base.specs.PlainValue.{truth}
use Rattle.vx_model.specs.Column.{column_of}
use Rattle.vx_model.specs.Refusals.{validity_length}
use Rattle.vx_selections.proofs.Masking.{bool_masked, zeroed_long}
use Rattle.vx_selections.proofs.Validities.{own-length}
use Rattle.vx_selections.proofs.masks.stored.masked_bool.Goals as goal

pub also-requires : goal.also-requires
also-requires c = ap (validity_length c.args.own.now) c.requires.bits ∙ own-length c.args.own.now (length c.args.values.now) c.args.nullability c.requires.well.0

pub decoded-requires : goal.decoded-requires
decoded-requires c = ap (λ b. validity_length (Some b) (length c.args.values.now)) c.in_ok-bits.ensures ∙ zeroed_long truth false c.args.own.now c.args.keep.now c.args.values.now c.args.nullability c.requires.well.0 c.requires.bits

pub bool_of-requires : goal.bool_of-requires
bool_of-requires c = (bool_masked c.args.values.now c.args.own.now c.args.nullability c.args.keep.now c.in_ok-values.values c.in_ok-bits.bits c.requires.well c.requires.bits c.in_ok-bits.ensures c.in_ok-values.ensures).accepted

pub returns : goal.returns
returns c = ap column_of c.bool_of.ensures ∙ (bool_masked c.args.values.now c.args.own.now c.args.nullability c.args.keep.now c.in_ok-values.values c.in_ok-bits.bits c.requires.well c.requires.bits c.in_ok-bits.ensures c.in_ok-values.ensures).column
