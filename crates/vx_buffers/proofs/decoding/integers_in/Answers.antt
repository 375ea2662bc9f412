use Rattle.std.proofs.Common.{◌∙◌, sym, ap}
use Rattle.vx_buffers.proofs.PlainRows.{has_integers, primitive_root}
use Rattle.vx_buffers.specs.Decoded.{is_of}
use Rattle.vx_buffers.proofs.decoding.integers_in.Goals as goal

pub as_primitive-requires : goal.as_primitive-requires
as_primitive-requires c = primitive_root c.args.ptype c.args.plain.now c.requires (ap (is_of c.args.ptype) (sym c.dtype.ensures) ∙ sym c.is_of.ensures ∙ c.if-not-is_of.false)

pub returns : goal.returns
returns c = has_integers c.args.ptype c.args.plain.now _ _ _ c.requires (ap (is_of c.args.ptype) (sym c.dtype.ensures) ∙ sym c.is_of.ensures ∙ c.if-not-is_of.false) c.as_primitive.ensures.tree
