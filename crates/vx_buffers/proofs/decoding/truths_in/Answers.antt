use Rattle.std.proofs.Common.{◌∙◌, sym, ap}
use Rattle.vx_buffers.proofs.PlainRows.{bool_root, has_truths}
use Rattle.vx_buffers.specs.Decoded.{is_bool}
use Rattle.vx_buffers.proofs.decoding.truths_in.Goals as goal

pub truth_parts-requires : goal.truth_parts-requires
truth_parts-requires c = bool_root c.args.plain.now c.requires (ap is_bool (sym c.dtype.ensures) ∙ sym c.is_bool.ensures ∙ c.if-not-is_bool.false)

pub returns : goal.returns
returns c = has_truths c.args.plain.now _ _ _ c.requires (ap is_bool (sym c.dtype.ensures) ∙ sym c.is_bool.ensures ∙ c.if-not-is_bool.false) c.truth_parts.ensures
