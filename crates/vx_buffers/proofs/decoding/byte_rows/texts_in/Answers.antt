use Rattle.std.proofs.Common.{◌∙◌, sym, ap}
use Rattle.vx_base.specs.PlainType.{is_bytes}
use Rattle.vx_buffers.proofs.PlainRows.{has_texts, view_root}
use Rattle.vx_buffers.proofs.decoding.byte_rows.texts_in.Goals as goal

pub view_parts-requires : goal.view_parts-requires
view_parts-requires c = view_root c.args.plain.now c.requires (ap is_bytes (sym c.dtype.ensures) ∙ sym c.is_bytes.ensures ∙ c.if-not-is_bytes.false)

pub returns : goal.returns
returns c = has_texts c.args.plain.now _ _ _ c.requires (ap is_bytes (sym c.dtype.ensures) ∙ sym c.is_bytes.ensures ∙ c.if-not-is_bytes.false) c.view_parts.ensures
