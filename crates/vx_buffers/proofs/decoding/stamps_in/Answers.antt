use Rattle.std.proofs.Common.{◌∙◌, sym, ap}
use Rattle.vx_base.specs.PlainType.{is_timestamp}
use Rattle.vx_buffers.proofs.PlainRows.{has_stamps, storage_root, timestamp_root}
use Rattle.vx_buffers.proofs.decoding.stamps_in.Goals as goal

pub storage_in-requires : goal.storage_in-requires
storage_in-requires c = timestamp_root c.args.plain.now c.requires (ap is_timestamp (sym c.dtype.ensures) ∙ sym c.is_timestamp.ensures ∙ c.if-not-is_timestamp.false)

pub as_primitive-requires : goal.as_primitive-requires
as_primitive-requires c = storage_root c.args.plain.now _ _ c.requires (ap is_timestamp (sym c.dtype.ensures) ∙ sym c.is_timestamp.ensures ∙ c.if-not-is_timestamp.false) c.storage_in.ensures

pub returns : goal.returns
returns c =
    has_stamps c.args.plain.now _ _ _ _ _ c.requires (ap is_timestamp (sym c.dtype.ensures) ∙ sym c.is_timestamp.ensures ∙ c.if-not-is_timestamp.false) c.storage_in.ensures c.as_primitive.ensures.tree
