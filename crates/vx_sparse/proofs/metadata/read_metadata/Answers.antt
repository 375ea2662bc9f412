use Rattle.std.proofs.Common.{subst}
use Rattle.vx_codec.specs.Reads.{Fails}
use Rattle.vx_sparse.specs.Metadata.{message}
use Rattle.vx_sparse.proofs.MetadataLaws.{outside_indices, read_spelled, unread_none}
use Rattle.vx_sparse.proofs.metadata.read_metadata.Goals as goal

pub returns-in_default : goal.returns-in_default
returns-in_default c = unread_none c.args.bytes.now (subst (λ e. Fails e (message.parse c.args.bytes.now)) c.in_default.ensures.surely c.in_default.ensures.read)

pub returns-in_err-indices_ptype : goal.returns-in_err-indices_ptype
returns-in_err-indices_ptype c =
    rw c.from_residual.ensures (outside_indices c.args.bytes.now c.in-Ok.len c.in-Ok.offset c.in-Ok.indices c.in-Ok.ensures.read c.in_err-indices_ptype.ensures)

pub returns : goal.returns
returns c =
    read_spelled c.args.bytes.now c.in-Ok.len c.in-Ok.offset c.in-Ok.indices c.in-Ok.ensures.read c.in_ok-indices_ptype.indices_ptype c.in_ok-indices_ptype.ensures
