use Rattle.std.proofs.Common.{rules}
use Rattle.serde_json.specs.View.{items_view}
use Rattle.vx_document.proofs.FlatColumns.{plain-stamps, stamps-made}
use Rattle.vx_document.proofs.document.flat.read_timestamps.Goals as goal

pub returns-in_err-storage : goal.returns-in_err-storage
returns-in_err-storage c = let e = plain-stamps c.args.kind c.args.nullability (items_view c.args.list.items) in rw e (search rules)

pub returns-in-Ok : goal.returns-in-Ok
returns-in-Ok c = stamps-made _ _ _ c.in_ok-storage.storage c.in-Ok.tree _ c.in_ok-storage.ensures c.in-Ok.ensures
