use Rattle.vx_model.specs.Refusals.{timestamp_refusal}
use Rattle.vx_model.specs.Tree.{timestamp}
use Rattle.vx_buffers.proofs.Judging.{made_due, refused_due}
use Rattle.vx_buffers.proofs.timestamps.stamped.Goals as goal

pub returns-in-Ok : goal.returns-in-Ok
returns-in-Ok c =
    let t = c.args.integers in
    let k = c.args.kind in
    made_due (timestamp_refusal t) (timestamp t k) (t, k) c.in-Ok.column c.in-Ok.ensures

pub returns-in-Err : goal.returns-in-Err
returns-in-Err c =
    let t = c.args.integers in
    let k = c.args.kind in
    refused_due (timestamp_refusal t) (timestamp t k) (t, k) c.in-Err.refused c.from.result c.from.ensures c.in-Err.ensures
