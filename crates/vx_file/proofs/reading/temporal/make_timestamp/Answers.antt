use Rattle.std.proofs.Common.{refl}
use Rattle.vx_model.specs.Refusals.{timestamp_refusal}
use Rattle.vx_model.specs.Tree.{timestamp}
use Rattle.vx_spelling.specs.NestedParts.{timestamp_of, timestamp_ok}
use Rattle.vx_file.proofs.MakeSteps.{is_refused}
use Rattle.vx_file.proofs.reading.temporal.make_timestamp.Goals as goal

pub returns-in-Err : goal.returns-in-Err
returns-in-Err c =
    let k = c.args.kind in
    let t = c.args.storage in
    is_refused (timestamp_refusal t) timestamp_ok timestamp_of (k, t) c.args.rest.now (timestamp t k) (t, k) c.in-Err.refused c.refusal.result refl c.refusal.ensures c.in-Err.ensures
