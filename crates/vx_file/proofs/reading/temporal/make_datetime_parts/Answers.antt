use Rattle.std.proofs.Common.{refl}
use Rattle.vx_model.specs.Refusals.{datetime_parts_refusal}
use Rattle.vx_model.specs.Tree.{datetime_parts}
use Rattle.vx_spelling.specs.NestedParts.{datetime_of, datetime_ok}
use Rattle.vx_file.proofs.MakeSteps.{is_made, is_refused}
use Rattle.vx_file.proofs.reading.temporal.make_datetime_parts.Goals as goal

pub returns-in-Ok : goal.returns-in-Ok
returns-in-Ok c =
    let k = c.args.kind in
    let n = c.args.nullability in
    let ts = c.args.parts in
    is_made (datetime_parts_refusal k n ts.0 ts.1.0 ts.1.1) datetime_ok datetime_of ((k, n), ts) c.args.rest.now (datetime_parts k n ts.0 ts.1.0 ts.1.1) (k, ts.0, ts.1.0, ts.1.1) c.in-Ok.tree refl refl c.in-Ok.ensures

pub returns-in-Err : goal.returns-in-Err
returns-in-Err c =
    let k = c.args.kind in
    let n = c.args.nullability in
    let ts = c.args.parts in
    is_refused (datetime_parts_refusal k n ts.0 ts.1.0 ts.1.1) datetime_ok datetime_of ((k, n), ts) c.args.rest.now (datetime_parts k n ts.0 ts.1.0 ts.1.1) (k, ts.0, ts.1.0, ts.1.1) c.in-Err.refused c.refusal.result refl c.refusal.ensures
    c.in-Err.ensures
