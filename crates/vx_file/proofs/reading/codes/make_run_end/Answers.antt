use Rattle.std.proofs.Common.{refl}
use Rattle.vx_model.specs.Refusals.{run_end_refusal}
use Rattle.vx_model.specs.Tree.{run_end}
use Rattle.vx_spelling.specs.NestedParts.{run_end_ok, run_end_of}
use Rattle.vx_file.proofs.MakeSteps.{is_refused}
use Rattle.vx_file.proofs.reading.codes.make_run_end.Goals as goal

pub returns-in-Err : goal.returns-in-Err
returns-in-Err c =
    let ends = c.args.children.0 in
    let values = c.args.children.1 in
    is_refused (run_end_refusal ends values) run_end_ok run_end_of (ends, values) c.args.rest.now (run_end ends values) (ends, values) c.in-Err.refused c.refusal.result refl c.refusal.ensures c.in-Err.ensures
