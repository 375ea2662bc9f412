use Rattle.std.proofs.Common.{refl}
use Rattle.vx_model.specs.Refusals.{delta_refusal, kept}
use Rattle.vx_model.specs.Tree.{delta}
use Rattle.vx_spelling.specs.PackedParts.{delta_of, delta_ok}
use Rattle.vx_file.proofs.MakeSteps.{is_refused}
use Rattle.vx_file.proofs.reading.differences.make_delta.Goals as goal

pub returns-in-Err : goal.returns-in-Err
returns-in-Err c =
    let h = c.args.head in
    let ts = c.args.children in
    let v = c.args.valid in
    is_refused (delta_refusal ts.0 ts.1 h.1 v h.0) delta_ok delta_of (h, (ts, v)) c.args.rest.now (delta ts.0 ts.1 h.1 (kept v) h.0) (ts.0, ts.1, v) c.in-Err.refused c.refusal.result refl c.refusal.ensures c.in-Err.ensures
