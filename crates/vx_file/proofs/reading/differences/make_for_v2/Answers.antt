use Rattle.std.proofs.Common.{refl}
use Rattle.vx_model.specs.Refusals.{for_v2_refusal}
use Rattle.vx_spelling.specs.PackedParts.{frames_of, frames_ok}
use Rattle.vx_file.proofs.MakeSteps.{is_refused}
use Rattle.vx_file.proofs.reading.differences.make_for_v2.Goals as goal

pub returns-in-Err : goal.returns-in-Err
returns-in-Err c =
    let ts = c.args.children in
    is_refused (for_v2_refusal ts.0 ts.1) frames_ok frames_of ts c.args.rest.now (frames_of ts) ts c.in-Err.refused c.refusal.result refl c.refusal.ensures c.in-Err.ensures
