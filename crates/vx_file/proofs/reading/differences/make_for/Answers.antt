use Rattle.std.proofs.Common.{refl}
use Rattle.vx_model.specs.Refusals.{for_refusal}
use Rattle.vx_model.specs.Tree.{frame_of_reference}
use Rattle.vx_spelling.specs.PackedParts.{for_of, for_ok}
use Rattle.vx_file.proofs.MakeSteps.{is_refused}
use Rattle.vx_file.proofs.reading.differences.make_for.Goals as goal

pub returns-in-Err : goal.returns-in-Err
returns-in-Err c =
    let t = c.args.encoded in
    let s = c.args.reference in
    is_refused (for_refusal t s) for_ok for_of (t, (s.dtype, s.value)) c.args.rest.now (frame_of_reference t s) (t, s) c.in-Err.refused c.refusal.result refl c.refusal.ensures c.in-Err.ensures
