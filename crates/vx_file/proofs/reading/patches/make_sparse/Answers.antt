use Rattle.std.proofs.Common.{refl}
use Rattle.vx_model.specs.Refusals.{sparse_refusal}
use Rattle.vx_model.specs.Tree.{sparse_of}
use Rattle.vx_spelling.specs.PackedParts.{sparse_from, sparse_ok}
use Rattle.vx_file.specs.Made.{patch_parts_of}
use Rattle.vx_file.proofs.MakeSteps.{is_refused}
use Rattle.vx_file.proofs.reading.patches.make_sparse.Goals as goal

pub returns-in-Err : goal.returns-in-Err
returns-in-Err c =
    let p = c.args.patches in
    let s = c.args.fill in
    is_refused (sparse_refusal p s) sparse_ok sparse_from (patch_parts_of p, (s.dtype, s.value)) c.args.rest.now (sparse_of p s) (p, s) c.in-Err.refused c.refusal.result refl c.refusal.ensures c.in-Err.ensures
