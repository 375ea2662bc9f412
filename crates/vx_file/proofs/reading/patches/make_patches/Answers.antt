use Rattle.std.proofs.Common.{Some, refl}
use Rattle.vx_model.specs.Refusals.{chunked_refusal}
use Rattle.vx_model.specs.Tree.{chunked}
use Rattle.vx_spelling.specs.PackedParts.{flat_of, patches_ok}
use Rattle.vx_file.specs.Made.{patch_parts_of}
use Rattle.vx_file.proofs.PatchSteps.{are_passed}
use Rattle.vx_file.proofs.reading.patches.make_patches.Goals as goal

pub returns-in-Ok : goal.returns-in-Ok
returns-in-Ok c =
    let x = c.args.fields in
    let chunks = c.in-Some.chunks in
    rw c.in-Some.is
    (are_passed (chunked_refusal (flat_of x) chunks) patches_ok patch_parts_of (x, Some chunks) c.args.rest.now (chunked x.0.0 x.0.1 x.1.0 x.1.1 (Some chunks)) (x.1.0, x.1.1, chunks) c.in-Ok.patches refl refl c.in-Ok.ensures)
