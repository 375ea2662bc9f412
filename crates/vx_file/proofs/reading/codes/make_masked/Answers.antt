use Rattle.std.proofs.Common.{refl}
use Rattle.vx_model.specs.Refusals.{masked_refusal}
use Rattle.vx_model.specs.Tree.{masked}
use Rattle.vx_spelling.specs.NestedParts.{masked_ok, masked_of}
use Rattle.vx_file.proofs.MakeSteps.{is_refused}
use Rattle.vx_file.proofs.reading.codes.make_masked.Goals as goal

pub returns-in-Err : goal.returns-in-Err
returns-in-Err c =
    let child = c.args.child in
    let valid = c.args.valid in
    is_refused (masked_refusal child valid) masked_ok masked_of (child, valid) c.args.rest.now (masked child valid) (child, valid) c.in-Err.refused c.refusal.result refl c.refusal.ensures c.in-Err.ensures
