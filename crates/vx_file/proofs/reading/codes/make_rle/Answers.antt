use Rattle.std.proofs.Common.{refl}
use Rattle.vx_model.specs.Refusals.{rle_refusal}
use Rattle.vx_model.specs.Tree.{rle}
use Rattle.vx_spelling.specs.NestedParts.{rle_ok, rle_of}
use Rattle.vx_file.proofs.MakeSteps.{is_refused}
use Rattle.vx_file.proofs.reading.codes.make_rle.Goals as goal

pub returns-in-Err : goal.returns-in-Err
returns-in-Err c =
    let values = c.args.children.0 in
    let indices = c.args.children.1.0 in
    let offsets = c.args.children.1.1 in
    let len = c.args.len in
    is_refused (rle_refusal values indices offsets len) rle_ok rle_of (len, (values, (indices, offsets))) c.args.rest.now (rle values indices offsets len) (values, indices, offsets) c.in-Err.refused c.refusal.result refl c.refusal.ensures c.in-Err.ensures
