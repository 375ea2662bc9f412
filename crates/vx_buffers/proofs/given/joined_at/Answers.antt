use Rattle.vx_base.specs.TypeOf.{type_of}
use Rattle.vx_model.specs.Refusals.{kept, var_bin_refusal}
use Rattle.vx_model.specs.Tree.{var_bin}
use Rattle.vx_buffers.proofs.Judging.{made_due, refused_due}
use Rattle.vx_buffers.proofs.given.joined_at.Goals as goal

pub returns-in-Ok : goal.returns-in-Ok
returns-in-Ok c =
    let t = type_of c.args.dtype in
    made_due (var_bin_refusal c.args.starts c.args.content c.args.mask t) (var_bin c.args.starts c.args.content (kept c.args.mask) t) (c.args.starts, c.args.content, c.args.mask, c.args.dtype) c.in-Ok.column c.in-Ok.ensures

pub returns-in-Err : goal.returns-in-Err
returns-in-Err c =
    let t = type_of c.args.dtype in
    refused_due (var_bin_refusal c.args.starts c.args.content c.args.mask t) (var_bin c.args.starts c.args.content (kept c.args.mask) t) (c.args.starts, c.args.content, c.args.mask, c.args.dtype) c.in-Err.refused c.from.result c.from.ensures c.in-Err.ensures
