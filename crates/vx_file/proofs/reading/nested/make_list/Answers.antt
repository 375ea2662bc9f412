use Rattle.std.proofs.Common.{refl}
use Rattle.vx_model.specs.Refusals.{kept, list_refusal}
use Rattle.vx_model.specs.Tree.{list}
use Rattle.vx_spelling.specs.NestedParts.{ListParts, list_ok, list_of}
use Rattle.vx_file.proofs.MakeSteps.{is_refused}
use Rattle.vx_file.proofs.reading.nested.make_list.Goals as goal

pub returns-in-Err : goal.returns-in-Err
returns-in-Err c =
    let elements = c.args.children.0 in
    let offsets = c.args.children.1 in
    let valid = c.args.valid in
    let n = c.args.nullability in
    let parts : ListParts = (n, ((elements, offsets), valid)) in
    is_refused (list_refusal elements offsets valid n) list_ok list_of parts c.args.rest.now (list elements offsets (kept valid) n) (elements, offsets, valid) c.in-Err.refused c.refusal.result refl c.refusal.ensures c.in-Err.ensures
