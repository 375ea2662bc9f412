use Rattle.std.proofs.Common.{refl}
use Rattle.std.specs.List.{zip}
use Rattle.vx_model.specs.Refusals.{kept, structure_refusal}
use Rattle.vx_model.specs.Tree.{of_list, structure}
use Rattle.vx_spelling.specs.NestedParts.{StructParts, struct_ok, struct_of}
use Rattle.vx_file.proofs.MakeSteps.{is_refused}
use Rattle.vx_file.proofs.Zips.{names_of-zip, trees_of-zip}
use Rattle.vx_file.proofs.reading.nested.make_struct.Goals as goal

pub returns-in-Err : goal.returns-in-Err
returns-in-Err c =
    let names = c.args.fields.0 in
    let fields = c.args.fields.1 in
    let len = c.args.len in
    let valid = c.args.valid in
    let n = c.args.nullability in
    let parts : StructParts = ((n, len), (zip names fields, valid)) in
    is_refused (structure_refusal names (of_list fields) len valid n) struct_ok struct_of parts c.args.rest.now (structure names (of_list fields) len (kept valid) n) (names, fields, valid) c.in-Err.refused c.refusal.result
    (rw (names_of-zip names fields c.requires.lengths, trees_of-zip names fields c.requires.lengths) refl) c.refusal.ensures c.in-Err.ensures
