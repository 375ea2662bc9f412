use Rattle.std.proofs.Common.{refl}
use Rattle.vx_base.specs.TypeOf.{type_of}
use Rattle.vx_model.specs.Refusals.{kept, var_bin_refusal}
use Rattle.vx_model.specs.Tree.{var_bin}
use Rattle.vx_spelling.specs.NestedParts.{VarBinParts, var_bin_ok, var_bin_of}
use Rattle.vx_file.proofs.MakeSteps.{is_made, is_refused}
use Rattle.vx_file.proofs.reading.codes.make_var_bin.Goals as goal

pub returns-in-Ok : goal.returns-in-Ok
returns-in-Ok c =
    let offsets = c.args.offsets in
    let content = c.args.content in
    let valid = c.args.valid in
    let dtype = c.byte_type.result in
    let parts : VarBinParts = (c.args.own_type, (offsets, (content, valid))) in
    is_made (var_bin_refusal offsets content valid (type_of dtype)) var_bin_ok var_bin_of parts c.args.rest.now (var_bin offsets content (kept valid) (type_of dtype)) (offsets, content, valid, dtype) c.in-Ok.tree
    (rw c.byte_type.ensures refl) (rw (c.byte_type.ensures, c.requires) refl) c.in-Ok.ensures

pub returns-in-Err : goal.returns-in-Err
returns-in-Err c =
    let offsets = c.args.offsets in
    let content = c.args.content in
    let valid = c.args.valid in
    let dtype = c.byte_type.result in
    let parts : VarBinParts = (c.args.own_type, (offsets, (content, valid))) in
    is_refused (var_bin_refusal offsets content valid (type_of dtype)) var_bin_ok var_bin_of parts c.args.rest.now (var_bin offsets content (kept valid) (type_of dtype)) (offsets, content, valid, dtype) c.in-Err.refused c.refusal.result
    (rw c.byte_type.ensures refl) c.refusal.ensures c.in-Err.ensures
