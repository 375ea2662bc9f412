use Rattle.std.proofs.Common.{◌∙◌, ap}
use Rattle.vx_model.specs.Tree.{list}
use Rattle.vx_model.proofs.AdmittedLemmas.{kept-same, list-admitted}
use Rattle.vx_compressor.proofs.nested.list_over.Goals as goal

pub list_of_offsets-requires : goal.list_of_offsets-requires
list_of_offsets-requires c = list-admitted _ _ _ _ c.requires

pub returns-in-Ok : goal.returns-in-Ok
returns-in-Ok c =
    let a = c.args in
    c.in-Ok.ensures ∙ ap (λ v. list a.elements a.offsets v a.nullability) (kept-same _ _ _ c.requires.2.validity)
