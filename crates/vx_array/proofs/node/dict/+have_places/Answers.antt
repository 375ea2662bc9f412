use Rattle.std.proofs.Common.{◌∙◌, ap, sym}
use Rattle.std.specs.List.{list_all}
use Rattle.vx_model.specs.Rows.{rows}
use Rattle.vx_model.specs.WellFormed.{is_place}
use Rattle.vx_array.proofs.AtNode.{at_node}
use Rattle.vx_array.proofs.RunTests.{all-run_end}
use Rattle.vx_array.proofs.node.dict.+have_places.Goals as goal

pub returns-in-RunEnd : goal.returns-in-RunEnd
returns-in-RunEnd t c =
    let a = at_node c.codes.view_is c.codes.invariant c.in-RunEnd.is in
    let test = is_place c.args.values in
    rw a.is (c.have_places.ensures ∙ ap (λ tree. list_all test (rows tree)) c.deref.ensures ∙ sym (all-run_end test c.in-RunEnd.field-0.array.value c.in-RunEnd.runs.array.value a.well_formed))
