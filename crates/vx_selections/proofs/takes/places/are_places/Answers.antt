use Rattle.std.proofs.Common.{◌∙◌, ap, map, sym}
use Rattle.std.specs.Prelude.{not}
use Rattle.std.specs.List.{list_all}
use Rattle.vx_base.specs.PlainValue.{int}
use Rattle.vx_model.specs.Rows.{valid_rows}
use Rattle.vx_model.specs.WellFormed.{is_place}
use Rattle.vx_values.specs.IntsOf.{wholes_of}
use Rattle.vx_selections.proofs.Places.{none-outside}
use Rattle.vx_selections.proofs.takes.places.are_places.Goals as goal

pub returns-in-None : goal.returns-in-None
returns-in-None c =
    let zs = wholes_of c.args.codes.now in
    ap not c.has_outside.ensures ∙ none-outside c.args.len zs ∙ ap (λ valid. list_all (is_place c.args.len) (valid_rows valid (map int zs))) (sym c.in-None.is)
