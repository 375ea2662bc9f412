use Rattle.std.proofs.Common.{◌∙◌, ap}
use Rattle.vx_model.specs.Refusals.{dict_refusal}
use Rattle.vx_selections.proofs.over_values.over_values.Goals as goal

pub dict_of_places-requires : goal.dict_of_places-requires
dict_of_places-requires c = ap (dict_refusal c.args.codes) c.in_ok-values.ensures ∙ c.requires
