use Rattle.std.proofs.Common.{◌∙◌, ap}
use Rattle.vx_base.specs.PlainValue.{of_list}
use Rattle.vx_base.specs.TypeOf.{value_of}
use Rattle.vx_flat.proofs.ValueLemmas.{within-of_list}
use Rattle.vx_flat.proofs.within.field_row.Goals as goal

pub returns : goal.returns
returns c = ap of_list (c.into_vec.ensures ∙ c.into_values.ensures) ∙ within-of_list (value_of c.args.value)
