use Rattle.std.proofs.Common.{◌∙◌, map, ap, refl, false}
use Rattle.vx_base.specs.PlainValue.{truth}
use Rattle.vx_model.proofs.ItemMapLemmas.{map-picked}
use Rattle.vx_values.specs.IntsOf.{ptype_of, wholes_of}
use Rattle.vx_values.proofs.values.picked_truths.Goals as goal

pub returns : goal.returns
returns c = (refl, ap (map truth) c.in_ok-picked.ensures ∙ map-picked truth false (ptype_of c.args.codes.now) c.args.items.now (wholes_of c.args.codes.now))
