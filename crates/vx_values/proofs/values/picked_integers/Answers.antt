use Rattle.std.proofs.Common.{◌∙◌, map, ap, pos}
use Rattle.vx_base.specs.PlainValue.{int}
use Rattle.vx_model.proofs.ItemMapLemmas.{map-picked}
use Rattle.vx_values.specs.IntsOf.{ptype_of, wholes_of}
use Rattle.vx_values.specs.ValuesOf.{ints}
use Rattle.vx_values.proofs.values.picked_integers.Goals as goal

pub returns : goal.returns
returns c =
    let got = c.in_ok-picked.ensures in
    (ap ints got.0, ap (map int) got.1 ∙ map-picked int (pos 0) (ptype_of c.args.codes.now) (wholes_of c.args.items.now) (wholes_of c.args.codes.now))
