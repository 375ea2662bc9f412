use Rattle.std.proofs.Common.{◌∙◌, map, ap}
use Rattle.vx_values.proofs.Unpacked.{unpacked-wholes}
use Rattle.vx_values.proofs.ints.bit_packing.unpacked_list.Goals as goal

pub returns : goal.returns
returns g c =
    let whole = g.T.Integer.whole in
    ap (map whole) c.from_vec.ensures ∙ unpacked-wholes c.args.packed.now c.args.width c.args.len (map whole c.in_ok-rows.rows.items) c.in_ok-rows.ensures
