use Rattle.std.proofs.Common.{◌∙◌, ◌*◌, length, map, sym, ap, arith}
use Rattle.std.proofs.lemmas.List.{length-map}
use Rattle.std.proofs.lemmas.List.FromFn.{length-map-range_with_len}
use Rattle.vx_base.specs.Undelta.{undelta_row}
use Rattle.vx_blocks.proofs.undeltas.undelta.Goals as goal

pub returns-clause-size : goal.returns-clause-size
returns-clause-size g c =
    let whole = g.T.Integer.whole in
    let row = undelta_row g.T.Integer.kind (map whole c.args.bases.now) (map whole c.args.deltas.now) in
    sym (length-map c.loop-block.rows.items whole) ∙ ap length c.loop-block.invariant ∙ length-map-range_with_len row 0 (1024 * c.loop-block.block) ∙ omega (arith, c.requires)
