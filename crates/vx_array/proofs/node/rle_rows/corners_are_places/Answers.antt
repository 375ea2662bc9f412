use Rattle.std.proofs.Common.{◌≡◌, ◌∙◌, ◌≤◌, ◌-◌, ◌*◌, ◌/◌, length, sym, arith}
use Rattle.vx_model.specs.Rows.{rows, block_rows}
use Rattle.vx_array.proofs.LinearPlaces.{block-fails, last-block, one-block, places-fail}
use Rattle.vx_array.proofs.node.rle_rows.corners_are_places.Goals as goal

pub returns-then-not-block_has_places : goal.returns-then-not-block_has_places
returns-then-not-block_has_places c =
    sym (block-fails c.args.values (rows c.args.offsets.now) (rows c.args.indices.now) c.args.len 0 (omega (arith, c.requires.some)) (sym c.block_has_places.ensures ∙ c.if-not-block_has_places.true))

pub returns-then-last-eq0 : goal.returns-then-last-eq0
returns-then-last-eq0 c =
    let enough : c.args.len ≤ length (rows c.args.indices.now) = omega (arith, c.requires.enough) in
    let one : (c.args.len - 1) / block_rows ≡ 0 = omega (arith, c.if-last-eq0.true) in
    sym (one-block c.args.values (rows c.args.offsets.now) (rows c.args.indices.now) c.args.len c.requires.linear enough one (sym c.block_has_places.ensures ∙ c.if-not-block_has_places.false))

pub returns-then-has_place : goal.returns-then-has_place
returns-then-has_place c =
    let enough : c.args.len ≤ length (rows c.args.indices.now) = omega (arith, c.requires.enough) in
    let last = (c.args.len - 1) / block_rows in
    c.block_has_places-then-has_place.ensures
    ∙ sym (last-block c.args.values (rows c.args.offsets.now) (rows c.args.indices.now) c.args.len last c.requires.linear c.requires.linear_offsets enough c.requires.begins (omega arith) c.requires.some
    (sym c.block_has_places.ensures ∙ c.if-not-block_has_places.false) (sym c.has_place.ensures ∙ c.if-has_place.true))

pub returns-else-has_place : goal.returns-else-has_place
returns-else-has_place c =
    let last = (c.args.len - 1) / block_rows in
    c.if-has_place.false ∙ sym (places-fail c.args.values (rows c.args.offsets.now) (rows c.args.indices.now) c.args.len (block_rows * last - 1) (omega (arith, c.requires.some)) (sym c.has_place.ensures ∙ c.if-has_place.false))
