use Rattle.std.proofs.Common.{◌≡◌, ◌++◌, ◌∷◌, [], ◌∙◌, map, length, ap, sym, arith}
use Rattle.std.specs.List.{range_with_len}
use Rattle.std.proofs.lemmas.List.{length-map}
use Rattle.std.proofs.lemmas.List.FromFn.{map-range_with_len_more}
use Rattle.vx_model.specs.Decoded.{picks_valid}
use Rattle.vx_values.proofs.ints.dictionary.picks_valid.Goals as goal

pub loop-row-preserved : goal.loop-row-preserved
loop-row-preserved g c =
    let row = c.loop-row.row in
    let is_valid = picks_valid g.C.Integer.kind c.args.bits.now c.args.valid.now (map g.C.Integer.whole c.args.codes.now) in
    c.in_ok-push.ensures.items ∙ (λ i. c.loop-row.invariant i ++ c.picks_valid_at.ensures i ∷ []) ∙ sym (map-range_with_len_more is_valid 0 row row (omega arith))

pub returns : goal.returns
returns g c =
    let codes = c.args.codes.now in
    let is_valid = picks_valid g.C.Integer.kind c.args.bits.now c.args.valid.now (map g.C.Integer.whole codes) in
    let end : c.loop-row.row ≡ length (map g.C.Integer.whole codes) = omega (arith, length-map codes g.C.Integer.whole) in
    c.from_bits.ensures ∙ c.loop-row.invariant ∙ ap (λ n. map is_valid (range_with_len 0 n)) end
