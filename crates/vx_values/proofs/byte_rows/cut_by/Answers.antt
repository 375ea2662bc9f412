use Rattle.std.proofs.Common.{◌≡◌, ◌<◌, ◌-◌, ◌++◌, ◌∷◌, [], ◌∙◌, length, map, ap, sym, cond, arith}
use Rattle.std.proofs.lemmas.List.{length-map}
use Rattle.std.proofs.lemmas.List.FromFn.{map-range_with_len_more}
use Rattle.vx_base.specs.PlainValue.{int}
use Rattle.vx_model.specs.Refusals.{validity_length}
use Rattle.vx_model.specs.Rows.{cut_at}
use Rattle.vx_model.proofs.VarBinLemmas.{length-cut_at, cut_at-at}
use Rattle.vx_values.proofs.Kept.{kept_at, zeroed_by-kept}
use Rattle.vx_values.proofs.byte_rows.cut_by.Goals as goal

pub loop-row-preserved : goal.loop-row-preserved
loop-row-preserved g c =
    let whole = g.T.Integer.whole in
    let offsets = c.args.offsets.now in
    let os = map int (map whole offsets) in
    let bytes = c.args.bytes.now in
    let valid = c.args.valid.now in
    let row = c.loop-row.row in
    let within : row < length os - 1 = omega (arith, length-map offsets whole, length-map (map whole offsets) int) in
    let item : c.in_ok-kept_piece.field-0 ≡ kept_at (cut_at os bytes) valid row =
    c.in_ok-kept_piece.ensures ∙ (λ i. cond (c.is_valid-bit.ensures i) (sym (cut_at-at os bytes row within) i) []) in
    c.in_ok-push.ensures.items ∙ (λ i. c.loop-row.invariant i ++ item i ∷ []) ∙ sym (map-range_with_len_more (kept_at (cut_at os bytes) valid) 0 row row (omega arith))

pub returns : goal.returns
returns g c =
    let whole = g.T.Integer.whole in
    let offsets = c.args.offsets.now in
    let os = map int (map whole offsets) in
    let bytes = c.args.bytes.now in
    let valid = c.args.valid.now in
    let long : length (cut_at os bytes) ≡ length offsets - 1 = length-cut_at os bytes ∙ ap (λ n. n - 1) (length-map (map whole offsets) int ∙ length-map offsets whole) in
    c.from_vec.ensures ∙ c.loop-row.invariant ∙ zeroed_by-kept (cut_at os bytes) valid c.loop-row.row (ap (validity_length valid) long ∙ c.requires.bits) (omega (arith, long))
