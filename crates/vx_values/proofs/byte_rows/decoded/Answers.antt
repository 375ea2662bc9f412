use Rattle.std.proofs.Common.{◌≡◌, ◌++◌, ◌∷◌, [], ◌∙◌, ap, sym, cond, arith}
use Rattle.std.specs.Prelude.{slice_index_or}
use Rattle.std.proofs.lemmas.List.FromFn.{map-range_with_len_more}
use Rattle.vx_values.proofs.Kept.{kept_at}
use Rattle.vx_values.proofs.byte_rows.decoded.Goals as goal

pub loop-row-preserved : goal.loop-row-preserved
loop-row-preserved c =
    let rows = c.args.rows.now in
    let row = c.loop-row.row in
    let valid = c.args.valid.now in
    let item : c.in_ok-kept_row.field-0 ≡ kept_at rows valid row = c.in_ok-kept_row.ensures ∙ ap (λ b. cond b (slice_index_or rows row []) []) c.is_valid.ensures in
    c.in_ok-push.ensures.items ∙ (λ i. c.loop-row.invariant i ++ item i ∷ []) ∙ sym (map-range_with_len_more (kept_at rows valid) 0 row row (omega arith))
