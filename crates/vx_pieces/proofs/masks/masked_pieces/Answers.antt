use Rattle.std.proofs.Common.{◌<◌, ◌∙◌, ◌++◌, ◌∷◌, [], ap, sym, subst, length, take, cond, arith}
use Rattle.vx_base.specs.PlainValue.{null}
use Rattle.vx_model.specs.Rows.{row_at, masked_rows}
use Rattle.vx_pieces.specs.Pieces.{Gives}
use Rattle.vx_pieces.proofs.GrowLemmas.{masked-next}
use Rattle.vx_pieces.proofs.masks.masked_pieces.Goals as goal
use Rattle.vx_pieces.proofs.masks.masked_pieces.Goals.{then-keep-row+in_ok-add_row, else-keep-row+in_ok-add_filled}

pub loop-row-preserved : goal.loop-row-preserved
loop-row-preserved c = λ values e.
    let keep = c.args.keep.now in
    let row = c.loop-row.row in
    let before = masked_rows (take row keep) values in
    let next = masked-next keep values row c.loop-row-test.true e in
    let below : row < length values = omega (arith, e, c.loop-row-test.true) in
    elim c.if-keep-row.branch [
      | then-keep-row+in_ok-add_row w ↦
          subst (λ rs. Gives null c.if-keep-row.pieces.items values rs) (sym (next ∙ ap (λ b. before ++ cond b (row_at values row) null ∷ []) w.if-keep-row.true))
          (subst (λ v. Gives null v.items values (before ++ row_at values row ∷ [])) (sym w.pieces-is) (w.in_ok-add_row.ensures null values before below (c.loop-row.invariant values e)))
      | else-keep-row+in_ok-add_filled w ↦
          subst (λ rs. Gives null c.if-keep-row.pieces.items values rs) (sym (next ∙ ap (λ b. before ++ cond b (row_at values row) null ∷ []) w.if-keep-row.false))
          (subst (λ v. Gives null v.items values (before ++ null ∷ [])) (sym w.pieces-is) (w.in_ok-add_filled.ensures null values before (c.loop-row.invariant values e)))
    ]
