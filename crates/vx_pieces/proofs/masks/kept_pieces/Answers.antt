use Rattle.std.proofs.Common.{◌<◌, ◌∙◌, ◌++◌, ◌∷◌, [], ap, sym, subst, length, take, cond, arith}
use Rattle.vx_model.specs.Rows.{row_at}
use Rattle.vx_pieces.specs.Kept.{kept_items}
use Rattle.vx_pieces.specs.Pieces.{Gives}
use Rattle.vx_pieces.proofs.CountLemmas.{take-past}
use Rattle.vx_pieces.proofs.GrowLemmas.{kept-next}
use Rattle.vx_pieces.proofs.masks.kept_pieces.Goals as goal
use Rattle.vx_pieces.proofs.masks.kept_pieces.Goals.{then-keep-row+in_ok-add_row, else-keep-row}

pub loop-row-preserved : goal.loop-row-preserved
loop-row-preserved c = λ item values e.
    let keep = c.args.keep.now in
    let row = c.loop-row.row in
    let yes = kept_items (take row keep) values ++ row_at values row ∷ [] in
    let no = kept_items (take row keep) values in
    let next = kept-next keep values row c.loop-row-test.true e in
    let below : row < length values = omega (arith, e, c.loop-row-test.true) in
    elim c.if-keep-row.branch [
      | then-keep-row+in_ok-add_row w ↦
          subst (λ rs. Gives item c.if-keep-row.pieces.items values rs) (sym (next ∙ ap (λ b. cond b yes no) w.if-keep-row.true))
          (subst (λ v. Gives item v.items values yes) (sym w.pieces-is) (w.in_ok-add_row.ensures item values no below (c.loop-row.invariant item values e)))
      | else-keep-row w ↦
          subst (λ rs. Gives item c.if-keep-row.pieces.items values rs) (sym (next ∙ ap (λ b. cond b yes no) w.if-keep-row.false))
          (subst (λ v. Gives item v.items values no) (sym w.pieces-is) (c.loop-row.invariant item values e))
    ]

pub returns : goal.returns
returns c = λ item values e.
    subst (λ k. Gives item c.loop-row.pieces.items values (kept_items k values)) (take-past c.args.keep.now c.loop-row.row c.loop-row-test.false) (c.loop-row.invariant item values e)
