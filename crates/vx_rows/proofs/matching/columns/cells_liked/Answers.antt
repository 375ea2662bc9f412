use Rattle.std.proofs.Common.{◌∙◌, ◌+◌, ap, arith, length, map, refl, take}
use Rattle.std.proofs.lemmas.List.{length-replicate, length-set}
use Rattle.vx_base.specs.PlainValue.{null}
use Rattle.vx_model.proofs.FrameOfReferenceLemmas.{row_passes}
use Rattle.vx_rows.specs.Items.{plain_item}
use Rattle.vx_rows.specs.Readable.{lent_rows}
use Rattle.vx_rows.specs.Texts.{has_text, liked_items}
use Rattle.vx_rows.proofs.PairLemmas.{maps-done, maps-set}
use Rattle.vx_rows.proofs.matching.columns.cells_liked.Goals as goal

pub loop-row-init : goal.loop-row-init
loop-row-init c = record { long = ap length c.in_ok-truths.ensures ∙ length-replicate c.len.result null ∙ c.len.ensures; done = refl }

pub cell_liked-requires : goal.cell_liked-requires
cell_liked-requires c = ap has_text c.cell.ensures ∙ row_passes has_text (lent_rows c.args.texts) c.loop-row.row (omega (arith, c.len-row-end.ensures)) c.requires.utf8

pub loop-row-preserved : goal.loop-row-preserved
loop-row-preserved c =
    let inv = c.loop-row.invariant in
    record {
      long = ap length c.set.ensures ∙ length-set c.loop-row.truths c.loop-row.row _ ∙ inv.long;
      done = ap (take (c.loop-row.row + 1)) c.set.ensures
          ∙ maps-set (λ v. liked_items c.args.options v (map plain_item c.args.items.now)) (lent_rows c.args.texts) c.loop-row.truths c.loop-row.row _ _ (omega (arith, c.len-row-end.ensures)) inv.long c.cell.ensures c.in_ok-answer.ensures inv.done;
    }

pub returns : goal.returns
returns c =
    let inv = c.loop-row.invariant in
    c.finish.ensures ∙ maps-done (λ v. liked_items c.args.options v (map plain_item c.args.items.now)) (lent_rows c.args.texts) c.loop-row.truths c.loop-row.row (omega (arith, c.len-row-end.ensures)) inv.long inv.done
