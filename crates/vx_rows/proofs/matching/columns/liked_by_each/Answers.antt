use Rattle.std.proofs.Common.{◌∙◌, ◌+◌, ap, arith, length, refl, take}
use Rattle.std.proofs.lemmas.List.{length-replicate, length-set}
use Rattle.vx_base.specs.PlainValue.{null}
use Rattle.vx_model.proofs.FrameOfReferenceLemmas.{row_passes}
use Rattle.vx_rules.specs.Patterns.{liked}
use Rattle.vx_rows.specs.Readable.{lent_rows}
use Rattle.vx_rows.specs.Texts.{has_text}
use Rattle.vx_rows.proofs.PairLemmas.{pairs-done, pairs-set}
use Rattle.vx_rows.proofs.matching.columns.liked_by_each.Goals as goal

pub loop-row-init : goal.loop-row-init
loop-row-init c = record { long = ap length c.in_ok-truths.ensures ∙ length-replicate c.len.result null ∙ c.len.ensures; done = refl }

pub row_liked-requires-clause-text : goal.row_liked-requires-clause-text
row_liked-requires-clause-text c = ap has_text c.cell.ensures ∙ row_passes has_text (lent_rows c.args.texts) c.loop-row.row (omega (arith, c.len-row-end.ensures)) c.requires.utf8

pub row_liked-requires-clause-pattern : goal.row_liked-requires-clause-pattern
row_liked-requires-clause-pattern c = ap has_text c.cell-in-loop-row.ensures ∙ row_passes has_text (lent_rows c.args.patterns) c.loop-row.row (omega (arith, c.len-row-end.ensures, c.requires.lengths)) c.requires.utf8_patterns

pub loop-row-preserved : goal.loop-row-preserved
loop-row-preserved c =
    let inv = c.loop-row.invariant in
    record {
      long = ap length c.set.ensures ∙ length-set c.loop-row.truths c.loop-row.row _ ∙ inv.long;
      done = ap (take (c.loop-row.row + 1)) c.set.ensures
          ∙ pairs-set (liked c.args.options) (lent_rows c.args.texts) (lent_rows c.args.patterns) c.loop-row.truths c.loop-row.row _ _ _ (omega (arith, c.len-row-end.ensures)) c.requires.lengths inv.long c.cell.ensures c.cell-in-loop-row.ensures c.in_ok-answer.ensures inv.done;
    }

pub returns : goal.returns
returns c =
    let inv = c.loop-row.invariant in
    c.finish.ensures ∙ pairs-done (liked c.args.options) (lent_rows c.args.texts) (lent_rows c.args.patterns) c.loop-row.truths c.loop-row.row (omega (arith, c.len-row-end.ensures)) c.requires.lengths inv.long inv.done
