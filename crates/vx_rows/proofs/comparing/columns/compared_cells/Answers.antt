use Rattle.std.proofs.Common.{◌∙◌, ◌+◌, ap, arith, length, refl, take}
use Rattle.std.proofs.lemmas.List.{length-replicate, length-set}
use Rattle.vx_base.specs.PlainValue.{null}
use Rattle.vx_rules.specs.Comparisons.{compared}
use Rattle.vx_rows.specs.Readable.{lent_rows}
use Rattle.vx_rows.proofs.PairLemmas.{pairs-done, pairs-set}
use Rattle.vx_rows.proofs.comparing.columns.compared_cells.Goals as goal

pub loop-row-init : goal.loop-row-init
loop-row-init c = record { long = ap length c.in_ok-truths.ensures ∙ length-replicate c.len.result null ∙ c.len.ensures; done = refl }

pub loop-row-preserved : goal.loop-row-preserved
loop-row-preserved c =
    let inv = c.loop-row.invariant in
    record {
      long = ap length c.set.ensures ∙ length-set c.loop-row.truths c.loop-row.row _ ∙ inv.long;
      done = ap (take (c.loop-row.row + 1)) c.set.ensures
          ∙ pairs-set (compared c.args.operator) (lent_rows c.args.left) (lent_rows c.args.right) c.loop-row.truths c.loop-row.row _ _ _ (omega (arith, c.len-row-end.ensures)) c.requires.lengths inv.long c.cell.ensures c.cell-in-loop-row.ensures c.compared.ensures inv.done;
    }

pub returns : goal.returns
returns c =
    let inv = c.loop-row.invariant in
    c.finish.ensures ∙ pairs-done (compared c.args.operator) (lent_rows c.args.left) (lent_rows c.args.right) c.loop-row.truths c.loop-row.row (omega (arith, c.len-row-end.ensures)) c.requires.lengths inv.long inv.done
