use Rattle.std.proofs.Common.{◌∙◌, ap, length, sym}
use Rattle.vx_rows.specs.Pairs.{both_true, compared_rows, each_pair}
use Rattle.vx_rows.specs.Readable.{lent_rows}
use Rattle.vx_rows.proofs.AnswerLemmas.{or-map, rows-by-bounds}
use Rattle.vx_rows.proofs.PairLemmas.{length-each_pair}
use Rattle.vx_rules.specs.Comparisons.{compared}
use Rattle.vx_rows.proofs.ranging.columns.within_each.Goals as goal

pub compared_rows-requires-clause-lengths : goal.compared_rows-requires-clause-lengths
compared_rows-requires-clause-lengths c = sym c.requires.lows

pub and-requires : goal.and-requires
and-requires c =
    ap length c.in_ok-above.ensures ∙ length-each_pair (compared c.lower_operator.result) (lent_rows c.args.low) (lent_rows c.args.rows) (sym c.requires.lows) ∙ sym c.requires.lows
    ∙ sym (ap length c.in_ok-below.ensures ∙ length-each_pair (compared c.upper_operator.result) (lent_rows c.args.rows) (lent_rows c.args.high) c.requires.highs)

pub returns : goal.returns
returns c =
    let rows = lent_rows c.args.rows in
    let low = lent_rows c.args.low in
    let high = lent_rows c.args.high in
    let above = c.in_ok-above.ensures ∙ ap (λ op. compared_rows op low rows) c.lower_operator.ensures in
    let below = c.in_ok-below.ensures ∙ ap (λ op. compared_rows op rows high) c.upper_operator.ensures in
    or-map c.and.result _ _ (λ truths e. e ∙ (λ i. each_pair both_true (above i) (below i)) ∙ rows-by-bounds c.args.options rows low high) c.and.ensures
