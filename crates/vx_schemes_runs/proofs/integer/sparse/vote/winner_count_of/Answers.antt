use Rattle.std.proofs.Common.{◌∙◌, map, sym, ap, subst, arith}
use Rattle.std.proofs.lemmas.List.{length-map, take-map}
use Rattle.vx_base.specs.PlainValue.{int}
use Rattle.vx_model.specs.Rows.{masked_rows, valid_rows}
use Rattle.vx_stats.specs.Distinct.{times}
use Rattle.vx_stats.specs.Stats.{valid_wholes}
use Rattle.vx_schemes_runs.specs.Sparse.Vote.{winner, CountsMost}
use Rattle.vx_schemes_runs.proofs.Sparse.Vote.{all-vote, quarter-votes}
use Rattle.vx_schemes_runs.proofs.integer.sparse.vote.winner_count_of.Goals as goal

pub returns-in-Some : goal.returns-in-Some
returns-in-Some g c =
    let rows = map int (map g.T.Integer.whole c.args.items.now) in
    let count = c.times_in_valid.result in
    let values = masked_rows c.as_slice-bits.result.now rows in
    let counted = c.times_in_valid.ensures ∙ ap (times (valid_wholes values)) c.winner_of_valid.ensures in
    let most = subst (CountsMost values) (sym counted) (all-vote values) in
    subst (λ v. CountsMost (valid_rows v rows) count) (sym c.in-Some.is) (subst (λ b. CountsMost (masked_rows b rows) count) c.as_slice-bits.ensures most)

pub returns-in-None : goal.returns-in-None
returns-in-None g c =
    let whole = g.T.Integer.whole in
    let items = c.args.items.now in
    let zs = map whole items in
    let votes = c.div_ceil-votes.result in
    let long = length-map items whole in
    let counted = c.times_in_all.ensures ∙ ap (times zs) (c.winner_of_all.ensures ∙ ap winner (sym (take-map whole votes items))) in
    let most = subst (CountsMost (map int zs)) (sym counted) (quarter-votes votes zs (omega (arith, long, c.div_ceil-votes.ensures)) (omega (arith, long, c.div_ceil-votes.ensures))) in
    subst (λ v. CountsMost (valid_rows v (map int zs)) c.times_in_all.result) (sym c.in-None.is) most
