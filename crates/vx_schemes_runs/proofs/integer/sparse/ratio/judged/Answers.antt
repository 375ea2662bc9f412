use Rattle.std.proofs.Common.{◌≤◌, ◌≡◌, ◌∙◌, ◌*◌, length, sym, ap, subst, arith}
use Rattle.std.specs.Prelude.{◌||◌, ◌&&◌, nat_le, nat_lt}
use Rattle.std.proofs.lemmas.List.Sums.{count_by-le-length}
use Rattle.vx_base.specs.PlainValue.{is_null}
use Rattle.vx_base.proofs.IntegerLemmas.{integers-few}
use Rattle.vx_model.specs.Rows.{rows}
use Rattle.vx_stats.specs.Stats.{null_count, value_count, most_frequent}
use Rattle.vx_schemes_runs.specs.Sparse.Meaning.{sparse_verdict}
use Rattle.vx_schemes_runs.specs.Sparse.Vote.{CountsMost}
use Rattle.vx_schemes_runs.proofs.Sparse.Vote.{verdict-same, verdict-unvoted, winner-few}
use Rattle.vx_schemes_runs.proofs.integer.sparse.ratio.judged.Goals as goal
use Rattle.vx_schemes_runs.proofs.integer.sparse.ratio.judged.Goals.{then-need_no_vote, else-need_no_vote}

pub need_no_vote-requires-clause-nulls : goal.need_no_vote-requires-clause-nulls
need_no_vote-requires-clause-nulls c =
    let t = c.args.column.now.array in
    subst (λ n. n ≤ c.array_len-rows.result) (sym (ap (λ p. p.nulls) c.in_ok-counts.ensures.answer)) (subst (λ l. null_count (rows t) ≤ l) (sym c.array_len-rows.ensures) (count_by-le-length is_null (rows t)))

pub verdict-requires-clause-nulls : goal.verdict-requires-clause-nulls
verdict-requires-clause-nulls c =
    let t = c.args.column.now.array in
    subst (λ n. n ≤ c.array_len-rows.result) (sym (ap (λ p. p.nulls) c.in_ok-counts.ensures.answer)) (subst (λ l. null_count (rows t) ≤ l) (sym c.array_len-rows.ensures) (count_by-le-length is_null (rows t)))

pub verdict-requires-clause-values : goal.verdict-requires-clause-values
verdict-requires-clause-values c =
    let t = c.args.column.now.array in
    subst (λ n. n ≤ c.array_len-rows.result) (sym (ap (λ p. p.values) c.in_ok-counts.ensures.answer)) (subst (λ l. value_count (rows t) ≤ l) (sym c.array_len-rows.ensures) (integers-few (rows t)))

pub verdict-requires-clause-often : goal.verdict-requires-clause-often
verdict-requires-clause-often c =
    let t = c.args.column.now.array in
    let few : c.if-need_no_vote.often ≤ value_count (rows t) = elim c.if-need_no_vote.branch [
      | then-need_no_vote w ↦ omega (arith, w.often-is)
      | else-need_no_vote w ↦
          let most = subst (λ a. CountsMost (rows a) w.winner_count-often.result) (w.array.ensures.array ∙ c.in_ok-counts.ensures.column.array) w.winner_count-often.ensures in
          subst (λ n. n ≤ value_count (rows t)) (sym w.often-is) (winner-few (rows t) w.winner_count-often.result most)
    ] in
    subst (λ v. c.if-need_no_vote.often ≤ v) (sym (ap (λ p. p.values) c.in_ok-counts.ensures.answer)) few

pub returns-clause-answer : goal.returns-clause-answer
returns-clause-answer c =
    let t = c.args.column.now.array in
    let told : sparse_verdict (length (rows t)) (null_count (rows t)) (value_count (rows t)) c.if-need_no_vote.often ≡ sparse_verdict (length (rows t)) (null_count (rows t)) (value_count (rows t)) (most_frequent (rows t)).1 = elim c.if-need_no_vote.branch [
      | then-need_no_vote w ↦
          ap (sparse_verdict (length (rows t)) (null_count (rows t)) (value_count (rows t))) w.often-is
          ∙ verdict-unvoted (length (rows t)) (null_count (rows t)) (rows t)
          ((λ i. nat_lt (9 * sym c.array_len-rows.ensures i) (10 * (sym c.in_ok-counts.ensures.answer i).nulls) || (nat_le 20 (sym c.in_ok-counts.ensures.answer i).values && nat_lt (sym c.in_ok-counts.ensures.answer i).run_length 4)) ∙ sym c.need_no_vote.ensures ∙ w.if-need_no_vote.true)
      | else-need_no_vote w ↦
          let most = subst (λ a. CountsMost (rows a) w.winner_count-often.result) (w.array.ensures.array ∙ c.in_ok-counts.ensures.column.array) w.winner_count-often.ensures in
          ap (sparse_verdict (length (rows t)) (null_count (rows t)) (value_count (rows t))) w.often-is ∙ verdict-same (length (rows t)) (null_count (rows t)) (rows t) w.winner_count-often.result most
    ] in
    c.verdict.ensures ∙ (λ i. sparse_verdict (c.array_len-rows.ensures i) (c.in_ok-counts.ensures.answer i).nulls (c.in_ok-counts.ensures.answer i).values c.if-need_no_vote.often) ∙ told
