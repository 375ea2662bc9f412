use Rattle.std.proofs.Common.{◌∙◌, subst, arith}
use Rattle.vx_stats.specs.Words.{Holds}
use Rattle.vx_stats.proofs.KeptKeys.{words_to, words-more, faithful-more, few-words, distinct-all}
use Rattle.vx_stats.proofs.strings.counting.distinct_keys.Goals as goal

pub insert-requires-clause-room : goal.insert-requires-clause-room
insert-requires-clause-room c =
    let row = c.loop-row.row in
    omega (arith, few-words c.args.rows.now c.args.valid.now row c.loop-row.words.count c.loop-row.invariant.held.count, c.loop-row-test.true, c.requires.few)

pub loop-row-preserved : goal.loop-row-preserved
loop-row-preserved c =
    let rows = c.args.rows.now in
    let valid = c.args.valid.now in
    let row = c.loop-row.row in
    let word = c.word_at.result in
    let before = c.loop-row.invariant in
    record {
      held = subst (λ words. Holds words c.insert.new.self) (words-more rows valid row word c.word_at.ensures.word) (c.in_ok-insert.ensures (words_to rows valid row) before.held);
      faithful = faithful-more rows valid row word c.word_at.ensures.word c.word_at.ensures.key before.faithful;
    }

pub returns : goal.returns
returns c =
    let last = c.loop-row.invariant in
    distinct-all c.args.rows.now c.args.valid.now c.loop-row.row c.len.result c.requires.mask (omega (arith, c.loop-row-test.false, c.loop-row.auto.row-end)) (c.len.ensures ∙ last.held.count) last.faithful
