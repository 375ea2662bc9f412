use Rattle.std.proofs.Common.{length, ap, sym, ◌∙◌, arith}
use Rattle.rand_pcg.specs.Pcg.{pcg32}
use Rattle.vx_document.proofs.DocumentWords.{first_words-next, first_words-end, length-first_words}
use Rattle.vx_document.proofs.document.words.outputs.Goals as goal

pub returns-clause-words : goal.returns-clause-words
returns-clause-words c = first_words-end pcg32 c.args.count c.loop.counter c.loop.words.items c.loop.generator c.args.generator (omega arith) c.loop.invariant

pub returns-clause-count : goal.returns-clause-count
returns-clause-count c =
    let all = first_words-end pcg32 c.args.count c.loop.counter c.loop.words.items c.loop.generator c.args.generator (omega arith) c.loop.invariant in
    ap length all ∙ length-first_words pcg32 c.args.count c.args.generator

pub loop-preserved : goal.loop-preserved
loop-preserved c =
    let step = ap (λ word. (word, c.next_word.new.self)) c.from.ensures ∙ c.next_word.ensures in
    rw c.in_ok-push.ensures.items (sym (first_words-next pcg32 c.args.count c.loop.counter c.loop.words.items c.loop.generator c.next_word.new.self c.from.result (omega arith) step) ∙ c.loop.invariant)
