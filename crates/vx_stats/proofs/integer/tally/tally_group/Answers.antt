use Rattle.std.proofs.Common.{◌∙◌, sym, subst}
use Rattle.vx_stats.specs.Tally.{IsTallyAfter}
use Rattle.vx_stats.proofs.TallyLemmas.{all-valid, none-valid, none-tallied}
use Rattle.vx_stats.proofs.integer.tally.tally_group.Goals as goal

pub returns-then-all-clause-tally : goal.returns-then-all-clause-tally
returns-then-all-clause-tally g c =
    let whole = g.T.Integer.whole in
    let all = all-valid whole c.args.bits.now c.args.items.now c.requires.bits (sym c.some_and_all-some.ensures.all ∙ c.if-all.true) in
    subst (λ l. IsTallyAfter whole c.args.before l c.tally_all.result) (sym all) c.tally_all.ensures.tally

pub returns-else-some-clause-tally : goal.returns-else-some-clause-tally
returns-else-some-clause-tally g c =
    let whole = g.T.Integer.whole in
    let none = none-valid whole c.args.bits.now c.args.items.now c.requires.bits (sym c.some_and_all-some.ensures.some ∙ c.if-some.false) in
    subst (λ l. IsTallyAfter whole c.args.before l c.args.before) (sym none) (none-tallied whole c.args.before)
