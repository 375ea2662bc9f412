use Rattle.std.proofs.Common.{◌∙◌, ◌+◌, refl, sym}
use Rattle.vx_rows.specs.Items.{plain_item}
use Rattle.vx_rows.proofs.PrefixLemmas.{first-run}
use Rattle.vx_rows.proofs.SearchLemmas.{ones-more, run-is}
use Rattle.vx_rows.proofs.searching.before_run.Goals as goal

pub returns-then-not-takes_one-clause-run : goal.returns-then-not-takes_one-clause-run
returns-then-not-takes_one-clause-run c = λ h. first-run plain_item c.args.items.now c.loop-place.place (c.loop-place.place + 1) _ h refl (run-is _ (sym c.takes_one.ensures ∙ c.if-not-takes_one.true))

pub loop-place-preserved : goal.loop-place-preserved
loop-place-preserved c = ones-more plain_item c.args.items.now c.loop-place.place (c.loop-place.place + 1) _ c.loop-place-test.true refl c.loop-place.invariant (sym c.takes_one.ensures ∙ c.if-not-takes_one.false)
