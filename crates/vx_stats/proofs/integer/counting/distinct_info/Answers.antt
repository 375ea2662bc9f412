use Rattle.std.proofs.Common.{◌≡◌, Bool, true, false, sym, ap, refl, ◌∙◌, Some}
use Rattle.std.specs.Prelude.{not}
use Rattle.vx_stats.proofs.StatsLemmas.{counts-told}
use Rattle.vx_stats.proofs.integer.counting.distinct_info.Goals as goal

asked : (b : Bool) → not b ≡ false → b ≡ true
asked true h = refl
asked false h = absurd cc

pub returns-then-run_length-ge-LONG_RUNS : goal.returns-then-run_length-ge-LONG_RUNS
returns-then-run_length-ge-LONG_RUNS g c =
    ap Some c.in_ok-info.ensures ∙ sym (counts-told g.T.Integer.whole c.args.items.now c.args.valid.now c.args.opts c.requires.mask (sym c.if-is_empty.ensures) (asked c.args.opts.count_distinct_values c.if-not-opts.false))

pub returns-in-Some : goal.returns-in-Some
returns-in-Some g c =
    ap Some c.in_ok-info-2.ensures ∙ sym (counts-told g.T.Integer.whole c.args.items.now c.args.valid.now c.args.opts c.requires.mask (sym c.if-is_empty.ensures) (asked c.args.opts.count_distinct_values c.if-not-opts.false))

pub returns : goal.returns
returns g c =
    ap Some c.in_ok-info-3.ensures ∙ sym (counts-told g.T.Integer.whole c.args.items.now c.args.valid.now c.args.opts c.requires.mask (sym c.if-is_empty.ensures) (asked c.args.opts.count_distinct_values c.if-not-opts.false))
