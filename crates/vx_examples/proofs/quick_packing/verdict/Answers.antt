use Rattle.std.proofs.Common.{◌≡◌, ◌∙◌, ◌+◌, false, pos, sym, ap}
use Rattle.std.specs.Prelude.{int_lt}
use Rattle.vx_stats.specs.Erased.{ptype_in, extremes_of}
use Rattle.vx_examples.proofs.QuickLemmas.{quick-some, quick-none}
use Rattle.vx_examples.proofs.quick_packing.verdict.Goals as goal

pub returns-in-Some : goal.returns-in-Some
returns-in-Some c =
    let erased = c.erased-erased.result.now in
    let e = extremes_of erased in
    let same = c.erased-erased.ensures.extremes in
    let ordered = c.erased-erased.ensures.ordered c.requires in
    let not_negative : int_lt e.least (pos 0) ≡ false = sym c.min_is_negative.ensures ∙ c.if-min_is_negative.false in
    quick-some (ptype_in erased) c.args.bits e c.args.stats.now.extremes c.in-Some.log c.new.result same ordered not_negative c.in-Some.ensures (c.new.ensures.num ∙ c.from.ensures)
    (c.new.ensures.den ∙ ap (λ n. n + 1) c.from-in-Some.ensures)

pub returns-in-None : goal.returns-in-None
returns-in-None c =
    let erased = c.erased-erased.result.now in
    let e = extremes_of erased in
    let same = c.erased-erased.ensures.extremes in
    let ordered = c.erased-erased.ensures.ordered c.requires in
    let not_negative : int_lt e.least (pos 0) ≡ false = sym c.min_is_negative.ensures ∙ c.if-min_is_negative.false in
    quick-none (ptype_in erased) c.args.bits e c.args.stats.now.extremes same ordered not_negative c.in-None.ensures
