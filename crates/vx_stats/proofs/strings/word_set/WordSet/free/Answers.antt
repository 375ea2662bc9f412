use Rattle.std.proofs.Common.{◌∙◌, ◌-◌, ap, sym, subst, refl, arith}
use Rattle.vx_stats.specs.Words.{home_of, has, AreReached}
use Rattle.vx_stats.proofs.WordLemmas.{none-has, none-reached}
use Rattle.vx_stats.proofs.strings.word_set.WordSet.free.Goals as goal

pub returns : goal.returns
returns c =
    let homes = c.args.homes in
    let slots = c.saturating_add.result in
    let items = c.in_ok-vec.ensures.items_if_clones_equal (λ word same. same) in
    record {
      probed = record { homes = omega (arith, c.in_ok-vec.ensures.len, c.saturating_add.ensures); reached = subst (AreReached (home_of c.args.shift (homes - 1))) (sym items) (none-reached (home_of c.args.shift (homes - 1)) slots) };
      members = λ word some. ap (λ l. has l word) items ∙ none-has slots word some;
      count = refl;
    }
