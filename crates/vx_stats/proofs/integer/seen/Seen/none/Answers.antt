use Rattle.std.proofs.Common.{ap, refl, arith}
use Rattle.vx_stats.specs.Seen.{total, empties}
use Rattle.vx_stats.proofs.SeenLemmas.{total-empty}
use Rattle.vx_stats.proofs.integer.seen.Seen.none.Goals as goal

pub returns : goal.returns
returns g c =
    let whole = g.T.Integer.whole in
    record {
      totals = λ z. omega (arith, total-empty whole _ _ c.in_ok-slots.slots.items c.in_ok-slots.ensures.items refl (λ y copy. copy.1) z, ap (λ l. total whole l z) c.new.ensures.items);
      some = ap empties c.new.ensures.items;
    }
