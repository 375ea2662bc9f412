use Rattle.std.proofs.Common.{◌+◌}
use Rattle.vx_stats.proofs.WordLemmas.{one-counted, one-member}
use Rattle.vx_stats.proofs.strings.word_set.WordSet.add_counted.Goals as goal

pub returns-clause-held : goal.returns-clause-held
returns-clause-held c =
    let word = c.args.word in
    let added = c.in_ok-new.ensures in
    λ words held.
    record {
      probed = record { homes = added.probed.homes; reached = added.probed.reached };
      members = λ other some. one-member c.args.self.now.slots.items _ words word other (added.members other some) (held.members other some);
      count = one-counted c.args.self.now words word _ c.in_ok-new.new c.requires.word added.new (λ i. added.count i + c.from.ensures i) held;
    }

pub returns-clause-probed : goal.returns-clause-probed
returns-clause-probed c = record { homes = c.in_ok-new.ensures.probed.homes; reached = c.in_ok-new.ensures.probed.reached }
