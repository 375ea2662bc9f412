use Rattle.std.proofs.Common.{◌∙◌, map}
use Rattle.vx_compressor.specs.Bans.{ban_of}
use Rattle.vx_compressor.proofs.BanLemmas.{all_bans-step}
use Rattle.vx_compressor.proofs.bans.bans_of.Goals as goal

pub loop-scheme-preserved : goal.loop-scheme-preserved
loop-scheme-preserved g c =
    let l = c.loop-scheme in
    all_bans-step g.S.Scheme.meaning (map ban_of l.bans.items) (map ban_of c.push_bans.new.bans.items) c.args.schemes.now l.scheme-index c.scheme-item.result c.loop-scheme-test.true c.scheme-item.is c.in_ok-push_bans.ensures
    ∙ l.invariant
