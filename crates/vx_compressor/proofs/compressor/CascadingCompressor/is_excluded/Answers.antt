use Rattle.std.proofs.Common.{◌∙◌, ap, map}
use Rattle.vx_compressor.specs.Bans.{ban_of, all_bans}
use Rattle.vx_compressor.proofs.BanLemmas.{excluded-here}
use Rattle.vx_compressor.proofs.compressor.CascadingCompressor.is_excluded.Goals as goal

pub returns : goal.returns
returns g c =
    let meaning = g.S.Scheme.meaning in
    let collected = ap (map ban_of) c.as_slice.ensures.value ∙ c.self.invariant.0 ∙ ap (λ l. all_bans (map meaning l)) c.self.view_is in
    c.is_excluded.ensures ∙ excluded-here (map meaning c.args.self.now) (map ban_of c.as_slice.result.now) _ _ _ _ collected c.id.ensures c.cascade_history.ensures.history
