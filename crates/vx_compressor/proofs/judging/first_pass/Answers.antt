use Rattle.std.proofs.Common.{◌+◌, ◌++◌, [], drop, sym, subst, ap, ◌∙◌}
use Rattle.vx_model.specs.Column.{column_of}
use Rattle.vx_scheme.specs.Contexts.{site_of, options_of}
use Rattle.vx_compressor.specs.Choice.{best_of}
use Rattle.vx_compressor.specs.Judging.{Holds, told_by, put_off_by}
use Rattle.vx_compressor.proofs.HeldLemmas.{column-held}
use Rattle.vx_compressor.proofs.JudgingLemmas.{best_told-step, best_told-always, all_put_off-step}
use Rattle.vx_compressor.proofs.judging.first_pass.Goals as goal

pub returns-then-is_always-clause-best : goal.returns-then-is_always-clause-best
returns-then-is_always-clause-best g c =
    let l = c.loop-scheme in
    let here = column_of c.args.column.now.array in
    let site = site_of c.args.site.now in
    let same = column-held l.column here (options_of c.args.site.now) l.invariant.holds in
    let best = c.in_ok-hear.ensures.best ∙ ap (λ col. best_of l.all.best (told_by c.scheme-item.result ((g.S.Scheme.meaning c.scheme-item.result).estimate col site) [])) same in
    sym (best_told-always g.S.Scheme.meaning here site c.hear.new.self.best (drop (l.scheme-index + 1) c.args.schemes.now) (sym c.is_always.ensures ∙ c.if-is_always.true))
    ∙ best_told-step g.S.Scheme.meaning here site l.all.best c.hear.new.self.best c.args.schemes.now l.scheme-index c.scheme-item.result c.loop-scheme-test.true c.scheme-item.is best
    ∙ l.invariant.best

pub loop-scheme-preserved : goal.loop-scheme-preserved
loop-scheme-preserved g c =
    let l = c.loop-scheme in
    let here = column_of c.args.column.now.array in
    let site = site_of c.args.site.now in
    let same = column-held l.column here (options_of c.args.site.now) l.invariant.holds in
    let best = c.in_ok-hear.ensures.best ∙ ap (λ col. best_of l.all.best (told_by c.scheme-item.result ((g.S.Scheme.meaning c.scheme-item.result).estimate col site) [])) same in
    record {
      holds = subst (λ col. Holds c.hear.new.column col (options_of c.args.site.now)) same c.in_ok-hear.ensures.holds;
      same_ctx = c.in_ok-hear.ensures.ctx ∙ l.invariant.same_ctx;
      best = best_told-step g.S.Scheme.meaning here site l.all.best c.hear.new.self.best c.args.schemes.now l.scheme-index c.scheme-item.result c.loop-scheme-test.true c.scheme-item.is best ∙ l.invariant.best;
      deferred = all_put_off-step g.S.Scheme.meaning here site l.all.deferred.items c.hear.new.self.deferred.items c.args.schemes.now l.scheme-index c.scheme-item.result c.loop-scheme-test.true c.scheme-item.is
          (c.in_ok-hear.ensures.deferred ∙ ap (λ col. l.all.deferred.items ++ put_off_by c.scheme-item.result ((g.S.Scheme.meaning c.scheme-item.result).estimate col site) []) same) ∙ l.invariant.deferred;
    }
