use Rattle.std.proofs.Common.{◌≡◌, None, map, drop}
use Rattle.vx_model.specs.Column.{column_of}
use Rattle.vx_scheme.specs.Contexts.{site_of, options_of}
use Rattle.vx_compressor.specs.Judging.{Holds, put_off}
use Rattle.vx_compressor.proofs.JudgingLemmas.{best_told, all_put_off}
use Rattle.vx_compressor.proofs.judging.first_pass.Given as goal

-- what is told so far and what the schemes that are left tell is what all tell
abbrev pub invariant-loop-scheme : goal.invariant-loop-scheme
invariant-loop-scheme g l =
    let meaning = g.S.Scheme.meaning in
    let here = column_of l.fn.column.array in
    let site = site_of l.site in
    record {
      holds : Holds l.column here (options_of l.site);
      same_ctx : l.ctx ≡ l.fn.ctx;
      best : best_told meaning here site l.all.best (drop l.scheme-index l.schemes) ≡ best_told meaning here site None l.schemes;
      deferred : all_put_off meaning here site l.all.deferred.items (drop l.scheme-index l.schemes) ≡ put_off here site (map meaning l.schemes);
    }
