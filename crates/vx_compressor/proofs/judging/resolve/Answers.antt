use Rattle.std.proofs.Common.{sym, subst}
use Rattle.vx_base.specs.Answers.{OrMemory}
use Rattle.vx_model.specs.Column.{column_of}
use Rattle.vx_scheme.specs.Asked.{HasPutOff}
use Rattle.vx_scheme.specs.Contexts.{site_of, options_of}
use Rattle.vx_scheme.specs.Resolved.{IsResolved}
use Rattle.vx_compressor.proofs.HeldLemmas.{site_tree-held, value-held, taken-held, column-held}
use Rattle.vx_compressor.proofs.judging.resolve.Goals as goal

pub resolve_estimate-requires-clause-column : goal.resolve_estimate-requires-clause-column
resolve_estimate-requires-clause-column g c = site_tree-held c.args.column.now (column_of c.args.column.now.array) (options_of c.args.site.now) c.requires.holds c.requires.askable

pub resolve_estimate-requires-clause-value : goal.resolve_estimate-requires-clause-value
resolve_estimate-requires-clause-value g c = value-held c.args.column.now (column_of c.args.column.now.array) (options_of c.args.site.now) c.requires.holds c.requires.value

pub returns-clause-answer : goal.returns-clause-answer
returns-clause-answer g c =
    let m = g.S.Scheme.meaning c.args.scheme.now in
    let here = column_of c.args.column.now.array in
    let opts = options_of c.args.site.now in
    let taken = taken-held c.args.column.now here opts c.requires.holds m c.requires.ready in
    let same = column-held c.args.column.now here opts c.requires.holds in
    let put_off = subst (λ col. HasPutOff m col (site_of c.args.site.now)) (sym same) c.requires.put_off in
    subst (λ col. OrMemory c.resolve_estimate.result (IsResolved c.args.threshold (m.resolve col (site_of c.args.site.now)))) same (c.resolve_estimate.ensures.answer taken put_off)
