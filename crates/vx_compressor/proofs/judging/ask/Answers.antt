use Rattle.vx_model.specs.Column.{column_of}
use Rattle.vx_scheme.specs.Contexts.{site_of, options_of}
use Rattle.vx_compressor.proofs.HeldLemmas.{site_tree-held, value-held, taken-held, column-held, answers_to}
use Rattle.vx_compressor.proofs.judging.ask.Goals as goal

pub expected_compression_ratio-requires-clause-column : goal.expected_compression_ratio-requires-clause-column
expected_compression_ratio-requires-clause-column g c = site_tree-held c.args.column.now (column_of c.args.column.now.array) (options_of c.args.site.now) c.requires.holds c.requires.askable

pub expected_compression_ratio-requires-clause-value : goal.expected_compression_ratio-requires-clause-value
expected_compression_ratio-requires-clause-value g c = value-held c.args.column.now (column_of c.args.column.now.array) (options_of c.args.site.now) c.requires.holds c.requires.value

pub returns-clause-answer : goal.returns-clause-answer
returns-clause-answer g c =
    let m = g.S.Scheme.meaning c.args.scheme.now in
    let here = column_of c.args.column.now.array in
    let opts = options_of c.args.site.now in
    let taken = taken-held c.args.column.now here opts c.requires.holds m c.requires.ready in
    answers_to c.expected_compression_ratio.result (λ col. m.estimate col (site_of c.args.site.now)) _ _ (column-held c.args.column.now here opts c.requires.holds) (c.expected_compression_ratio.ensures.answer taken)
