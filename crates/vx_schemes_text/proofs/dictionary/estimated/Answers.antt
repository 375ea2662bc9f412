use Rattle.vx_model.specs.Rows.{rows}
use Rattle.vx_schemes_common.proofs.KeptLemmas.{no_refusal, kept_or_decided}
use Rattle.vx_schemes_text.proofs.DictionaryParts.{estimate-told}
use Rattle.vx_schemes_text.proofs.dictionary.estimated.Goals as goal

pub returns-clause-answer : goal.returns-clause-answer
returns-clause-answer c =
    let column = c.args.column.now in
    let stats = kept_or_decided column.strings_kept _ _ _ (no_refusal (rows column.array) c.requires.few) c.in_ok-stats.ensures.answer in
    estimate-told _ column.options (rows column.array) c.estimate_by.result stats c.requires.options c.estimate_by.ensures
