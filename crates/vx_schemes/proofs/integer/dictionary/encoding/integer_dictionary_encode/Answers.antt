use Rattle.std.proofs.Common.{◌<◌, ◌^◌, length, subst}
use Rattle.vx_base.specs.PlainType.{integer_of}
use Rattle.vx_model.specs.Column.{column_of}
use Rattle.vx_model.specs.Rows.{rows}
use Rattle.vx_model.specs.TreeType.{tree_type}
use Rattle.vx_values.specs.IntsOf.{wholes_of}
use Rattle.vx_model.proofs.MadeLemmas.{rows_fit}
use Rattle.vx_stats.specs.Stats.{distinct_count}
use Rattle.vx_schemes.proofs.Dictionary.Encoding.{told-if, told-values, dictionary-kept}
use Rattle.vx_schemes.proofs.integer.dictionary.encoding.integer_dictionary_encode.Goals as goal

pub encoded-requires-clause-values : goal.encoded-requires-clause-values
encoded-requires-clause-values c =
    let t = c.args.array.now in
    told-values (integer_of (tree_type t)) (rows t) c.args.stats.now c.requires.stats c.requires.some (wholes_of c.in_ok-values.values) c.in_ok-values.ensures.values

pub returns-clause-kept : goal.returns-clause-kept
returns-clause-kept c =
    let t = c.args.array.now in
    let values = told-values (integer_of (tree_type t)) (rows t) c.args.stats.now c.requires.stats c.requires.some (wholes_of c.in_ok-values.values) c.in_ok-values.ensures.values in
    let short = told-if (integer_of (tree_type t)) (rows t) c.args.stats.now c.requires.stats c.requires.some (λ counts. length (wholes_of c.in_ok-values.values) < 2 ^ 32) c.in_ok-values.ensures.few in
    let few : distinct_count (rows t) < 2 ^ 32 = subst (λ zs. length zs < 2 ^ 32) values short in
    dictionary-kept (column_of t) c.requires.integer (rows_fit t c.known.ensures) few c.encoded.result c.encoded.ensures
