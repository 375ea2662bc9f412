use Rattle.std.proofs.Common.{◌≡◌, ◌<◌, ◌^◌, length, None, sym, subst}
use Rattle.vx_model.specs.Column.{column_of}
use Rattle.vx_model.specs.Refusals.{dict_refusal}
use Rattle.vx_model.specs.Rows.{rows}
use Rattle.vx_model.specs.Tree.{Tree}
use Rattle.vx_model.proofs.MadeLemmas.{rows_fit}
use Rattle.vx_stats.specs.Stats.{distinct_count}
use Rattle.vx_schemes.proofs.Dictionary.Encoding.{dictionary-accepted}
use Rattle.vx_schemes.proofs.integer.dictionary.encoding.plain_encoded.Goals as goal

pub dictionary_tree-requires : goal.dictionary_tree-requires
dictionary_tree-requires c =
    let few : distinct_count (rows c.args.array.now) < 2 ^ 32 = subst (λ zs. length zs < 2 ^ 32) c.requires.values c.requires.few in
    subst (λ (pair : Tree × Tree). dict_refusal pair.1 pair.0 ≡ None) (sym c.in_ok-values.ensures) (dictionary-accepted (column_of c.args.array.now) c.requires.integer (rows_fit c.args.array.now c.known.ensures) few)
