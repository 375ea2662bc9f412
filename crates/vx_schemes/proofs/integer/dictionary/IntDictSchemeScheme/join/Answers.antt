use Rattle.std.proofs.Common.{◌≡◌, ◌∙◌, sym, subst, true, rules}
use Rattle.vx_base.specs.PlainType.{is_integer}
use Rattle.vx_model.specs.Column.{column_of}
use Rattle.vx_model.specs.TreeType.{tree_type}
use Rattle.vx_model.specs.WellFormed.{WellFormed}
use Rattle.vx_model.proofs.MadeLemmas.{rows_fit}
use Rattle.vx_schemes.proofs.Dictionary.Tree.{pair-admitted}
use Rattle.vx_schemes.proofs.integer.dictionary.IntDictSchemeScheme.join.Goals as goal

pub dictionary_tree-requires : goal.dictionary_tree-requires
dictionary_tree-requires c =
    let t = c.args.column.now.array in
    let well : WellFormed t = subst WellFormed c.array-array.ensures.array c.known.ensures in
    let integer : is_integer (tree_type t) ≡ true = search rules in
    pair-admitted (column_of t) c.args.trees c.in-Some.values c.in-Some.codes integer (rows_fit t well) (sym c.in-Some.is ∙ c.pair_of.ensures) c.requires.trees
