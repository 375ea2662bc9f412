use Rattle.std.proofs.Common.{◌∙◌, sym}
use Rattle.vx_model.specs.Column.{column_of}
use Rattle.vx_schemes_text.proofs.DictionaryParts.{pair-admitted}
use Rattle.vx_schemes_text.proofs.dictionary.joined_by.Goals as goal

pub dictionary_tree-requires : goal.dictionary_tree-requires
dictionary_tree-requires c = pair-admitted (column_of c.args.array.now) c.args.trees c.in-Some.values c.in-Some.codes c.requires.bytes (sym c.in-Some.is ∙ c.pair_of.ensures) c.requires.trees
