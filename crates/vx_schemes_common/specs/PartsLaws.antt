-- A scheme that always makes parts finishes no tree, and makes no other parts.
use Rattle.std.specs.Prelude.{◌≡◌, List}
use Rattle.vx_model.specs.Column.{Column}
use Rattle.vx_model.specs.Tree.{Tree}
use Rattle.vx_scheme.specs.Meaning.{finished, parts}

pub never_finished : (columns : List Column) (tree : Tree) → parts columns ≡ finished tree → ⊥
never_finished columns tree e = cc

pub parts_same : (columns others : List Column) → parts columns ≡ parts others → columns ≡ others
parts_same columns others e = cc
