-- What the dictionaries of integers, texts and binaries share: the type of their codes, and the tree of a pair.
use Rattle.std.specs.Prelude.{ℕ, ◌-◌, pos, Option, None, Some}
use Rattle.std.specs.Option.{unwrap_or}
use Rattle.vx_base.specs.declared.ptype.PType.{PType}
use Rattle.vx_base.specs.declared.ptype.PType.TheVariants.{U8}
use Rattle.vx_base.specs.Narrow.{narrow_of}
use Rattle.vx_model.specs.Column.{Column}
use Rattle.vx_model.specs.Plain.{plain}
use Rattle.vx_model.specs.Tree.{Tree, dict}

-- the narrowest unsigned type that holds the codes of count values
abbrev pub code_type : ℕ → PType
code_type count = unwrap_or (narrow_of (pos 0) (pos (count - 1))) U8

-- the dictionary of the pair, values first, then codes; plain unless there are two trees
abbrev pub dictionary_or_plain : Column → Option (Tree × Tree) → Tree
dictionary_or_plain c None = plain c
dictionary_or_plain c (Some pair) = dict pair.1 pair.0
