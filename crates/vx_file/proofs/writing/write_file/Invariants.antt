use Rattle.std.proofs.Common.{◌≡◌, ◌++◌, drop, true}
use Rattle.vx_codec.specs.Lists.{spell_all}
use Rattle.vx_spelling.specs.FileSpelling.{file_text, framed_tree}
use Rattle.vx_file.specs.Answers.{are_storable}
use Rattle.vx_file.proofs.writing.write_file.Given as goal

-- what is written and what the rest writes yet are the file
abbrev pub invariant-loop-tree : goal.invariant-loop-tree
invariant-loop-tree l = record {
  stored : are_storable l.tree-items ≡ true;
  text : l.out.items ++ spell_all framed_tree.spell (drop l.tree-index l.tree-items) ≡ file_text l.trees;
}
