use Rattle.std.proofs.Common.{◌∙◌, ◌++◌, ap, List, ℕ, arith}
use Rattle.std.specs.Prelude.{nat_le}
use Rattle.std.proofs.lemmas.Bool.{and_parts}
use Rattle.std.proofs.lemmas.Result.{on_ok_weaker}
use Rattle.vx_spelling.specs.Storable.{all_within, depth}
use Rattle.vx_spelling.specs.TreeSpelling.{tree_text}
use Rattle.vx_file.proofs.FileSteps.{framed}
use Rattle.vx_file.proofs.writing.put_frame.Goals as goal

pub tree_length-requires : goal.tree_length-requires
tree_length-requires c = (and_parts (nat_le (depth c.args.tree.now) 64) (all_within c.args.tree.now) c.requires).1

pub put_tree-requires : goal.put_tree-requires
put_tree-requires c = (and_parts (nat_le (depth c.args.tree.now) 64) (all_within c.args.tree.now) c.requires).1

pub returns : goal.returns
returns c =
    let new = c.put_tree.new.out in
    let text = tree_text c.args.tree.now in
    on_ok_weaker c.put_tree.result
    (λ e.
    framed c.args.out.now.items c.put_varint.new.out.items new.items c.args.tree.now _ c.in_ok-length.ensures c.in_ok-put_varint.ensures (e ∙ ap (λ (x : List ℕ). x ++ text) c.reserve.ensures.items)
    (omega (arith, new.ok.0, new.ok.1, new.small))) c.put_tree.ensures
