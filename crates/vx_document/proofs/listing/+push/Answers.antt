use Rattle.std.proofs.Common.{◌++◌, List, string_bytes, sym, ap, ◌∙◌, arith}
use Rattle.std.proofs.lemmas.List.{take_all}
use Rattle.std.specs.List.{flat_map}
use Rattle.vx_model.specs.Tree.{Tree}
use Rattle.vx_document.specs.Listing.{listing}
use Rattle.vx_document.proofs.Listings.{listings-of_list}
use Rattle.vx_document.proofs.listing.+push.Goals as goal

pub push_trees-returns : goal.push_trees-returns
push_trees-returns t c =
    let l = c.loop-tree in
    let all = take_all l.tree-index c.as_slice-tree-items.result.now (omega arith) ∙ c.as_slice-tree-items.ensures in
    l.invariant ∙ ap (λ (ts : List Tree). string_bytes c.args.text.now ++ flat_map (listing c.args.indent.now) ts) all ∙ ap (λ text. string_bytes c.args.text.now ++ text) (sym (listings-of_list c.args.indent.now c.args.trees.now))
