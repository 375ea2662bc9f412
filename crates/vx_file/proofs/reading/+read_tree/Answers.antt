use Rattle.std.proofs.Common.{◌∙◌, sym, arith, List, ℕ, ◌∷◌, []}
use Rattle.std.proofs.lemmas.List.{length-append}
use Rattle.std.specs.List.{zip}
use Rattle.vx_codec.specs.Format.{Parse, both}
use Rattle.vx_codec.specs.Lists.{repeated_at}
use Rattle.vx_codec.proofs.Loops.{handed_on, repeated_next}
use Rattle.vx_model.specs.Tree.{Tree}
use Rattle.vx_spelling.specs.Fields.{name}
use Rattle.vx_spelling.specs.TreeSpelling.{tree_at, trees_by}
use Rattle.vx_file.proofs.TreeSteps.{tree_failed, tree_found}
use Rattle.vx_file.proofs.Zips.{zip-push}
use Rattle.vx_file.proofs.reading.+read_tree.Goals as goal

pub tree::read_tree-returns-then-not-is_within : goal.tree::read_tree-returns-then-not-is_within
tree::read_tree-returns-then-not-is_within t c =
    tree_found c.args.depth c.args.bytes.now c.in_ok-id.id c.in_ok-id.rest.now c.in_ok-tree.tree c.in_ok-tree.rest.now _ (omega arith) c.in_ok-id.ensures c.in_ok-tree.ensures (sym c.is_within.ensures ∙ c.if-not-is_within.true)

pub tree::read_tree-returns-in_err-tree : goal.tree::read_tree-returns-in_err-tree
tree::read_tree-returns-in_err-tree t c =
    let why = c.in_err-tree.field-0.0 in
    handed_on (λ x. (x.0, x.1.now)) c.from_residual-in_err-tree.result why (tree_at c.args.depth c.args.bytes.now) c.from_residual-in_err-tree.ensures.1
    (tree_failed c.args.depth c.args.bytes.now c.in_ok-id.id c.in_ok-id.rest.now why (omega arith) c.in_ok-id.ensures c.in_err-tree.ensures)

pub tree::read_tree-returns : goal.tree::read_tree-returns
tree::read_tree-returns t c =
    tree_found c.args.depth c.args.bytes.now c.in_ok-id.id c.in_ok-id.rest.now c.in_ok-tree.tree c.in_ok-tree.rest.now _ (omega arith) c.in_ok-id.ensures c.in_ok-tree.ensures (sym c.is_within.ensures ∙ c.if-not-is_within.false)

abbrev field_at : ℕ → Parse (List ℕ × Tree)
field_at d = (both name (trees_by (tree_at d))).parse

pub nested::read_fields-loop-preserved : goal.nested::read_fields-loop-preserved
nested::read_fields-loop-preserved t c =
    let e = c.in_ok-push_field.ensures.pushed in
    let n = c.in_ok-field.field.0 in
    let s = c.in_ok-field.field.1 in
    record {
      lengths = rw (e.0, e.1) (omega (arith, c.loop.invariant.lengths, length-append c.loop.names (n ∷ []), length-append c.loop.fields (s ∷ [])));
      read = repeated_next (field_at c.args.depth) (zip c.loop.names c.loop.fields) c.args.count c.loop.counter c.loop.rest.now c.in_ok-field.field c.in_ok-field.after.now (repeated_at (field_at c.args.depth) c.args.count c.args.bytes.now) (zip c.push_field.new.names c.push_field.new.fields)
          c.loop-test.true c.in_ok-field.ensures (rw (e.0, e.1) (zip-push c.loop.names c.loop.fields n s c.loop.invariant.lengths)) c.loop.invariant.read;
    }
