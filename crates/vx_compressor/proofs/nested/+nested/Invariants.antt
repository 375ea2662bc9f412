use Rattle.std.proofs.Common.{◌≡◌, ◌++◌, drop, length, map}
use Rattle.vx_model.specs.Cascade.{cascade}
use Rattle.vx_model.specs.Column.{column_of}
use Rattle.vx_model.specs.Tree.{node_count, list_count}
use Rattle.vx_compressor.specs.Cascade.{setting, leaf_tree}
use Rattle.vx_compressor.proofs.nested.+nested.Given as goal

-- by the nodes of the plain trees
abbrev pub decreases-plain_tree : goal.decreases-plain_tree
decreases-plain_tree g l = node_count l.plain

abbrev pub decreases-field_trees : goal.decreases-field_trees
decreases-field_trees g l = list_count l.fields

-- the trees so far and those of the fields that are left are those of all
abbrev pub invariant-field_trees-loop-field : goal.invariant-field_trees-loop-field
invariant-field_trees-loop-field g l =
    let leaves = leaf_tree (setting g.S.Scheme.meaning l.compressor l.fn.ctx) in
    record {
      same_ctx : l.ctx ≡ l.fn.ctx;
      trees : l.trees ++ map (λ field. cascade leaves (column_of field)) (drop (length l.yielded) l.fn.fields) ≡ map (λ field. cascade leaves (column_of field)) l.fn.fields;
    }
