use Rattle.std.proofs.Common.{◌≡◌, drop, map}
use Rattle.vx_model.specs.Column.{column_of}
use Rattle.vx_query.specs.Steps.{op_of, query_of}
use Rattle.vx_rules.specs.Operations.{all_answered}
use Rattle.vx_query.proofs.chains.apply_all.Given as goal

-- what is answered after the operations that are left is what is answered after all
abbrev pub invariant-loop-place : goal.invariant-loop-place
invariant-loop-place l = record {
  answer : all_answered (map op_of (drop l.place l.ops)) (query_of l.question) (column_of l.left) ≡ all_answered (map op_of l.ops) (query_of l.question) (column_of l.tree);
  ctx : l.ctx ≡ l.fn.ctx;
}
