use Rattle.std.proofs.Common.{◌≡◌, ◌<◌, length, map, rules, subst}
use Rattle.std.specs.Prelude.{Err}
use Rattle.vx_model.specs.Column.{column_of}
use Rattle.vx_query.specs.Steps.{answer_of, op_of, query_of}
use Rattle.vx_query.proofs.Following.{handed-on, ops-next, ops-refused}
use Rattle.vx_rules.specs.Operations.{all_answered}
use Rattle.vx_rules.specs.Outcomes.{Follows}
use Rattle.vx_query.proofs.chains.apply_all.Goals as goal

pub loop-place-init : goal.loop-place-init
loop-place-init c =
    let ops = c.args.ops.now in
    let some : 0 < length ops = search rules in
    record {
      answer = ops-next ops 0 c.index-ops-0.result (query_of c.args.question.now) c.args.tree.now some c.index-ops-0.is c.in_ok-left.left c.in_ok-left.ensures.answer;
      ctx = c.apply.ensures.ctx;
    }

pub returns-in_err-left-clause-answer : goal.returns-in_err-left-clause-answer
returns-in_err-left-clause-answer c =
    let ops = c.args.ops.now in
    let query = query_of c.args.question.now in
    let e = c.in_err-left.field-0.0 in
    let some : 0 < length ops = search rules in
    handed-on (all_answered (map op_of ops) query (column_of c.args.tree.now)) (λ out answer. answer_of out ≡ answer) c.from_residual.result e c.from_residual.ensures.1
    (ops-refused ops 0 c.index-ops-0.result query c.args.tree.now some c.index-ops-0.is (λ out answer. answer_of out ≡ answer) e c.in_err-left.ensures.answer)

pub returns-in_err-left-2-clause-answer : goal.returns-in_err-left-2-clause-answer
returns-in_err-left-2-clause-answer c =
    let l = c.loop-place in
    let ops = c.args.ops.now in
    let query = query_of c.args.question.now in
    let e = c.in_err-left-2.field-0.0 in
    let here : l.place < length ops = search rules in
    let refused = ops-refused ops l.place c.index-ops-place.result query l.left here c.index-ops-place.is (λ out answer. answer_of out ≡ answer) e c.in_err-left-2.ensures.answer in
    handed-on (all_answered (map op_of ops) query (column_of c.args.tree.now)) (λ out answer. answer_of out ≡ answer) c.from_residual-in_err-left-2.result e c.from_residual-in_err-left-2.ensures.1
    (subst (λ rule. Follows rule (λ out answer. answer_of out ≡ answer) (Err e)) l.invariant.answer refused)
