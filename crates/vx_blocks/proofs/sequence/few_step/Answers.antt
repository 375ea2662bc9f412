use Rattle.std.proofs.Common.{◌<◌, ◌≤◌, ℕ, length, map, arith, below_more}
use Rattle.std.proofs.lemmas.Bool.{and_parts, and_from}
use Rattle.vx_blocks.specs.Sequence.{IsWrappedStep}
use Rattle.vx_blocks.proofs.Sequences.{wrapped-told, wrapped-told-back}
use Rattle.vx_blocks.proofs.sequence.few_step.Goals as goal

pub loop-i-preserved : goal.loop-i-preserved
loop-i-preserved g c =
    let whole = g.T.Integer.whole in
    let kind = g.T.Integer.kind in
    let xs = c.args.values.now in
    let i = c.loop-i.i in
    let P : ℕ → Type 0 = λ k. c.args.start ≤ k → IsWrappedStep kind (map whole xs) (whole c.args.step) k in
    let some : 0 < i = omega arith in
    let within : i < length xs = omega arith in
    let told = wrapped-told whole xs kind (whole c.args.step) i _ _ some within c.index-values-i.is c.index-values-i-in-loop-i.is in
    let back = wrapped-told-back whole xs kind (whole c.args.step) i _ _ some within c.index-values-i.is c.index-values-i-in-loop-i.is in
    record {
      there = λ both. let parts = and_parts c.loop-i.all c.is_step-all.result both in λ k first last. below_more P i (λ j less from. c.loop-i.invariant.there parts.0 j from less) (λ from. told (c.is_step-all.ensures.0 parts.1)) k last first;
      back = λ each. and_from _ _ (c.loop-i.invariant.back (λ k first last. each k first (omega arith))) (c.is_step-all.ensures.1 (back (each i (omega arith) (omega arith))));
    }

pub returns : goal.returns
returns g c = (λ all k first last. c.loop-i.invariant.there all k first (omega arith), λ each. c.loop-i.invariant.back (λ k first last. each k first (omega arith)))
