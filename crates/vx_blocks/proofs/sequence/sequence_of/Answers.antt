use Rattle.std.proofs.Common.{◌-◌, ◌∙◌, pos, ◌+ℤ◌, ◌-ℤ◌, ◌*ℤ◌, rules, length, map, get_or, ap, sym, arith, FitsSigned, Some}
use Rattle.std.specs.Int.{w128}
use Rattle.std.proofs.lemmas.Bool.{and_parts}
use Rattle.std.proofs.lemmas.Int.{to_z-of_z}
use Rattle.std.proofs.lemmas.List.{length-map}
use Rattle.vx_base.specs.Integers.{lies_in}
use Rattle.vx_base.specs.Wrapping.{wrap}
use Rattle.vx_blocks.proofs.Sequences.{whole-at, step-told, sequence-apart, sequence-no_step, sequence-steps}
use Rattle.vx_blocks.proofs.sequence.sequence_of.Goals as goal

pub returns-then-not-are_apart : goal.returns-then-not-are_apart
returns-then-not-are_apart g c =
    let whole = g.T.Integer.whole in
    let xs = c.args.values.now in
    let last = length xs - 1 in
    let fits : FitsSigned w128 c.step_between-step.result = search rules in
    let step = step-told whole xs _ _ _ (omega arith) c.index-values-0.is c.index-values-1.is fits c.step_between-step.ensures in
    let first = whole-at whole xs 0 _ (omega arith) c.index-values-0-2.is in
    let final = whole-at whole xs last _ (omega arith) c.index-values-last.is in
    sym (sequence-apart g.T.Integer.kind (map whole xs) last (omega (arith, length-map xs whole)) (λ e.
    let same = c.are_apart.ensures.apart.1 ((λ i. final i -ℤ first i) ∙ e ∙ ap (λ s. pos last *ℤ s) (sym step)) in
    absurd cc))

pub returns-then-not-each_steps : goal.returns-then-not-each_steps
returns-then-not-each_steps g c =
    let whole = g.T.Integer.whole in
    let kind = g.T.Integer.kind in
    let xs = c.args.values.now in
    let last = length xs - 1 in
    let fits : FitsSigned w128 c.step_between-step.result = search rules in
    let step = step-told whole xs _ _ _ (omega arith) c.index-values-0.is c.index-values-1.is fits c.step_between-step.ensures in
    let wrapped = c.in-Some.ensures ∙ step in
    let first = whole-at whole xs 0 _ (omega arith) c.index-values-0-2.is in
    let final = whole-at whole xs last _ (omega arith) c.index-values-last.is in
    let held = and_parts (lies_in kind (whole c.index-values-0-2.result)) (lies_in kind (whole c.index-values-last.result)) c.are_apart.ensures.held in
    sym (sequence-no_step kind (map whole xs) last (omega (arith, length-map xs whole)) (ap (lies_in kind) (sym first) ∙ held.0) (ap (lies_in kind) (sym final) ∙ held.1) (λ each.
    let same = c.each_steps.ensures.1 (λ k some within. each k some (omega (arith, length-map xs whole)) ∙ ap (λ s. wrap kind (get_or (map whole xs) (k - 1) (pos 0) +ℤ s)) (sym wrapped)) in
    absurd cc))

pub returns : goal.returns
returns g c =
    let whole = g.T.Integer.whole in
    let kind = g.T.Integer.kind in
    let xs = c.args.values.now in
    let last = length xs - 1 in
    let fits : FitsSigned w128 c.step_between-step.result = search rules in
    let step = step-told whole xs _ _ _ (omega arith) c.index-values-0.is c.index-values-1.is fits c.step_between-step.ensures in
    let wrapped = c.in-Some.ensures ∙ step in
    let first = whole-at whole xs 0 _ (omega arith) c.index-values-0-2.is in
    let final = whole-at whole xs last _ (omega arith) c.index-values-last.is in
    let held = and_parts (lies_in kind (whole c.index-values-0-2.result)) (lies_in kind (whole c.index-values-last.result)) c.are_apart.ensures.held in
    let fits-first : FitsSigned w128 c.to_whole.result = search rules in
    let answer = to_z-of_z w128 c.to_whole.result fits-first ∙ c.to_whole.ensures.value ∙ whole-at whole xs 0 _ (omega arith) c.index-values-0-3.is in
    let apart = sym (λ i. final i -ℤ first i) ∙ c.are_apart.ensures.apart.0 c.if-not-are_apart.false ∙ ap (λ s. pos last *ℤ s) step in
    (λ i. Some (answer i, step i))
    ∙ sym (sequence-steps kind (map whole xs) last (omega (arith, length-map xs whole)) (ap (lies_in kind) (sym first) ∙ held.0) (ap (lies_in kind) (sym final) ∙ held.1)
    (λ k some within. c.each_steps.ensures.0 c.if-not-each_steps.false k some (omega (arith, length-map xs whole)) ∙ ap (λ s. wrap kind (get_or (map whole xs) (k - 1) (pos 0) +ℤ s)) wrapped)
    (omega arith) (ap (lies_in kind) (sym wrapped) ∙ c.to_whole-step.ensures.held) apart)
